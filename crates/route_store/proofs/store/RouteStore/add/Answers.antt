use Rattle.std.proofs.Common.{◌≡◌, ◌+◌, ◌<◌, ◌++◌, ◌∷◌, [], ℕ, cond, Some, false, nat_eq, length, length-append, subst, sym, ap, ◌∙◌, arith}
use Rattle.indexmap.specs.IndexMap.{spare}
use Rattle.list_lemmas.proofs.Found.{on-ok}
use Rattle.list_lemmas.proofs.Numbers.{eqb-refl}
use Rattle.route_store.specs.Slots.{RoutesView}
use Rattle.route_store.proofs.Counted.{count, count-is, count-le, count-push, counted-by}
use Rattle.route_store.proofs.store.RouteStore.add.Goals as goal

pub overflow_add-count : goal.overflow_add-count
overflow_add-count c =
    let is = count-is c.args.route.link c.count_in-count.result c.self.inside.routes.routes c.self.inside.counts.entries c.self.invariant c.count_in-count.ensures in
    let few = count-le c.args.route.link c.self.inside.routes.routes in
    let long : length c.add.new.self.routes ≡ length c.self.inside.routes.routes + 1 = ap (λ rs. length rs) c.add.ensures.routes ∙ length-append c.self.inside.routes.routes (c.args.route ∷ []) in
    omega (arith, is, few, long, c.add.ensures.small)

pub invariant_of-self : goal.invariant_of-self
invariant_of-self c =
    let room : 0 < spare c.self.inside.counts = let both = subst (λ (v : RoutesView). 0 < v.room) (sym c.self.view_is) c.requires.room in omega (arith, both) in
    let put = on-ok c.insert.result _ (c.insert.ensures.succeeds room) c.insert.ensures.updates in
    let is = count-is c.args.route.link c.count_in-count.result c.self.inside.routes.routes c.self.inside.counts.entries c.self.invariant c.count_in-count.ensures in
    let routes = c.self.inside.routes.routes in
    let link = c.args.route.link in
    let here : c.count_in-count.result + 1 ≡ count link (routes ++ c.args.route ∷ []) =
    ap (λ n. n + 1) is ∙ sym (count-push link routes c.args.route ∙ ap (λ b. cond b (count link routes + 1) (count link routes)) (eqb-refl link)) in
    let others : (q : ℕ) → nat_eq link q ≡ false → count q (routes ++ c.args.route ∷ []) ≡ count q routes
    = λ q other. count-push q routes c.args.route ∙ ap (λ b. cond b (count q routes + 1) (count q routes)) other in
    λ q.
    counted-by routes c.add.new.self.routes c.self.inside.counts.entries c.insert.new.self.entries link (Some (c.count_in-count.result + 1)) c.self.invariant put.0
    (here ∙ sym (ap (count link) c.add.ensures.routes)) (λ q other. ap (count q) c.add.ensures.routes ∙ others q other) q
