use Rattle.std.proofs.Common.{◌≡◌, ◌-◌, Some, false, not, filter, nat_eq, sym, ap, ◌∙◌, arith}
use Rattle.std.specs.List.{list_any}
use Rattle.std.specs.Map.{lookup}
use Rattle.list_lemmas.proofs.Anys.{filter-others}
use Rattle.list_lemmas.proofs.Found.{on-ok}
use Rattle.networks.specs.Network.{is_keyed_by}
use Rattle.route_store.specs.Slots.{RoutesView}
use Rattle.route_store.proofs.Counted.{count, count-is, count-there, count-remove, count-others, keyed-other, counted-by, ok-there, there-some}
use Rattle.route_store.proofs.Placed.{keyed}
use Rattle.route_store.proofs.store.RouteStore.remove.Goals as goal

pub returns-then-not-has : goal.returns-then-not-has
returns-then-not-has c =
    let none : list_any (keyed c.new-key.result) c.self.inside.routes.routes ≡ false = sym c.has.ensures.there ∙ c.if-not-has.true in
    ap (λ (v : RoutesView). v.routes) (sym c.self.view_is) ∙ sym (filter-others (keyed c.new-key.result) c.self.inside.routes.routes none)
    ∙ ap (λ k. filter (λ r. not (keyed k r)) c.self.inside.routes.routes) c.new-key.ensures
    ∙ ap (λ (v : RoutesView). filter (λ r. not (is_keyed_by c.args.link c.args.key.now r)) v.routes) c.self.view_is

pub overflow_sub-count : goal.overflow_sub-count
overflow_sub-count c =
    let counted : c.count_in-count.result ≡ count c.new-key.result.link c.self.inside.routes.routes =
    count-is c.args.link c.count_in-count.result c.self.inside.routes.routes c.self.inside.counts.entries c.self.invariant c.count_in-count.ensures
    ∙ ap (λ k. count k.link c.self.inside.routes.routes) (sym c.new-key.ensures) in
    let least = count-there c.new-key.result c.self.inside.routes.routes c.has.ensures.apart (sym c.has.ensures.there ∙ c.if-not-has.false) in
    omega (arith, least, counted)

pub invariant_of-self : goal.invariant_of-self
invariant_of-self c =
    let counted : c.count_in-count.result ≡ count c.new-key.result.link c.self.inside.routes.routes =
    count-is c.args.link c.count_in-count.result c.self.inside.routes.routes c.self.inside.counts.entries c.self.invariant c.count_in-count.ensures
    ∙ ap (λ k. count k.link c.self.inside.routes.routes) (sym c.new-key.ensures) in
    let least = count-there c.new-key.result c.self.inside.routes.routes c.has.ensures.apart (sym c.has.ensures.there ∙ c.if-not-has.false) in
    let key = c.new-key.result in
    let routes = c.self.inside.routes.routes in
    let link_is : key.link ≡ c.args.link = ap (λ k. k.link) c.new-key.ensures in
    let stands = there-some (lookup (nat_eq c.args.link) c.self.inside.counts.entries) c.count_in-count.result c.count_in-count.ensures (omega (arith, least, counted)) in
    let put = on-ok c.insert.result _ (ok-there c.insert.result _ stands.0 stands.1 c.insert.ensures.absent) c.insert.ensures.updates in
    let less = count-remove key routes c.has.ensures.apart (sym c.has.ensures.there ∙ c.if-not-has.false) in
    let written : c.count_in-count.result - 1 ≡ count key.link (filter (λ r. not (keyed key r)) routes) = omega (arith, less, counted) in
    λ q.
    counted-by routes c.remove.new.self.routes c.self.inside.counts.entries c.insert.new.self.entries c.args.link (Some (c.count_in-count.result - 1)) c.self.invariant put.0
    (written ∙ ap (λ l. count l (filter (λ r. not (keyed key r)) routes)) link_is ∙ sym (ap (count c.args.link) c.remove.ensures))
    (λ q other. ap (count q) c.remove.ensures ∙ count-others (keyed key) q (keyed-other key q (ap (λ l. nat_eq l q) link_is ∙ other)) routes) q
