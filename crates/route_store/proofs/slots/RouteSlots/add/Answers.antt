use Rattle.std.proofs.Common.{◌≡◌, ◌<◌, ◌++◌, ◌∷◌, [], false, cond, Some, length, subst, sym, ap, ◌∙◌, arith}
use Rattle.std.specs.List.{list_any}
use Rattle.std.specs.Map.{lookup}
use Rattle.list_lemmas.proofs.Found.{on-ok, then-at_ok}
use Rattle.route_store.specs.Keys.{same_route_key, key_of}
use Rattle.route_store.specs.Slots.{RoutesView, present, IsPlaced}
use Rattle.route_store.specs.declared.key.RouteKey.{RouteKey}
use Rattle.route_store.proofs.Placed.{placed-add, room-both, keyed}
use Rattle.route_store.proofs.Places.{present-append, length-present}
use Rattle.route_store.proofs.slots.RouteSlots.add.Goals as goal

pushed : (c : goal.After-push) → c.push.new.self.items ≡ c.self.inside.slots.items ++ Some c.args.route ∷ []
pushed c =
    let room = room-both c.self.inside.slots c.self.inside.places (subst (λ (v : RoutesView). 0 < v.room) (sym c.self.view_is) c.requires.room) in
    c.push.ensures.items ∙ then-at_ok c.push.result _ _ (c.push.ensures.succeeds room.0)

pub invariant_of-self : goal.invariant_of-self
invariant_of-self c =
    let room = room-both c.self.inside.slots c.self.inside.places (subst (λ (v : RoutesView). 0 < v.room) (sym c.self.view_is) c.requires.room) in
    let put = on-ok c.insert.result _ (c.insert.ensures.succeeds room.1) c.insert.ensures.updates in
    let fresh = subst (λ (v : RoutesView). list_any (keyed (key_of c.args.route)) v.routes ≡ false) (sym c.self.view_is) c.requires.fresh in
    let last : c.len-place.result ≡ length c.self.inside.slots.items = omega (arith, c.self.inside.slots.ok.0, c.len-place.ensures) in
    let puts : (q : RouteKey) → lookup (same_route_key q) c.insert.new.self.entries ≡ cond (same_route_key (key_of c.args.route) q) (Some (length c.self.inside.slots.items)) (lookup (same_route_key q) c.self.inside.places.entries)
    = λ q.
    put.0 q ∙ ap (λ n. cond (same_route_key c.of.result q) (Some n) (lookup (same_route_key q) c.self.inside.places.entries)) last
    ∙ ap (λ k. cond (same_route_key k q) (Some (length c.self.inside.slots.items)) (lookup (same_route_key q) c.self.inside.places.entries)) c.of.ensures in
    subst (λ slots. IsPlaced slots c.insert.new.self.entries) (sym (pushed c))
    (placed-add c.self.inside.slots.items c.self.inside.places.entries c.insert.new.self.entries c.args.route c.self.invariant fresh puts)

pub returns-clause-routes : goal.returns-clause-routes
returns-clause-routes c =
    ap present (pushed c) ∙ present-append c.self.inside.slots.items (Some c.args.route ∷ []) ∙ ap (λ (v : RoutesView). v.routes ++ c.args.route ∷ []) c.self.view_is

pub returns-clause-small : goal.returns-clause-small
returns-clause-small c = let some = length-present c.push.new.self.items in omega (arith, some, c.push.new.self.ok.0, c.push.new.self.ok.1, c.push.new.self.small)
