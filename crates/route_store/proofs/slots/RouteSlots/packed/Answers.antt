use Rattle.std.proofs.Common.{◌≡◌, ◌≤◌, ◌+◌, ◌++◌, ◌∷◌, length, true, subst, sym, ap, ◌∙◌, arith}
use Rattle.list_lemmas.proofs.Pairs.{pairwise-before}
use Rattle.route_store.specs.Keys.{same_route_key, key_of, are_apart}
use Rattle.route_store.specs.Slots.{RoutesView}
use Rattle.route_store.proofs.Places.{length-present}
use Rattle.route_store.proofs.slots.RouteSlots.packed.Goals as goal

pub loop-route-init : goal.loop-route-init
loop-route-init c =
    let some = length-present c.self.inside.slots.items in
    let few : length c.args.self.now.routes ≤ c.len.result = subst (λ (v : RoutesView). length v.routes ≤ c.len.result) c.self.view_is (omega (arith, some, c.len.ensures, c.self.inside.slots.ok.0)) in
    let iter_is : c.into_iter-route-iterator.result ≡ c.args.self.now.routes = c.into_iter-route-iterator.ensures.into_iter_gives ∙ c.iter-route-items.ensures.routes in (
      tt,
      tt,
      ap (λ rs. rs ++ c.into_iter-route-iterator.result) (c.in_ok-extend_room.ensures.routes ∙ c.empty-packed.ensures) ∙ iter_is,
      subst (λ rs. c.args.more + length rs ≤ c.extend_room.new.self.room) (sym iter_is) (omega (arith, few, c.in_ok-extend_room.ensures.room, c.in-Some.ensures)),
    )

pub add-requires-clause-fresh : goal.add-requires-clause-fresh
add-requires-clause-fresh c =
    let all : c.loop-route.packed.routes ++ c.in-Some-route.route ∷ c.next.new.self ≡ c.args.self.now.routes =
    ap (λ rs. c.loop-route.packed.routes ++ rs) (sym c.in-Some-route.ensures.steps) ∙ c.loop-route.invariant.2 in
    pairwise-before (λ a b. same_route_key (key_of a) (key_of b)) c.loop-route.packed.routes c.next.new.self c.in-Some-route.route
    (subst (λ rs. are_apart rs ≡ true) (sym all) c.iter-route-items.ensures.apart)
