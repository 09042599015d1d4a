use Rattle.std.proofs.Common.{◌≡◌, ◌∙◌, ap, sym, not, filter}
use Rattle.list_lemmas.proofs.Anys.{filter-others}
use Rattle.route_store.specs.Keys.{same_route_key, same_route_key-Decides, key_of}
use Rattle.route_store.specs.Slots.{RoutesView, present}
use Rattle.route_store.proofs.Placed.{keyed, none-keyed}
use Rattle.route_store.proofs.Places.{place-found, present-clear}
use Rattle.route_store.proofs.slots.RouteSlots.remove.Goals as goal

pub returns-in_default : goal.returns-in_default
returns-in_default c =
    sym (ap (λ (v : RoutesView). v.routes) c.self.view_is)
    ∙ sym (filter-others (keyed c.args.key.now) (present c.self.inside.slots.items) (none-keyed c.self.inside.slots.items c.self.inside.places.entries c.args.key.now c.self.invariant (sym c.get.ensures.value ∙ sym c.copied.ensures ∙ c.in_default.is)))
    ∙ ap (λ (v : RoutesView). filter (λ r. not (keyed c.args.key.now r)) v.routes) c.self.view_is

pub clear_slot-requires-clause-there : goal.clear_slot-requires-clause-there
clear_slot-requires-clause-there c =
    let at = place-found (keyed c.args.key.now) c.self.inside.slots.items c.in-Some.place (sym (c.self.invariant.by_key c.args.key.now) ∙ sym c.get.ensures.value ∙ sym c.copied.ensures ∙ c.in-Some.is) in
    (at.item, at.stands, sym ((same_route_key-Decides (key_of at.item) c.args.key.now).0 at.passes))

pub returns : goal.returns
returns c =
    let at = place-found (keyed c.args.key.now) c.self.inside.slots.items c.in-Some.place (sym (c.self.invariant.by_key c.args.key.now) ∙ sym c.get.ensures.value ∙ sym c.copied.ensures ∙ c.in-Some.is) in
    let key_is : key_of at.item ≡ c.args.key.now = (same_route_key-Decides (key_of at.item) c.args.key.now).0 at.passes in
    ap present c.clear_slot.ensures.slots ∙ present-clear same_route_key same_route_key-Decides key_of c.self.inside.slots.items c.in-Some.place at.item at.stands c.self.invariant.apart
    ∙ ap (λ (v : RoutesView). filter (λ r. not (keyed (key_of at.item) r)) v.routes) c.self.view_is ∙ ap (λ k. filter (λ r. not (keyed k r)) c.args.self.now.routes) key_is
