use Rattle.std.proofs.Common.{◌∙◌, ap, sym, Some, find, arith}
use Rattle.list_lemmas.proofs.Found.{find-none-any}
use Rattle.std.proofs.lemmas.Option.{slice_get_within, get_or_from_slice_get}
use Rattle.route_store.specs.Slots.{RoutesView, present}
use Rattle.route_store.proofs.Placed.{keyed, none-keyed}
use Rattle.route_store.proofs.Places.{place-found}
use Rattle.route_store.proofs.slots.RouteSlots.find.Goals as goal

pub returns-in_default : goal.returns-in_default
returns-in_default c =
    sym (find-none-any (keyed c.args.key.now) (present c.self.inside.slots.items) (none-keyed c.self.inside.slots.items c.self.inside.places.entries c.args.key.now c.self.invariant (sym c.in_default.ensures.value)))
    ∙ ap (λ (v : RoutesView). find (keyed c.args.key.now) v.routes) c.self.view_is

pub index-requires : goal.index-requires
index-requires c =
    let at = place-found (keyed c.args.key.now) c.self.inside.slots.items c.in-Some.place.now (sym (c.self.invariant.by_key c.args.key.now) ∙ sym c.in-Some.ensures.value) in
    let within = slice_get_within c.self.inside.slots.items c.in-Some.place.now _ at.stands in
    omega (arith, within, c.self.inside.slots.ok.0)

pub returns : goal.returns
returns c =
    let at = place-found (keyed c.args.key.now) c.self.inside.slots.items c.in-Some.place.now (sym (c.self.invariant.by_key c.args.key.now) ∙ sym c.in-Some.ensures.value) in
    c.index.ensures ∙ get_or_from_slice_get c.self.inside.slots.items c.in-Some.place.now (Some at.item) c.index.result.now at.stands ∙ sym at.found
    ∙ ap (λ (v : RoutesView). find (keyed c.args.key.now) v.routes) c.self.view_is
