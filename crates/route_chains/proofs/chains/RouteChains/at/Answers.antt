use Rattle.std.proofs.Common.{◌≡◌, ◌∙◌, List, Option, Some, length, ap, arith, rules}
use Rattle.std.specs.List.{slice_get}
use Rattle.route_chains.specs.declared.slot.Slot.{Slot}
use Rattle.route_chains.specs.Chains.{ChainsView, routes_of}
use Rattle.route_chains.specs.Found.{route_at}
use Rattle.route_chains.specs.Links.{entries_of}
use Rattle.route_chains.proofs.InOrder.{without_gaps}
use Rattle.route_chains.proofs.chains.RouteChains.at.Goals as goal

pub returns-then-self-eq0 : goal.returns-then-self-eq0
returns-then-self-eq0 c =
    let slots : List (Option Slot) = c.self.inside.slots.items in
    let none : c.self.inside.gaps ≡ 0 = first_of (search rules, grind (arith, c.if-self-eq0.true)) in
    let full : length (entries_of slots) ≡ length slots = omega (arith, none, c.self.invariant.gaps) in
    c.route_at.ensures ∙ ap (λ (xs : List (Option Slot)). route_at xs (Some c.args.place)) c.deref.ensures.value
    ∙ without_gaps slots c.args.place full ∙ ap (λ (v : ChainsView). slice_get (routes_of v.entries) c.args.place) c.self.view_is
