use Rattle.std.proofs.Common.{◌≡◌, ◌∙◌, ◌+◌, ◌++◌, ◌∷◌, [], ℕ, List, Option, take, sym, ap}
use Rattle.std.proofs.lemmas.List.{append-nil}
use Rattle.prefixes.specs.declared.route.Route.{Route}
use Rattle.route_chains.specs.declared.slot.Slot.{Slot}
use Rattle.route_chains.specs.Chains.{routes_of}
use Rattle.route_chains.specs.Links.{entries_of}
use Rattle.route_chains.proofs.InOrder.{one-more}
use Rattle.route_chains.proofs.chains.routes_in.Goals as goal
use Rattle.route_chains.proofs.chains.routes_in.Goals.{in-Some+in_ok-push, in_default}

pub loop-slot-preserved : goal.loop-slot-preserved
loop-slot-preserved c =
    let slots : List (Option Slot) = c.args.slots.now in
    let i : ℕ = c.loop-slot.slot-index in
    let so_far : List Route = routes_of (entries_of (take i slots)) in
    let more : routes_of (entries_of (take (i + 1) slots)) ≡ so_far ++ routes_of (entries_of (c.slot-item.result ∷ [])) =
    one-more slots i c.slot-item.result c.loop-slot-test.true c.slot-item.is in
    elim c.match-slot.branch [
      | in-Some+in_ok-push w ↦ rw w.routes-is (w.in_ok-push.ensures.items ∙ ap (λ (rs : List Route). rs ++ w.in-Some.slot.route ∷ []) c.loop-slot.invariant
          ∙ sym (more ∙ ap (λ (o : Option Slot). so_far ++ routes_of (entries_of (o ∷ []))) w.in-Some.is))
      | in_default w ↦ rw w.routes-is (c.loop-slot.invariant ∙ sym (append-nil so_far) ∙ sym (more ∙ ap (λ (o : Option Slot). so_far ++ routes_of (entries_of (o ∷ []))) w.in_default.is))
    ]
