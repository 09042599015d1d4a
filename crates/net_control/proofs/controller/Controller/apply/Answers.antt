use Rattle.std.proofs.Common.{◌∙◌, List, [], length, inl, inr}
use Rattle.std.proofs.lemmas.List.{append-nil}
use Rattle.kernel_model.specs.Switch.{walk_along}
use Rattle.kernel_model.specs.Walk.{walk}
use Rattle.kernel_model.specs.declared.request.Entry.{Entry}
use Rattle.rule_law.specs.Plans.{GoesOver}
use Rattle.rule_match.specs.declared.packet.Packet.{Packet}
use Rattle.net_control.proofs.Once.{IsForward, as_before, once, once_by_policy}
use Rattle.kernel_model.specs.View.{state_of}
use Rattle.net_control.specs.Applied.{IsTaken, adds_of, deletes_of}
use Rattle.policy_state.proofs.Goodness.{good-changed}
use Rattle.policy_state.specs.Step.{changed}
use Rattle.rule_compile.specs.Asked.{MayStep, carried}
use Rattle.net_control.proofs.Bounding.{keeps_limit}
use Rattle.net_control.proofs.Causing.{has_cause}
use Rattle.net_control.proofs.Forming.{keeps_form}
use Rattle.net_control.proofs.Policed.{accepted, answered, by_policy, good_or_same, locked, sends}
use Rattle.net_control.proofs.controller.Controller.apply.Goals as goal

pub returns-clause-sends : goal.returns-clause-sends
returns-clause-sends g c = sends c.answer.new.self (g.K.Kernel.seen c.answer.new.kernel) (λ s k packet. c.table_means_policy.ensures s k packet) (λ s packet. c.barred_stays_in.ensures s packet) c.answer.ensures.kept

pub returns-clause-caused : goal.returns-clause-caused
returns-clause-caused g c = has_cause c.answer.result c.args.command.now c.args.self.now c.answer.new.self (g.K.Kernel.seen c.args.kernel.now) (g.K.Kernel.seen c.answer.new.kernel) c.answer.ensures.answer

pub returns-clause-bounded : goal.returns-clause-bounded
returns-clause-bounded g c = keeps_limit c.answer.result c.args.command.now c.args.self.now c.answer.new.self (g.K.Kernel.seen c.args.kernel.now) (g.K.Kernel.seen c.answer.new.kernel) c.answer.ensures.answer

pub returns-clause-moments : goal.returns-clause-moments
returns-clause-moments g c running =
    let before = g.K.Kernel.seen c.args.kernel.now in
    let old = c.args.self.now in
    let command = c.args.command.now in
    let may : IsTaken old before command → MayStep (state_of before) old.state command =
    λ taken. record { good = c.requires.good; fits = c.fits_types.ensures; accepted = accepted old before command taken; stands = c.requires.stands running } in
    answered c.answer.result command old c.answer.new.self before (g.K.Kernel.seen c.answer.new.kernel)
    (λ packet. c.table_means_policy.ensures old.state (state_of before) packet c.requires.good (c.requires.stands running))
    (λ taken entries segment packet. by_policy (c.table_means_policy.ensures old.state (state_of before) packet c.requires.good (c.requires.stands running))
    (c.table_means_policy.ensures (changed old.state command) (carried (state_of before) old.state command) packet
    (good-changed old.state command c.requires.good c.fits_types.ensures (accepted old before command taken)) (c.plan_ends.ensures.done (state_of before) old.state command (may taken)))
    (c.plan_law.ensures.segment (state_of before) old.state command packet entries (may taken) segment))
    c.answer.ensures.answer

pub returns-clause-locked : goal.returns-clause-locked
returns-clause-locked g c running =
    let before = g.K.Kernel.seen c.args.kernel.now in
    let old = c.args.self.now in
    let command = c.args.command.now in
    locked before (g.K.Kernel.seen c.answer.new.kernel) old.state (changed old.state command)
    (λ s packet. c.barred_stays_in.ensures s packet)
    (λ ns ms v h. (c.more_networks_stay_in.ensures.after ns ms v h, c.more_networks_stay_in.ensures.before ns ms v h))
    c.requires.good
    (good_or_same c.answer.result command old c.answer.new.self before (g.K.Kernel.seen c.answer.new.kernel)
    (λ taken. good-changed old.state command c.requires.good c.fits_types.ensures (accepted old before command taken)) c.answer.ensures.answer)
    (λ packet. c.table_means_policy.ensures old.state (state_of before) packet c.requires.good (c.requires.stands running))
    (returns-clause-moments g c running)

pub returns-clause-formed : goal.returns-clause-formed
returns-clause-formed g c =
    let before = g.K.Kernel.seen c.args.kernel.now in
    let old = c.args.self.now in
    let command = c.args.command.now in
    keeps_form c.answer.result command old c.answer.new.self before (g.K.Kernel.seen c.answer.new.kernel)
    (λ taken. c.requests_can_be_asked.ensures.well_formed (state_of before) old.state command
    (record { good = c.requires.good; fits = c.fits_types.ensures; accepted = accepted old before command taken; stands = c.requires.stands taken.runs }))
    c.answer.ensures.answer

pub returns-clause-once : goal.returns-clause-once
returns-clause-once g c running =
    let before = g.K.Kernel.seen c.args.kernel.now in
    let old = c.args.self.now in
    let command = c.args.command.now in
    let may : IsTaken old before command → MayStep (state_of before) old.state command =
    λ taken. record { good = c.requires.good; fits = c.fits_types.ensures; accepted = accepted old before command taken; stands = c.requires.stands running } in
    let as_law : IsTaken old before command → (entries : List Entry) → IsForward (adds_of old.state command) (deletes_of old.state command) entries → (packet : Packet)
    → GoesOver (length entries) (walk_along (state_of before) packet entries) (walk (state_of before) packet) (walk (carried (state_of before) old.state command) packet) =
    λ taken entries forward packet. elim forward as (λ _. GoesOver (length entries) (walk_along (state_of before) packet entries) (walk (state_of before) packet) (walk (carried (state_of before) old.state command) packet)) [
      | inl all ↦ c.plan_law.ensures.done (state_of before) old.state command packet entries [] (may taken) (append-nil entries ∙ all)
      | inr (i, broken, stops, all) ↦ c.plan_law.ensures.halted (state_of before) old.state command packet entries i broken (may taken) stops all
    ] in
    once c.answer.result command old c.answer.new.self before (g.K.Kernel.seen c.answer.new.kernel)
    (λ packet. c.table_means_policy.ensures old.state (state_of before) packet c.requires.good (c.requires.stands running))
    (λ taken entries forward packet. once_by_policy (c.table_means_policy.ensures old.state (state_of before) packet c.requires.good (c.requires.stands running))
    (c.table_means_policy.ensures (changed old.state command) (carried (state_of before) old.state command) packet
    (good-changed old.state command c.requires.good c.fits_types.ensures (accepted old before command taken)) (c.plan_ends.ensures.done (state_of before) old.state command (may taken)))
    (as_law taken entries forward packet))
    c.answer.ensures.answer

pub returns-clause-as_before : goal.returns-clause-as_before
returns-clause-as_before g c =
    let before = g.K.Kernel.seen c.args.kernel.now in
    let old = c.args.self.now in
    let command = c.args.command.now in
    as_before c.answer.result command old c.answer.new.self before (g.K.Kernel.seen c.answer.new.kernel)
    (λ taken i refused next. c.plan_ends.ensures.undone (state_of before) old.state command i refused
    (record { good = c.requires.good; fits = c.fits_types.ensures; accepted = accepted old before command taken; stands = c.requires.stands taken.runs }) next)
    c.answer.ensures.answer
