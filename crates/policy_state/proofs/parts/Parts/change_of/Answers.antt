use Rattle.std.proofs.Common.{List, ◌∙◌, sym, ap}
use Rattle.commands.specs.declared.command.Command.{Command}
use Rattle.networks.specs.Kinds.{is_physical, is_virtual}
use Rattle.uid_ranges.specs.declared.range.UidRange.{UidRange}
use Rattle.policy_state.specs.Parts.{view_of}
use Rattle.policy_state.specs.Step.{first_that_holds, reasons, ranges_come_reasons}
use Rattle.policy_state.specs.View.{StateView}
use Rattle.policy_state.proofs.parts.Parts.change_of.Goals as goal

pub returns-in-UsersAdd-clause-code : goal.returns-in-UsersAdd-clause-code
returns-in-UsersAdd-clause-code c =
    let s : StateView = view_of c.args.self.now in
    c.ranges_come.ensures.code
    ∙ (ap (λ (rs : List UidRange). first_that_holds (ranges_come_reasons is_virtual s c.in-UsersAdd.net c.in-UsersAdd.rank rs)) c.as_slice.ensures
    ∙ ap (λ (k : Command). first_that_holds (reasons s k)) (sym c.in-UsersAdd.is))

pub returns-in-AppAdd-clause-code : goal.returns-in-AppAdd-clause-code
returns-in-AppAdd-clause-code c =
    let s : StateView = view_of c.args.self.now in
    c.ranges_come-in-AppAdd.ensures.code
    ∙ (ap (λ (rs : List UidRange). first_that_holds (ranges_come_reasons is_physical s c.in-AppAdd.net c.in-AppAdd.rank rs)) c.as_slice-in-AppAdd.ensures
    ∙ ap (λ (k : Command). first_that_holds (reasons s k)) (sym c.in-AppAdd.is))
