use Rattle.std.proofs.Common.{◌≡◌, ◌∙◌, Some, List, ap, subst, sym}
use Rattle.commands.specs.declared.command.Command.{Command}
use Rattle.commands.specs.declared.command.Command.TheVariants as command
use Rattle.script_reader.specs.Parts.{IsPartsOf}
use Rattle.script_reader.specs.declared.line.Line.TheVariants as line
use Rattle.uid_ranges.specs.declared.range.UidRange.{UidRange}
use Rattle.script_reader.proofs.say.command_parts.Goals as goal

pub returns-in-UsersAdd : goal.returns-in-UsersAdd
returns-in-UsersAdd c =
    let x = c.in-UsersAdd in
    let same : c.args.asked.now ≡ command.UsersAdd x.net x.rank c.as_slice.result.now = x.is ∙ ap (λ (list : List UidRange). command.UsersAdd x.net x.rank list) (sym c.as_slice.ensures) in
    subst (λ (asked : Command). IsPartsOf (line.Control asked) (Some c.users_parts.result)) (sym same) c.users_parts.ensures
