-- What holds of every command.
use Rattle.std.specs.Prelude.{◌<◌}
use Rattle.commands.specs.declared.command.Command.{Command}
use Rattle.commands.specs.declared.command.Command.TheVariants as command

-- The numbers that a command puts into a state are those of a `u16`, as every command has them. Goodness keeps them below 65536.
abbrev pub FitsTypes : Command → Type 0
FitsTypes (command.LinkAdd name index) = index < 65536
FitsTypes (command.CreatePhysical net permission) = net < 65536
FitsTypes (command.CreateVirtual net secure) = net < 65536
FitsTypes _ = Unit {0}
