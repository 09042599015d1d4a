-- What a state says of a user.
use Rattle.std.specs.Prelude.{Option, find}
use Rattle.std.specs.Option.{option_map}
use Rattle.fwmark.specs.declared.permission.Permission.{Permission}
use Rattle.policy_state.specs.Step.{is_of_user}
use Rattle.policy_state.specs.View.{StateView}
use Rattle.uid_ranges.specs.declared.range.Uid.{Uid}

-- the permission that was set for the user
abbrev pub permission_of : StateView → Uid → Option Permission
permission_of s uid = option_map (λ p. p.permission) (find (is_of_user uid) s.permissions)
