-- What contracts see of the tables of users.
use Rattle.std.specs.Prelude.{ℕ, List, map}
use Rattle.fwmark.specs.declared.permission.Permission.{Permission}
use Rattle.policy_state.specs.declared.users.UserPermission.{UserPermission}
use Rattle.uid_ranges.specs.declared.range.Uid.{Uid}

pub record PermissionsView : Type 0 where
  pub permissions : List UserPermission
  -- for how many users more a permission may be set without memory
  pub room : ℕ

pub record ProtectView : Type 0 where
  pub users : List Uid
  -- how many users may be added without memory
  pub room : ℕ

abbrev pub permissions_in : List (Uid × Permission) → List UserPermission
permissions_in entries = map (λ e. record { uid = e.0; permission = e.1 }) entries
