-- What networks are for.
use Rattle.std.specs.Prelude.{ℕ, Bool, true, false, not, List, []}
use Rattle.fwmark.specs.declared.permission.Permission.{Permission}
use Rattle.fwmark.specs.declared.permission.Permission.TheVariants as needs
use Rattle.networks.specs.declared.kind.Kind.{Kind}
use Rattle.networks.specs.declared.kind.Kind.TheVariants as kind
use Rattle.uid_ranges.specs.declared.ranked.Ranked.{Ranked}

-- the permission that the network asks for
abbrev pub permission_of : Kind → Permission
permission_of kind.Local = needs.Nothing
permission_of (kind.Physical permission apps) = permission
permission_of (kind.Virtual secure users) = needs.Nothing

-- the apps that a physical network is preferred for, or the users of a VPN
abbrev pub ranges_of : Kind → List Ranked
ranges_of kind.Local = []
ranges_of (kind.Physical permission apps) = apps
ranges_of (kind.Virtual secure users) = users

-- which kind it is, as a number, so that two can be compared
abbrev pub class_of : Kind → ℕ
class_of kind.Local = 0
class_of (kind.Physical permission apps) = 1
class_of (kind.Virtual secure users) = 2

abbrev pub is_local : Kind → Bool
is_local kind.Local = true
is_local (kind.Physical permission apps) = false
is_local (kind.Virtual secure users) = false

abbrev pub is_physical : Kind → Bool
is_physical kind.Local = false
is_physical (kind.Physical permission apps) = true
is_physical (kind.Virtual secure users) = false

abbrev pub is_virtual : Kind → Bool
is_virtual kind.Local = false
is_virtual (kind.Physical permission apps) = false
is_virtual (kind.Virtual secure users) = true

-- physical, and asks for no permission
abbrev pub is_free : Kind → Bool
is_free kind.Local = false
is_free (kind.Physical permission apps) = elim permission [ needs.Nothing ↦ true | needs.Network ↦ false | needs.System ↦ false ]
is_free (kind.Virtual secure users) = false

-- a VPN that leaves its users no other way
abbrev pub is_secure : Kind → Bool
is_secure kind.Local = false
is_secure (kind.Physical permission apps) = false
is_secure (kind.Virtual secure users) = secure

-- a VPN that its users may pass by
abbrev pub is_bypass : Kind → Bool
is_bypass kind.Local = false
is_bypass (kind.Physical permission apps) = false
is_bypass (kind.Virtual secure users) = not secure
