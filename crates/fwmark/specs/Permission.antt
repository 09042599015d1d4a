-- The permissions of netd: a user has one, a network asks for one, and a mark holds two bits of one.
use Rattle.std.specs.Prelude.{ℕ, ◌==◌, ◌||◌, Bool, true}
use Rattle.fwmark.specs.declared.permission.Permission.{Permission}
use Rattle.fwmark.specs.declared.permission.Permission.TheVariants.{Nothing, Network, System}

-- the two bits of a permission
abbrev pub bits_of : Permission → ℕ
bits_of Nothing = 0
bits_of Network = 1
bits_of System = 3

-- the two bits suffice for what needs the permission; the bits 2 suffice for nothing more than 0 does
abbrev pub suffices : ℕ → Permission → Bool
suffices have Nothing = true
suffices have Network = (have == 1) || (have == 3)
suffices have System = have == 3
