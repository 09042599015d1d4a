-- Addresses as numbers.
use Rattle.std.specs.Prelude.{◌≡◌, ℕ, ◌-◌, ◌/◌, ◌%◌, ◌^◌, ◌<◌, ◌≤◌, ◌==◌, Bool, true, false}
use Rattle.prefixes.specs.declared.addr.Family.{Family}
use Rattle.prefixes.specs.declared.addr.Family.TheVariants as family
use Rattle.prefixes.specs.declared.addr.Addr.{Addr}
use Rattle.prefixes.specs.declared.addr.Addr.TheVariants as addr

abbrev pub family_of : Addr → Family
family_of (addr.V4 value) = family.V4
family_of (addr.V6 value) = family.V6

-- 32 bits by RFC 791, 128 by RFC 4291
abbrev pub width_of : Addr → ℕ
width_of (addr.V4 value) = 32
width_of (addr.V6 value) = 128

abbrev pub value_of : Addr → ℕ
value_of (addr.V4 value) = value
value_of (addr.V6 value) = value

-- the address fits the width of its family
abbrev pub IsAddr : Addr → Type 0
IsAddr a = value_of a < 2 ^ width_of a

-- the first bits of an address, and the bits after them
abbrev pub first_bits : Addr → ℕ → ℕ
first_bits a len = value_of a / 2 ^ (width_of a - len)

abbrev pub host_bits : Addr → ℕ → ℕ
host_bits a len = value_of a % 2 ^ (width_of a - len)

-- a prefix has no more bits than its family's addresses, and no bit after them is set
abbrev pub IsPrefix : Addr → ℕ → Type 0
IsPrefix base len = (len ≤ width_of base) × (host_bits base len ≡ 0)

-- equality, as tests that compute
abbrev pub same_family : Family → Family → Bool
same_family family.V4 family.V4 = true
same_family family.V6 family.V6 = true
same_family family.V4 family.V6 = false
same_family family.V6 family.V4 = false

abbrev pub same_addr : Addr → Addr → Bool
same_addr (addr.V4 a) (addr.V4 b) = a == b
same_addr (addr.V6 a) (addr.V6 b) = a == b
same_addr (addr.V4 a) (addr.V6 b) = false
same_addr (addr.V6 a) (addr.V4 b) = false
