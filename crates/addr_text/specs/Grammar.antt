-- Which texts spell an address or a prefix.
use Rattle.std.specs.Prelude.{◌≡◌, ℕ, ◌+◌, ◌-◌, ◌<◌, ◌≤◌, ◌⊎◌, List, [], ◌∷◌, ◌++◌, length, replicate}
use Rattle.std.specs.Int.Digits.{number_from_digits}
use Rattle.std.specs.Str.Parse.{IsNumeral, digits_value}
use Rattle.number_text.specs.Numbers.{SpellsDecimal}
use Rattle.prefixes.specs.declared.addr.Addr.{Addr}
use Rattle.prefixes.specs.declared.addr.Addr.TheVariants as addr
use Rattle.prefixes.specs.declared.prefix.Prefix.{Prefix}

-- '.', '/' and ':'
abbrev pub dot : ℕ
dot = 46

abbrev pub slash : ℕ
slash = 47

abbrev pub colon : ℕ
colon = 58

-- The text spells these values in a row, with the byte between each two. The empty text spells none.
abbrev pub SpellsRow : (List ℕ → ℕ → Type 0) → ℕ → List ℕ → List ℕ → Type 0
SpellsRow SpellsOne byte text [] = text ≡ []
SpellsRow SpellsOne byte text (x ∷ []) = SpellsOne text x
SpellsRow SpellsOne byte text (x ∷ y ∷ xs) = (one : List ℕ) × (others : List ℕ)
    × (text ≡ one ++ byte ∷ others) × SpellsOne one x × SpellsRow SpellsOne byte others (y ∷ xs)

-- a decimal number below 256 without leading zeros
abbrev pub SpellsOctet : List ℕ → ℕ → Type 0
SpellsOctet text octet = SpellsDecimal text octet × (octet < 256)

-- RFC 4291, 2.2: one to four hexadecimal digits, of either case
abbrev pub SpellsGroup : List ℕ → ℕ → Type 0
SpellsGroup text group = IsNumeral 16 text × (length text ≤ 4) × (digits_value 16 text ≡ group)

-- an IPv4 address: four octets with dots between them
pub record SpellsV4 (text : List ℕ) (value : ℕ) : Type 0 where
  pub octets : List ℕ
  pub four : length octets ≡ 4
  pub row : SpellsRow SpellsOctet dot text octets
  pub number : number_from_digits 256 octets ≡ value

-- RFC 4291, 2.2, form 1: eight groups with colons between them
abbrev pub SpellsFull : List ℕ → List ℕ → Type 0
SpellsFull text groups = (length groups ≡ 8) × SpellsRow SpellsGroup colon text groups

-- RFC 4291, 2.2, form 2: '::' stands for one group of zeros or more, and what else there is stands on its
-- left and right
pub record SpellsShort (text groups : List ℕ) : Type 0 where
  pub left_text : List ℕ
  pub right_text : List ℕ
  pub left : List ℕ
  pub right : List ℕ
  pub cut : text ≡ left_text ++ colon ∷ colon ∷ right_text
  pub left_row : SpellsRow SpellsGroup colon left_text left
  pub right_row : SpellsRow SpellsGroup colon right_text right
  pub few : length left + length right ≤ 7
  pub all : groups ≡ left ++ (replicate (8 - (length left + length right)) 0 ++ right)

-- eight groups, in one of the two forms
abbrev pub SpellsGroups : List ℕ → List ℕ → Type 0
SpellsGroups text groups = SpellsFull text groups ⊎ SpellsShort text groups

-- an IPv6 address
pub record SpellsV6 (text : List ℕ) (value : ℕ) : Type 0 where
  pub groups : List ℕ
  pub form : SpellsGroups text groups
  pub number : number_from_digits 65536 groups ≡ value

-- The text spells the address.
abbrev pub Spells : List ℕ → Addr → Type 0
Spells text (addr.V4 value) = SpellsV4 text value
Spells text (addr.V6 value) = SpellsV6 text value

-- The text spells the prefix: its first address, '/', and its length in decimal.
pub record SpellsPrefix (text : List ℕ) (prefix : Prefix) : Type 0 where
  pub base_text : List ℕ
  pub len_text : List ℕ
  pub cut : text ≡ base_text ++ slash ∷ len_text
  pub base : Spells base_text prefix.base
  pub len : SpellsDecimal len_text prefix.len
