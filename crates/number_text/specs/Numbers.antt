-- Numbers as text: which texts spell a number, and the one text that is written for it.
use Rattle.std.specs.Prelude.{◌≡◌, ℕ, false, List, length, slice_index}
use Rattle.std.specs.Char.{is_ascii_uppercase}
use Rattle.std.specs.Fmt.{digits}
use Rattle.std.specs.List.{list_any}
use Rattle.std.specs.Str.Parse.{IsNumeral, digits_value}

-- '0'
abbrev pub zero_digit : ℕ
zero_digit = 48

-- a 0 in front stands alone
abbrev pub HasNoLeadingZero : List ℕ → Type 0
HasNoLeadingZero text = slice_index text 0 ≡ zero_digit → length text ≡ 1

-- The text spells the number in the base: one digit or more and nothing else, of either case, with no
-- leading zero other than the number 0 itself.
pub record SpellsInBase (base : ℕ) (text : List ℕ) (n : ℕ) : Type 0 where
  pub numeral : IsNumeral base text
  pub plain : HasNoLeadingZero text
  pub value : digits_value base text ≡ n

-- the same with the digits 0 to 9
abbrev pub SpellsDecimal : List ℕ → ℕ → Type 0
SpellsDecimal = SpellsInBase 10

-- the same with the digits 0 to 9 and a to f
pub record SpellsHexadecimal (text : List ℕ) (n : ℕ) : Type 0 where
  pub number : SpellsInBase 16 text n
  pub lower : list_any is_ascii_uppercase text ≡ false

-- the text of a number below 2 ^ 64 in hexadecimal, in lower case
abbrev pub hexadecimal : ℕ → List ℕ
hexadecimal n = digits 16 false n
