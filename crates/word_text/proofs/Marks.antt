-- Marks as text.
use Rattle.std.proofs.Common.{◌≡◌, ℕ, ◌<◌, ◌≤◌, ◌^◌, ◌==◌, ◌&&◌, true, false, List, [], ◌∷◌, ◌++◌, length, drop, take, codes, sym, ap, ◌∙◌, arith, inl, inr, Option, None, Some, IfSome, IfNone}
use Rattle.std.proofs.Math.Nat.{pow-le-pow_right}
use Rattle.std.proofs.lemmas.Bool.Decides.{eqb_tells}
use Rattle.std.proofs.lemmas.Int.Digits.{digits_value-lt}
use Rattle.std.specs.Cmp.Lexicographic.{pointwise}
use Rattle.number_text.specs.Numbers.{SpellsHexadecimal}
use Rattle.word_text.specs.Grammar.{SpellsMark, mark}
use Rattle.word_text.specs.Kinds.{Gives}
use Rattle.word_text.proofs.Tests.{both_true}

same : (x y : ℕ) → (x == y) ≡ true → x ≡ y
same x y e = elim (eqb_tells x y) [ inl told ↦ told.1 | inr told ↦ absurd (let different : true ≡ false = sym e ∙ told.0 in cc) ]

-- the bytes in front are these two
pub front_is_0x : (text : List ℕ) → pointwise ◌==◌ (take 2 text) (codes "0x") ≡ true → text ≡ codes "0x" ++ drop 2 text
front_is_0x [] e = cc
front_is_0x (x ∷ []) e = let second = both_true (x == 48) false e in absurd (let different : false ≡ true = second.1 in cc)
front_is_0x (x ∷ y ∷ text) e =
    let parts = both_true (x == 48) ((y == 120) && true) e in
    let first : x ≡ 48 = same x 48 parts.0 in
    let second : y ≡ 120 = same y 120 (both_true (y == 120) true parts.1).0 in
    cc

pub no_0x : (text : List ℕ) → pointwise ◌==◌ (take 2 text) (codes "0x") ≡ false → (digits : List ℕ) → text ≡ codes "0x" ++ digits → ⊥
no_0x text e digits is =
    let front : pointwise ◌==◌ (take 2 text) (codes "0x") ≡ true = ap (λ (t : List ℕ). pointwise ◌==◌ (take 2 t) (codes "0x")) is in
    let different : true ≡ false = sym front ∙ e in cc

rest_same : (text digits others : List ℕ) → text ≡ codes "0x" ++ digits → text ≡ codes "0x" ++ others → others ≡ digits
rest_same text digits others one other = sym (ap (drop 2) other) ∙ ap (drop 2) one

-- no mark stands after anything else
pub no_mark : (text : List ℕ) → ((digits : List ℕ) → text ≡ codes "0x" ++ digits → ⊥) → (bits : ℕ) → SpellsMark text bits → ⊥
no_mark text none bits spells = none spells.digits spells.cut

pub long_mark : (text digits : List ℕ) → text ≡ codes "0x" ++ digits → 8 < length digits → (bits : ℕ) → SpellsMark text bits → ⊥
long_mark text digits cut long bits spells =
    let few : length spells.digits ≤ 8 = spells.few in
    omega (arith, ap length (rest_same text digits spells.digits cut spells.cut))

-- 8 digits write a number of 32 bits
pub bits_fit : (text digits : List ℕ) → text ≡ codes "0x" ++ digits → (bits : ℕ) → SpellsMark text bits → SpellsHexadecimal digits bits × (bits < 2 ^ 32)
bits_fit text digits cut bits spells =
    let below = digits_value-lt 16 spells.digits spells.number.number.numeral.1 in
    let most : 16 ^ length spells.digits ≤ 16 ^ 8 = let base : 0 < 16 = omega arith in pow-le-pow_right base spells.few in
    (rw (rest_same text digits spells.digits cut spells.cut) at spells.number, omega (arith, below, spells.number.number.value))

pub mark_gives : (text digits : List ℕ) (read : Option ℕ) → text ≡ codes "0x" ++ digits → length digits ≤ 8 →
    IfSome read (SpellsHexadecimal digits) → IfNone read ((bits : ℕ) → bits < 2 ^ 32 → SpellsHexadecimal digits bits → ⊥) →
    Gives mark text read
mark_gives text digits None cut few some none = λ bits spells. let fits = bits_fit text digits cut bits spells in none bits fits.1 fits.0
mark_gives text digits (Some bits) cut few some none = record { digits = digits; cut = cut; number = some; few = few }
