-- Ranges of UIDs as text.
use Rattle.std.proofs.Common.{◌≡◌, ℕ, ◌<◌, ◌≤◌, true, false, List, ◌∷◌, ◌++◌, refl, sym, ap, ◌∙◌, subst, arith, Option, None, Some, IsNone, IfSome}
use Rattle.std.specs.Str.Parse.{AllDigits}
use Rattle.addr_text.specs.Forms.{has_byte}
use Rattle.addr_text.proofs.Bytes.{cut_once, has_byte-digits, has_byte-here}
use Rattle.uid_ranges.specs.declared.range.UidRange.{UidRange}
use Rattle.uid_ranges.specs.declared.range.Uid.{Uid}
use Rattle.word_text.specs.Grammar.{SpellsRange, SpellsUid, dash, range}
use Rattle.word_text.specs.Kinds.{Gives}

-- no numeral has a '-'
pub no_dash : (text : List ℕ) → AllDigits 10 text → has_byte dash text ≡ false
no_dash text all = has_byte-digits 10 dash text (omega arith) all

-- the two UIDs of a range stand before and after the first '-'
pub range_cut : (text left right : List ℕ) (users : UidRange) → text ≡ left ++ dash ∷ right → has_byte dash left ≡ false → SpellsRange text users →
    SpellsUid left users.first × SpellsUid right users.last
range_cut text left right users cut none spells =
    let parts = cut_once dash left spells.first_text right spells.last_text none (no_dash spells.first_text spells.first.0.numeral.1) (sym cut ∙ spells.cut) in
    (subst (λ (t : List ℕ). SpellsUid t users.first) (sym parts.0) spells.first, subst (λ (t : List ℕ). SpellsUid t users.last) (sym parts.1) spells.last)

-- a text without '-' is no range
pub no_range : (text : List ℕ) → has_byte dash text ≡ false → (users : UidRange) → SpellsRange text users → ⊥
no_range text none users spells =
    let has : has_byte dash text ≡ true = ap (has_byte dash) spells.cut ∙ has_byte-here dash spells.first_text spells.last_text in
    let different : true ≡ false = sym has ∙ none in cc

-- what the two UIDs make
pub range_gives : (text left right : List ℕ) (first last : Uid) (made : Option UidRange) → text ≡ left ++ dash ∷ right → has_byte dash left ≡ false →
    SpellsUid left first → SpellsUid right last →
    (IsNone made → last.number < first.number) → IfSome made (λ users. users.first ≡ first) → IfSome made (λ users. users.last ≡ last) →
    Gives range text made
range_gives text left right first last None cut none one two above is_first is_last = λ users spells.
    let parts = range_cut text left right users cut none spells in
    let same_first : users.first.number ≡ first.number = sym parts.0.0.value ∙ one.0.value in
    let same_last : users.last.number ≡ last.number = sym parts.1.0.value ∙ two.0.value in
    let ordered : users.first.number ≤ users.last.number = spells.ordered in
    let below : last.number < first.number = above refl in
    omega arith
range_gives text left right first last (Some users) cut none one two above is_first is_last = record {
  first_text = left;
  last_text = right;
  cut = cut;
  first = subst (SpellsUid left) (sym is_first) one;
  last = subst (SpellsUid right) (sym is_last) two;
  ordered = users.ordered;
}
