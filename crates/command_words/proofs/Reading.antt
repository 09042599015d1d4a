-- The numbers of a list, read piece by piece.
use Rattle.std.proofs.Common.{◌≡◌, ◌∙◌, ◌++◌, ℕ, ◌+◌, ◌<◌, ◌≤◌, true, List, [], ◌∷◌, Some, None, refl, sym, ap, ap₂, subst, length, map, arith, append_assoc, append-nil, length-append}
use Rattle.std.proofs.lemmas.Iterator.Splits.{YieldsList-from_str_split}
use Rattle.std.specs.Fmt.{decimal}
use Rattle.std.specs.Iterator.{AlwaysYields}
use Rattle.std.specs.Str.Iter.{split_steps, split_text, split_has_more, split_pattern}
use Rattle.std.specs.Str.Pattern.{FindsChar}
use Rattle.std.specs.declared.str.Split.{Split}
use Rattle.number_text.specs.Numbers.{SpellsDecimal}
use Rattle.number_text.proofs.Spelled.{digits-of_spelled, decimal-lower, SpellsDecimal-decimal}
use Rattle.command_words.specs.Forms.{Text}
use Rattle.command_words.proofs.Lists.{IsRest, pieces_of, decimal_one}
use denote.Ref.{Bor}

-- The numbers were read, and the pieces that are left are to come. With the numbers of those they are the
-- numbers of the text, and the text has no others.
pub record IsReading (text : Text) (iterator : Split ℕ) (last : ℕ) (numbers : List ℕ) : Type 0 where
  pub left : List Text
  pub yields : AlwaysYields (split_steps FindsChar (λ a b. b ≡ a)) (λ piece. piece.now) iterator left
  pub few : length numbers ≤ 1000
  pub forth : (rest : List ℕ) → IsRest last (length numbers) left rest → IsRest 0 0 (pieces_of text) (numbers ++ rest)
  pub back : (all : List ℕ) → IsRest 0 0 (pieces_of text) all → (rest : List ℕ) × (all ≡ numbers ++ rest) × IsRest last (length numbers) left rest

pub reading_begins : (text : Text) (iterator : Split ℕ) → split_text iterator ≡ text → split_has_more iterator ≡ true → split_pattern iterator ≡ 44 → IsReading text iterator 0 []
reading_begins text iterator whole more pattern = record {
  left = pieces_of text;
  yields = (YieldsList-from_str_split 44 text (omega arith) whole more pattern).runs;
  few = omega arith;
  forth = λ rest h. h;
  back = λ all h. (all, refl, h);
}

-- the text of a number is the piece that spells it
piece_is : (piece : Text) (n : ℕ) → SpellsDecimal piece n → n ≤ 4294967295 → piece ≡ decimal n
piece_is piece n spells small = digits-of_spelled 10 n piece (omega arith) (omega arith) (omega arith) (decimal-lower piece spells.numeral.1) spells

-- the first of the numbers that are left
record IsNext (piece : Text) (pieces : List Text) (last count : ℕ) (rest : List ℕ) : Type 0 where
  number : ℕ
  others : List ℕ
  whole : rest ≡ number ∷ others
  spelled : piece ≡ decimal number
  above : last < number
  within : number ≤ 4294967295
  room : count < 1000
  after : IsRest number (count + 1) pieces others

next_number : (piece : Text) (pieces : List Text) (last count : ℕ) (rest : List ℕ) → IsRest last count (piece ∷ pieces) rest → IsNext piece pieces last count rest
next_number piece pieces last count [] h = let bad : piece ∷ pieces ≡ [] = h.spelled in cc
next_number piece pieces last count (m ∷ ms) h =
    let first : piece ≡ decimal m = let e : piece ∷ pieces ≡ decimal m ∷ map decimal ms = h.spelled in cc in
    let others : pieces ≡ map decimal ms = let e : piece ∷ pieces ≡ decimal m ∷ map decimal ms = h.spelled in cc in
    record {
      number = m;
      others = ms;
      whole = refl;
      spelled = first;
      above = h.rises.0;
      within = h.rises.1;
      room = omega (arith, h.few);
      after = record { spelled = others; rises = h.rises.2; few = omega (arith, h.few) };
    }

pub reading_goes : (text : Text) (old new : Split ℕ) (last n : ℕ) (numbers : List ℕ) (piece : Bor (List ℕ)) → IsReading text old last numbers → split_steps FindsChar (λ a b. b ≡ a) old (Some piece) new
    → SpellsDecimal piece.now n → n ≤ 4294967295 → last < n → length numbers < 1000 → IsReading text new n (numbers ++ n ∷ [])
reading_goes text old new last n numbers piece h step spells small above room = by h.left h.yields h.forth h.back
  where
    longer : length (numbers ++ n ∷ []) ≡ length numbers + 1
    longer = length-append numbers (n ∷ [])

    by : (left : List Text) → AlwaysYields (split_steps FindsChar (λ a b. b ≡ a)) (λ piece. piece.now) old left
        → ((rest : List ℕ) → IsRest last (length numbers) left rest → IsRest 0 0 (pieces_of text) (numbers ++ rest))
        → ((all : List ℕ) → IsRest 0 0 (pieces_of text) all → (rest : List ℕ) × (all ≡ numbers ++ rest) × IsRest last (length numbers) left rest)
        → IsReading text new n (numbers ++ n ∷ [])
    by [] yields forth back = absurd (yields piece new step)
    by (p ∷ ps) yields forth back = record {
      left = ps;
      yields = (yields.1 piece new step).1;
      few = omega (arith, longer);
      forth = λ rest k. subst (IsRest 0 0 (pieces_of text)) (sym (append_assoc numbers (n ∷ []) rest)) (forth (n ∷ rest) (record {
        spelled = ap₂ (λ (x : Text) (l : List Text). x ∷ l) (sym (yields.1 piece new step).0 ∙ piece_is piece.now n spells small) k.spelled;
        rises = (above, small, k.rises);
        few = omega (arith, k.few, longer);
      }));
      back = λ all k.
          let b = back all k in
          let m = next_number p ps last (length numbers) b.0 b.2 in
          let same : m.number ≡ n = decimal_one m.number n m.within (subst (λ (t : Text). SpellsDecimal t n) ((yields.1 piece new step).0 ∙ m.spelled) spells) in (
            m.others,
            b.1 ∙ ap (λ (l : List ℕ). numbers ++ l) (m.whole ∙ ap (λ (x : ℕ). x ∷ m.others) same) ∙ sym (append_assoc numbers (n ∷ []) m.others),
            subst (λ (x : ℕ). IsRest x (length (numbers ++ n ∷ [])) ps m.others) same (subst (λ (c : ℕ). IsRest m.number c ps m.others) (sym longer) m.after),
          );
    }

-- a piece that is no next number spoils the text
pub reading_stops : (text : Text) (old new : Split ℕ) (last : ℕ) (numbers : List ℕ) (piece : Bor (List ℕ)) → IsReading text old last numbers → split_steps FindsChar (λ a b. b ≡ a) old (Some piece) new
    → ((n : ℕ) → n ≤ 4294967295 → SpellsDecimal piece.now n → last < n → length numbers < 1000 → ⊥) → (all : List ℕ) → IsRest 0 0 (pieces_of text) all → ⊥
reading_stops text old new last numbers piece h step none all k = by h.left h.yields (h.back all k)
  where
    by : (left : List Text) → AlwaysYields (split_steps FindsChar (λ a b. b ≡ a)) (λ piece. piece.now) old left → (rest : List ℕ) × (all ≡ numbers ++ rest) × IsRest last (length numbers) left rest → ⊥
    by [] yields b = yields piece new step
    by (p ∷ ps) yields b =
        let m = next_number p ps last (length numbers) b.0 b.2 in
        none m.number m.within (subst (λ (t : Text). SpellsDecimal t m.number) (sym ((yields.1 piece new step).0 ∙ m.spelled)) (SpellsDecimal-decimal m.number (omega (arith, m.within)))) m.above m.room

pub reading_ends : (text : Text) (old new : Split ℕ) (last : ℕ) (numbers : List ℕ) → IsReading text old last numbers → split_steps FindsChar (λ a b. b ≡ a) old None new → IsRest 0 0 (pieces_of text) numbers
reading_ends text old new last numbers h step = by h.left h.yields h.forth
  where
    by : (left : List Text) → AlwaysYields (split_steps FindsChar (λ a b. b ≡ a)) (λ piece. piece.now) old left
        → ((rest : List ℕ) → IsRest last (length numbers) left rest → IsRest 0 0 (pieces_of text) (numbers ++ rest)) → IsRest 0 0 (pieces_of text) numbers
    by [] yields forth = subst (IsRest 0 0 (pieces_of text)) (append-nil numbers) (forth [] (record { spelled = refl; rises = tt; few = omega (arith, h.few) }))
    by (p ∷ ps) yields forth = absurd (yields.0 new step)
