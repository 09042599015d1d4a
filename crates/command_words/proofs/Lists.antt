-- The texts of lists, by the pieces between their commas.
use Rattle.std.proofs.Common.{◌≡◌, ◌∙◌, ◌++◌, ◌==◌, ◌||◌, ℕ, zero, suc, ◌+◌, ◌<◌, ◌≤◌, ◌^◌, Bool, false, List, [], ◌∷◌, None, refl, sym, ap, ap₂, subst, if◌then◌else◌, length, map, All, arith, slice_index}
use Rattle.std.proofs.lemmas.Bool.{ne_eqb}
use Rattle.std.proofs.lemmas.Bool.Decides.{nat_tests}
use Rattle.std.proofs.lemmas.List.Elements.{All-nil, All-cons, All-head, All-tail}
use Rattle.std.proofs.lemmas.List.Splits.{slice_split_none, slice_split_at, join_with_byte-slice_split, length-slice_split}
use Rattle.std.specs.Char.{digit_value}
use Rattle.std.specs.Fmt.{decimal}
use Rattle.std.specs.List.{join_with_byte, slice_split}
use Rattle.std.specs.List.Sorted.{IsStrictlyIncreasing}
use Rattle.std.specs.Str.Parse.{AllDigits}
use Rattle.clap.specs.Lexer.{long_of}
use Rattle.number_text.specs.Numbers.{SpellsDecimal}
use Rattle.number_text.proofs.Spelled.{SpellsDecimal-decimal}
use Rattle.command_words.specs.Forms.{Text, comma, IsList}
use Rattle.command_words.specs.Refused.{is_dashed, is_help}
use Rattle.command_words.proofs.Walk.{word_of, text_word, plain, stranger}
use Rattle.command_words.proofs.Words.{text_plain}

-- the pieces between the commas
abbrev pub pieces_of : Text → List Text
pieces_of text = slice_split (λ b. b == 44) text

-- the numbers rise from above this one, and are in range
abbrev pub RisesFrom : ℕ → List ℕ → Type 0
RisesFrom last [] = Unit {0}
RisesFrom last (n ∷ ns) = (last < n) × (n ≤ 4294967295) × RisesFrom n ns

-- the numbers are those of the pieces that are left, after so many numbers of which the last is this one
pub record IsRest (last count : ℕ) (pieces : List Text) (numbers : List ℕ) : Type 0 where
  pub spelled : pieces ≡ map decimal numbers
  pub rises : RisesFrom last numbers
  pub few : count + length numbers ≤ 1000

-- ---- a number's text

pub digit_low : (d : ℕ) → digit_value d < 10 → 48 ≤ d
digit_low d small = grind (arith, nat_tests)

pub digit_high : (d : ℕ) → digit_value d < 10 → d ≤ 57
digit_high d small = grind (arith, nat_tests)

all_no_comma : (ds : Text) → AllDigits 10 ds → All (λ b. (b == 44) ≡ false) ds
all_no_comma [] all = All-nil (λ b. (b == 44) ≡ false)
all_no_comma (d ∷ ds) all =
    let low : 48 ≤ d = digit_low d all.0 in
    All-cons (λ b. (b == 44) ≡ false) d ds (ne_eqb d 44 (λ e. omega arith)) (all_no_comma ds all.1)

fits : (n : ℕ) → n ≤ 4294967295 → n < 2 ^ 64
fits n small = omega arith

spells : (n : ℕ) → n ≤ 4294967295 → SpellsDecimal (decimal n) n
spells n small = SpellsDecimal-decimal n (fits n small)

pub decimal_one : (m n : ℕ) → m ≤ 4294967295 → SpellsDecimal (decimal m) n → m ≡ n
decimal_one m n small h = sym (spells m small).value ∙ h.value

-- ---- the pieces of a text, and the text of pieces

abbrev HaveNoComma : List Text → Type 0
HaveNoComma [] = Unit {0}
HaveNoComma (p ∷ ps) = All (λ b. (b == 44) ≡ false) p × HaveNoComma ps

pieces-join : (p : Text) (ps : List Text) → All (λ b. (b == 44) ≡ false) p → HaveNoComma ps → pieces_of (join_with_byte 44 (p ∷ ps)) ≡ p ∷ ps
pieces-join p [] h hs = slice_split_none (λ b. b == 44) p h
pieces-join p (q ∷ qs) h hs = slice_split_at (λ b. b == 44) p 44 (join_with_byte 44 (q ∷ qs)) h refl ∙ ap (λ (l : List Text). p ∷ l) (pieces-join q qs hs.0 hs.1)

decimals_clean : (ns : List ℕ) → All (λ n. n ≤ 4294967295) ns → HaveNoComma (map decimal ns)
decimals_clean [] all = tt
decimals_clean (n ∷ ns) all =
    (all_no_comma (decimal n) (spells n (All-head (λ n. n ≤ 4294967295) n ns all)).numeral.1, decimals_clean ns (All-tail (λ n. n ≤ 4294967295) n ns all))

list_pieces : (text : Text) (ns : List ℕ) → text ≡ join_with_byte comma (map decimal ns) → 0 < length ns → All (λ n. n ≤ 4294967295) ns → pieces_of text ≡ map decimal ns
list_pieces text [] e some all = absurd (omega arith)
list_pieces text (n ∷ ns) e some all = let clean = decimals_clean (n ∷ ns) all in ap pieces_of e ∙ pieces-join (decimal n) (map decimal ns) clean.0 clean.1

-- ---- numbers that rise

increasing_tail : (n : ℕ) (ns : List ℕ) → IsStrictlyIncreasing (n ∷ ns) → IsStrictlyIncreasing ns
increasing_tail n ns rising = λ k below.
    let next : suc k + 1 ≡ suc (k + 1) = omega arith in
    subst (λ j. slice_index ns k < slice_index (n ∷ ns) j) next (rising (suc k) (omega (arith, below)))

rises_after : (n : ℕ) (ns : List ℕ) → All (λ m. m ≤ 4294967295) ns → IsStrictlyIncreasing (n ∷ ns) → RisesFrom n ns
rises_after n [] bounded rising = tt
rises_after n (m ∷ ms) bounded rising =
    (rising 0 (omega arith), All-head (λ m. m ≤ 4294967295) m ms bounded, rises_after m ms (All-tail (λ m. m ≤ 4294967295) m ms bounded) (increasing_tail n (m ∷ ms) rising))

rises_from : (ns : List ℕ) → All (λ n. 1 ≤ n) ns → All (λ n. n ≤ 4294967295) ns → IsStrictlyIncreasing ns → RisesFrom 0 ns
rises_from [] positive bounded rising = tt
rises_from (n ∷ ns) positive bounded rising =
    let low : 1 ≤ n = All-head (λ n. 1 ≤ n) n ns positive in
    (omega arith, All-head (λ n. n ≤ 4294967295) n ns bounded, rises_after n ns (All-tail (λ n. n ≤ 4294967295) n ns bounded) rising)

above : (last : ℕ) (ns : List ℕ) → RisesFrom last ns → All (λ n. 1 ≤ n) ns
above last [] h = All-nil (λ n. 1 ≤ n)
above last (n ∷ ns) h = let low : last < n = h.0 in All-cons (λ n. 1 ≤ n) n ns (omega arith) (above n ns h.2)

within : (last : ℕ) (ns : List ℕ) → RisesFrom last ns → All (λ n. n ≤ 4294967295) ns
within last [] h = All-nil (λ n. n ≤ 4294967295)
within last (n ∷ ns) h = All-cons (λ n. n ≤ 4294967295) n ns h.1 (within n ns h.2)

increasing_more : (n m : ℕ) (ms : List ℕ) → n < m → IsStrictlyIncreasing (m ∷ ms) → IsStrictlyIncreasing (n ∷ m ∷ ms)
increasing_more n m ms low rising zero below = low
increasing_more n m ms low rising (suc k) below =
    let next : suc k + 1 ≡ suc (k + 1) = omega arith in
    subst (λ j. slice_index (m ∷ ms) k < slice_index (n ∷ m ∷ ms) j) (sym next) (rising k (omega (arith, below)))

increasing : (last : ℕ) (ns : List ℕ) → RisesFrom last ns → IsStrictlyIncreasing ns
increasing last [] h = λ k below. absurd (omega (arith, below))
increasing last (n ∷ []) h = λ k below. absurd (omega (arith, below))
increasing last (n ∷ m ∷ ms) h = increasing_more n m ms h.2.0 (increasing n (m ∷ ms) h.2)

-- ---- a list, by its pieces

pub rest_from_list : (text : Text) (ns : List ℕ) → IsList text ns → IsRest 0 0 (pieces_of text) ns
rest_from_list text ns h = record {
  spelled = list_pieces text ns h.spelled h.some h.bounded;
  rises = rises_from ns h.positive h.bounded h.rising;
  few = omega (arith, h.few);
}

pub list_from_rest : (text : Text) (ns : List ℕ) → IsRest 0 0 (pieces_of text) ns → IsList text ns
list_from_rest text ns h =
    let some : 0 < length (pieces_of text) = omega (arith, length-slice_split (λ b. b == 44) text) in
    record {
      spelled = sym (join_with_byte-slice_split 44 text) ∙ ap (join_with_byte 44) h.spelled;
      some = not_empty ns (subst (λ (ps : List Text). 0 < length ps) h.spelled some);
      few = omega (arith, h.few);
      positive = above 0 ns h.rises;
      bounded = within 0 ns h.rises;
      rising = increasing 0 ns h.rises;
    }
  where
    not_empty : (ms : List ℕ) → 0 < length (map decimal ms) → 0 < length ms
    not_empty [] k = k
    not_empty (m ∷ ms) k = omega arith

map_one : (last : ℕ) (ns ms : List ℕ) → RisesFrom last ns → (low : ℕ) → RisesFrom low ms → map decimal ns ≡ map decimal ms → ns ≡ ms
map_one last [] [] a low b e = refl
map_one last [] (m ∷ ms) a low b e = cc
map_one last (n ∷ ns) [] a low b e = cc
map_one last (n ∷ ns) (m ∷ ms) a low b e =
    let first : decimal n ≡ decimal m = cc in
    let others : map decimal ns ≡ map decimal ms = cc in
    ap₂ (λ (x : ℕ) (l : List ℕ). x ∷ l) (decimal_one n m a.1 (subst (λ (t : Text). SpellsDecimal t m) (sym first) (spells m b.1))) (map_one n ns ms a.2 m b.2 others)

-- no text is two lists
pub list_one : (text : Text) (ns ms : List ℕ) → IsList text ns → IsList text ms → ns ≡ ms
list_one text ns ms a b =
    let x = rest_from_list text ns a in
    let y = rest_from_list text ms b in
    map_one 0 ns ms x.rises 0 y.rises (sym x.spelled ∙ y.spelled)

-- ---- a list is a plain word

pub record BeginsWithDigit (text : Text) : Type 0 where
  pub first : ℕ
  pub rest : Text
  pub whole : text ≡ first ∷ rest
  pub low : 48 ≤ first
  pub high : first ≤ 57

list_begins : (text : Text) (ns : List ℕ) → IsList text ns → BeginsWithDigit text
list_begins text [] h = absurd (omega (arith, h.some))
list_begins text (n ∷ ns) h = by (decimal n) refl (spells n (All-head (λ n. n ≤ 4294967295) n ns h.bounded))
  where
    joined : (d : ℕ) (ds : Text) (ps : List Text) → (rest : Text) × (join_with_byte 44 ((d ∷ ds) ∷ ps) ≡ d ∷ rest)
    joined d ds [] = (ds, refl)
    joined d ds (p ∷ ps) = (ds ++ (44 ∷ join_with_byte 44 (p ∷ ps)), refl)

    by : (p : Text) → decimal n ≡ p → SpellsDecimal p n → BeginsWithDigit text
    by [] e s = absurd (omega (arith, s.numeral.0))
    by (d ∷ ds) e s =
        let j = joined d ds (map decimal ns) in
        record {
          first = d;
          rest = j.0;
          whole = h.spelled ∙ ap (λ (p : Text). join_with_byte 44 (p ∷ map decimal ns)) e ∙ j.1;
          low = digit_low d s.numeral.1.0;
          high = digit_high d s.numeral.1.0;
        }

pub no_dash : (d : ℕ) (ds : Text) → (d == 45) ≡ false → is_dashed (d ∷ ds) ≡ false
no_dash d ds e = rw e refl

pub no_long : (d : ℕ) (ds : Text) → (d == 45) ≡ false → long_of (d ∷ ds) ≡ None
no_long d ds e = rw e refl

pub no_help : (d : ℕ) (ds : Text) → (d == 45) ≡ false → (d == 104) ≡ false → is_help (d ∷ ds) ≡ false
no_help d ds e f = rw (e, f) refl

pub list_plain : (text : Text) (ns : List ℕ) → IsList text ns → word_of text ≡ plain
list_plain text ns h =
    let b = list_begins text ns h in
    let low : 48 ≤ b.first = b.low in
    let high : b.first ≤ 57 = b.high in
    let dash : (b.first == 45) ≡ false = ne_eqb b.first 45 (λ e. omega arith) in
    let other : (b.first == 104) ≡ false = ne_eqb b.first 104 (λ e. omega arith) in
    ap word_of b.whole
    ∙ ap₂ (λ (x y : Bool). if x || y then stranger else text_word (b.first ∷ b.rest)) (no_dash b.first b.rest dash) (no_help b.first b.rest dash other)
    ∙ text_plain (b.first ∷ b.rest) (no_long b.first b.rest dash)
