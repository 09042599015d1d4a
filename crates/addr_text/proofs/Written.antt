-- What is written spells what it is written for.
use Rattle.std.proofs.Common.{◌≡◌, ℕ, ◌+◌, ◌-◌, ◌*◌, ◌/◌, ◌%◌, ◌^◌, ◌<◌, ◌≤◌, inl, inr, Bool, true, false, cond, ltb, List, [], ◌∷◌, ◌++◌, length, take, drop, replicate, zero, suc, sym, subst, ap, ◌∙◌, refl, length-drop, arith}
use Rattle.std.proofs.Math.Nat.{div-add-mod', div-lt_iff_lt-mul, pow-suc, pow-zero}
use Rattle.std.specs.Fmt.{decimal}
use Rattle.std.specs.Int.Digits.{AllBelowBase, number_from_digits}
use Rattle.std.proofs.lemmas.Int.Digits.{number_push}
use Rattle.std.proofs.lemmas.List.{length-take-le}
use borrow.Author.Tests.{ltb-true, ltb-false}
use Rattle.number_text.specs.Numbers.{hexadecimal}
use Rattle.number_text.proofs.Spelled.{length-digits-le, SpellsDecimal-decimal, SpellsHexadecimal-hexadecimal}
use Rattle.prefixes.specs.Addr.{IsAddr}
use Rattle.prefixes.specs.declared.addr.Addr.{Addr}
use Rattle.prefixes.specs.declared.addr.Addr.TheVariants as addr
use Rattle.prefixes.specs.declared.prefix.Prefix.{Prefix}
use Rattle.addr_text.specs.Canonical.{canonical, canonical_prefix, groups_of, groups_text, longest_run, octets_of, parts_of, row_text, shortened_by}
use Rattle.addr_text.specs.Forms.{base_of, part_text, parts_text, SpellsPart, SpellsParts}
use Rattle.addr_text.specs.Grammar.{Spells, SpellsGroups, SpellsPrefix, SpellsShort}
use Rattle.addr_text.specs.Recommended.{IsRecommended, IsZeroRun}
use Rattle.addr_text.specs.declared.form.Form.{Form}
use Rattle.addr_text.specs.declared.form.Form.TheVariants as form
use Rattle.addr_text.specs.declared.run.Run.{Run}
use Rattle.addr_text.proofs.Lengths.{below-take, below-drop, parts_of-below, parts_of-length}
use Rattle.addr_text.proofs.Prefixes.{len_most}
use Rattle.addr_text.proofs.Runs.{IsParted, longest_run-is, longest_run-parted, longest_run-within}

-- the digits of a number make it
number-parts_of : (base count n : ℕ) → 0 < base → n < base ^ count → number_from_digits base (parts_of base count n) ≡ n
number-parts_of base zero n some below = omega (arith, pow-zero base)
number-parts_of base (suc count) n some below =
    number_push base (parts_of base count (n / base)) (n % base)
    ∙ ap (λ (m : ℕ). m * base + n % base) (number-parts_of base count (n / base) some ((div-lt_iff_lt-mul some).1 (omega (arith, pow-suc base count))))
    ∙ div-add-mod' n base

part_spelled : (f : Form) (x : ℕ) → x < base_of f → SpellsPart f (part_text f x) x
part_spelled form.Octets x below = (SpellsDecimal-decimal x (omega arith), below)
part_spelled form.Groups x below =
    let spelled = SpellsHexadecimal-hexadecimal x (omega arith) in
    (spelled.number.numeral, length-digits-le 16 4 x (omega arith) (omega arith) (omega arith) (omega arith), spelled.number.value)

row_spelled : (f : Form) (xs : List ℕ) → AllBelowBase (base_of f) xs → SpellsParts f (parts_text f xs) xs
row_spelled f [] below = refl
row_spelled f (x ∷ []) below = part_spelled f x below.0
row_spelled f (x ∷ y ∷ ys) below = (part_text f x, parts_text f (y ∷ ys), refl, part_spelled f x below.0, row_spelled f (y ∷ ys) below.1)

shortened_spelled : (run : Run) (groups : List ℕ) → length groups ≡ 8 → AllBelowBase 65536 groups → IsParted groups run → run.start + run.len ≤ length groups → 2 ≤ run.len →
    SpellsShort (shortened_by run groups) groups
shortened_spelled run groups eight below parted within long =
    let left_len : length (take run.start groups) ≡ run.start = length-take-le run.start groups (omega arith) in
    let right_len : length (drop (run.start + run.len) groups) ≡ length groups - (run.start + run.len) = length-drop (run.start + run.len) groups in
    let zeros : run.len ≡ 8 - (length (take run.start groups) + length (drop (run.start + run.len) groups)) = omega arith in
    record {
      left_text = row_text hexadecimal 58 (take run.start groups);
      right_text = row_text hexadecimal 58 (drop (run.start + run.len) groups);
      left = take run.start groups;
      right = drop (run.start + run.len) groups;
      cut = refl;
      left_row = row_spelled form.Groups (take run.start groups) (below-take 65536 run.start groups below);
      right_row = row_spelled form.Groups (drop (run.start + run.len) groups) (below-drop 65536 (run.start + run.len) groups below);
      few = omega arith;
      all = parted ∙ ap (λ (k : ℕ). take run.start groups ++ (replicate k 0 ++ drop (run.start + run.len) groups)) zeros;
    }

groups_spelled : (groups : List ℕ) → length groups ≡ 8 → AllBelowBase 65536 groups → SpellsGroups (groups_text groups) groups
groups_spelled groups eight below = by (ltb (longest_run groups).len 2) refl
  where
    by : (b : Bool) → ltb (longest_run groups).len 2 ≡ b → SpellsGroups (cond b (row_text hexadecimal 58 groups) (shortened_by (longest_run groups) groups)) groups
    by true e = inl (eight, row_spelled form.Groups groups below)
    by false e = inr (shortened_spelled (longest_run groups) groups eight below (longest_run-parted groups) (longest_run-within groups) (ltb-false (longest_run groups).len 2 e))

pub canonical_spelled : (a : Addr) → IsAddr a → Spells (canonical a) a
canonical_spelled (addr.V4 value) fits = record {
  octets = octets_of value;
  four = parts_of-length 256 4 value;
  row = row_spelled form.Octets (octets_of value) (parts_of-below 256 4 value (omega arith));
  number = number-parts_of 256 4 value (omega arith) (omega arith);
}
canonical_spelled (addr.V6 value) fits = record {
  groups = groups_of value;
  form = groups_spelled (groups_of value) (parts_of-length 65536 8 value) (parts_of-below 65536 8 value (omega arith));
  number = number-parts_of 65536 8 value (omega arith) (omega arith);
}

pub canonical_prefix_spelled : (prefix : Prefix) → IsAddr prefix.base → SpellsPrefix (canonical_prefix prefix) prefix
canonical_prefix_spelled prefix fits = record {
  base_text = canonical prefix.base;
  len_text = decimal prefix.len;
  cut = refl;
  base = canonical_spelled prefix.base fits;
  len = SpellsDecimal-decimal prefix.len (let most = len_most prefix in omega arith);
}

-- what is written for groups is recommended
pub groups_text-recommended : (groups : List ℕ) → IsRecommended groups (groups_text groups)
groups_text-recommended groups = by (ltb (longest_run groups).len 2) refl
  where
    by : (b : Bool) → ltb (longest_run groups).len 2 ≡ b → IsRecommended groups (cond b (row_text hexadecimal 58 groups) (shortened_by (longest_run groups) groups))
    by true e =
        let few : (longest_run groups).len < 2 = ltb-true (longest_run groups).len 2 e in
        inr (λ start len run. (let most = (longest_run-is groups).longest start len run in omega arith), refl)
    by false e =
        let is = longest_run-is groups in
        inl (longest_run groups, record { zeros = is.zeros; long = ltb-false (longest_run groups).len 2 e; longest = is.longest; first = is.first }, refl)

abbrev run_of : ℕ → ℕ → Run
run_of start len = record { start = start; len = len }

same_run : (r s : Run) → r.start ≡ s.start → r.len ≡ s.len → r ≡ s
same_run r s start len = ap (λ (n : ℕ). run_of n r.len) start ∙ ap (λ (n : ℕ). run_of s.start n) len

-- one text is recommended
pub one_recommended : (groups text other : List ℕ) → IsRecommended groups text → IsRecommended groups other → text ≡ other
one_recommended groups text other (inl (r, is, text_is)) (inl (s, is', other_is)) =
    let most : r.len ≤ s.len = is'.longest r.start r.len is.zeros in
    let least : s.len ≤ r.len = is.longest s.start s.len is'.zeros in
    let len : r.len ≡ s.len = omega arith in
    let before : r.start ≤ s.start = is.first s.start (subst (λ (n : ℕ). IsZeroRun groups s.start n) (sym len) is'.zeros) in
    let behind : s.start ≤ r.start = is'.first r.start (subst (λ (n : ℕ). IsZeroRun groups r.start n) len is.zeros) in
    text_is ∙ ap (λ (run : Run). shortened_by run groups) (same_run r s (omega arith) len) ∙ sym other_is
one_recommended groups text other (inl (r, is, text_is)) (inr (none, other_is)) =
    absurd (let few = none r.start r.len is.zeros in let long = is.long in omega arith)
one_recommended groups text other (inr (none, text_is)) (inl (s, is', other_is)) =
    absurd (let few = none s.start s.len is'.zeros in let long = is'.long in omega arith)
one_recommended groups text other (inr (none, text_is)) (inr (none', other_is)) = text_is ∙ sym other_is
