-- Forms that are tried one by one.
use Rattle.std.proofs.Common.{◌≡◌, ◌⊎◌, ℕ, ◌+◌, ◌<◌, ◌≤◌, max, List, [], ◌∷◌, ◌++◌, length, take, get_or, sym, subst, inl, inr, arith}
use Rattle.std.proofs.lemmas.List.{take_more}
use Rattle.std.specs.List.{AllByRecursion}
use Rattle.script_reader.specs.declared.words.Words.{Words}
use Rattle.script_reader.specs.Cursor.{Stops, end_of, words_left}
use Rattle.script_reader.specs.Finds.{FitsFarthest, StopsBy}
use Rattle.script_reader.specs.Languages.{Language}

-- one form more
all_more : (l : Language) (cursor : Words) (low high : ℕ) (forms : List l.Form) (form : l.Form) → low ≤ high → AllByRecursion (StopsBy l cursor low) forms → StopsBy l cursor high form →
    AllByRecursion (StopsBy l cursor high) (forms ++ form ∷ [])
all_more l cursor low high [] form rises all one = (one, tt)
all_more l cursor low high (first ∷ forms) form rises all one =
    let below : all.0.0 ≤ low = all.0.2 in
    ((all.0.0, all.0.1, omega arith), all_more l cursor low high forms form rises all.1 one)

-- the farthest of the forms so far
abbrev pub IsFarthest : Language → Words → ℕ → Type 0
IsFarthest l cursor farthest = (farthest ≡ 0) ⊎ ((form : l.Form) × Stops (l.kinds_of form) (words_left cursor) (end_of cursor) farthest)

pub one_more : (l : Language) (cursor : Words) (index farthest column most : ℕ) (d : l.Form) → index < length l.forms → most ≡ max farthest column →
    Stops (l.kinds_of (get_or l.forms index d)) (words_left cursor) (end_of cursor) column →
    AllByRecursion (StopsBy l cursor farthest) (take index l.forms) × IsFarthest l cursor farthest →
    AllByRecursion (StopsBy l cursor most) (take (index + 1) l.forms) × IsFarthest l cursor most
one_more l cursor index farthest column most d within most_is stops so_far = (
  subst (AllByRecursion (StopsBy l cursor most)) (sym (take_more l.forms index d within))
      (all_more l cursor farthest most (take index l.forms) (get_or l.forms index d) (omega arith) so_far.0 (column, stops, omega arith)),
  by (le_cases farthest column),
)
  where
    le_cases : (a b : ℕ) → (a ≤ b) ⊎ (b ≤ a)
    le_cases a b = grind arith

    by : (farthest ≤ column) ⊎ (column ≤ farthest) → IsFarthest l cursor most
    by (inl less) = let same : column ≡ most = omega arith in
        inr (get_or l.forms index d, subst (λ (m : ℕ). Stops (l.kinds_of (get_or l.forms index d)) (words_left cursor) (end_of cursor) m) same stops)
    by (inr more) = let same : farthest ≡ most = omega arith in subst (IsFarthest l cursor) same so_far.1

-- all of them, where there is one
pub all_tried : (l : Language) (cursor : Words) (farthest : ℕ) → 0 < length l.forms → AllByRecursion (StopsBy l cursor farthest) l.forms → IsFarthest l cursor farthest →
    FitsFarthest l cursor farthest
all_tried l cursor farthest some all (inr one) = record { each = all; form = one.0; stops = one.1 }
all_tried l cursor farthest some all (inl none) = let first = first_of l.forms some all in record { each = all; form = first.0; stops = first.1 }
  where
    first_of : (forms : List l.Form) → 0 < length forms → AllByRecursion (StopsBy l cursor farthest) forms → (form : l.Form) × Stops (l.kinds_of form) (words_left cursor) (end_of cursor) farthest
    first_of [] some' all' = absurd (omega arith)
    first_of (form ∷ forms) some' all' =
        let below : all'.0.0 ≤ farthest = all'.0.2 in
        let same : all'.0.0 ≡ farthest = omega arith in
        (form, subst (λ (stop : ℕ). Stops (l.kinds_of form) (words_left cursor) (end_of cursor) stop) same all'.0.1)
