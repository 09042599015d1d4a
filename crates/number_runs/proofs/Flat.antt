-- Where numbers stand in runs.
use Rattle.std.proofs.Common.{◌≡◌, ℕ, zero, suc, ◌+◌, ◌-◌, ◌<◌, ◌≤◌, min, Bool, true, false, List, [], ◌∷◌, ◌++◌, length, take, drop, set, refl, sym, ◌∙◌, ap, subst, arith, inl, inr, slice_get, Option, Some, None, length-append, add-zero}
use Rattle.std.specs.List.{AllByRecursion, prefix_len, insert, remove}
use Rattle.std.specs.declared.vec.Vec.{Vec}
use Rattle.std.proofs.lemmas.List.{append-nil, take_all, drop_all, take-append-drop, take_rest, drop-drop, drop_at, drop-append-le, length-drop}
use Rattle.std.proofs.lemmas.List.Concat.{flat_map-append}
use Rattle.std.proofs.lemmas.List.Sums.{prefix_len-le-length}
use Rattle.std.proofs.lemmas.Bool.{cases_lt}
use Rattle.std.proofs.lemmas.Option.{slice_get_within}
use Rattle.list_lemmas.proofs.Alls.{all-append}
use Rattle.list_lemmas.proofs.Places.{slice_get-left, slice_get-past, take-next, drop-next}
use Rattle.number_runs.specs.Parted.{IsParted}
use Rattle.number_runs.specs.Runs.{numbers_of, IsFilled, AllFilled, AreFilled, ends, whole_runs, place_at}
use Rattle.number_runs.proofs.Lists.{head-of-drop, split, set-split, all-drop, drop-middle, insert-middle, remove-middle}
use Rattle.number_runs.proofs.Heads.{AllPassing, parted-left, parted-right, parted-without, front-passes, prefix_len-all, prefix_len-short, head-passes, stop-fails, ends-all, ends-short, all-ends, last-passes}

pub slice_get-right : {X : Type 0} (xs ys : List X) (n : ℕ) → length xs ≤ n → slice_get (xs ++ ys) n ≡ slice_get ys (n - length xs)
slice_get-right [] ys n h = let e : n - 0 ≡ n = omega arith in ap (slice_get ys) (sym e)
slice_get-right (x ∷ xs) ys zero h = absurd (omega arith)
slice_get-right (x ∷ xs) ys (suc n) h =
    let e : suc n - suc (length xs) ≡ n - length xs = omega arith in
    slice_get-right xs ys n (omega arith) ∙ ap (slice_get ys) (sym e)

module _ {A : Type 0} where
  pub numbers-append : (xs ys : List (Vec ℕ A)) → numbers_of (xs ++ ys) ≡ numbers_of xs ++ numbers_of ys
  numbers-append xs ys = flat_map-append (λ (run : Vec ℕ A). run.items) xs ys

  -- the numbers before a run, in it and after it
  pub numbers-split : (runs : List (Vec ℕ A)) (k : ℕ) (run : Vec ℕ A) → slice_get runs k ≡ Some run
      → numbers_of runs ≡ numbers_of (take k runs) ++ (run.items ++ numbers_of (drop (suc k) runs))
  numbers-split runs k run at = ap numbers_of (split runs k run at) ∙ numbers-append (take k runs) (run ∷ drop (suc k) runs)

  pub numbers-set : (runs : List (Vec ℕ A)) (k : ℕ) (run other : Vec ℕ A) → slice_get runs k ≡ Some run
      → numbers_of (set runs k other) ≡ numbers_of (take k runs) ++ (other.items ++ numbers_of (drop (suc k) runs))
  numbers-set runs k run other at = ap numbers_of (set-split runs k run other at) ∙ numbers-append (take k runs) (other ∷ drop (suc k) runs)

  module _ (runs : List (Vec ℕ A)) (k : ℕ) (run : Vec ℕ A) (at : slice_get runs k ≡ Some run) where
    pub number-here : (n : ℕ) → n < length run.items → slice_get (numbers_of (drop k runs)) n ≡ slice_get run.items n
    number-here n lt = ap (λ l. slice_get (numbers_of l) n) (drop-next runs k run at) ∙ slice_get-left run.items (numbers_of (drop (k + 1) runs)) n lt

    pub number-later : (n : ℕ) → length run.items ≤ n → slice_get (numbers_of (drop k runs)) n ≡ slice_get (numbers_of (drop (k + 1) runs)) (n - length run.items)
    number-later n le = ap (λ l. slice_get (numbers_of l) n) (drop-next runs k run at) ∙ slice_get-right run.items (numbers_of (drop (k + 1) runs)) n le

    pub count-more : length (numbers_of (take (k + 1) runs)) ≡ length (numbers_of (take k runs)) + length run.items
    count-more =
        ap (λ l. length (numbers_of l)) (take-next runs k run at)
        ∙ ap length (numbers-append (take k runs) (run ∷ []))
        ∙ length-append (numbers_of (take k runs)) (run.items ++ [])
        ∙ ap (λ l. length (numbers_of (take k runs)) + length l) (append-nil run.items)

  pub count-within : (n : ℕ) (runs : List (Vec ℕ A)) → length (numbers_of (take n runs)) ≤ length (numbers_of runs)
  count-within n runs =
      let e = ap length (ap numbers_of (sym (take-append-drop n runs)) ∙ numbers-append (take n runs) (drop n runs)) ∙ length-append (numbers_of (take n runs)) (numbers_of (drop n runs)) in
      omega (arith, e)

  module _ (p : ℕ → Bool) where
    abbrev pub ends_run : Vec ℕ A → Bool
    ends_run run = ends p run.items

    -- a run after others
    later : (xs : List ℕ) (runs : List (Vec ℕ A)) → IsParted p (xs ++ numbers_of runs) → AllFilled runs → AllByRecursion (λ run. ends_run run ≡ true → ends p xs ≡ true) runs
    later xs [] h f = tt
    later xs (run ∷ runs) h f = (λ e. here (last-passes p run.items f.0 e), later xs runs (parted-without p xs run.items (numbers_of runs) h) f.1)
      where
        here : (n : ℕ) × (y : ℕ) × (slice_get run.items n ≡ Some y) × (p y ≡ true) → ends p xs ≡ true
        here l =
            all-ends p xs (front-passes p xs (run.items ++ numbers_of runs) l.1 l.0 h
            (slice_get-left run.items (numbers_of runs) l.0 (slice_get_within run.items l.0 l.1 l.2) ∙ l.2) l.3)

    pub parted-runs : (runs : List (Vec ℕ A)) → IsParted p (numbers_of runs) → AreFilled runs → IsParted ends_run runs
    parted-runs [] h f = tt
    parted-runs (run ∷ runs) h f = (later run.items runs h f, parted-runs runs (parted-right p run.items (numbers_of runs) h) (all-drop IsFilled 1 runs f))

    -- the numbers of runs that pass as a whole
    pub whole-pass : (runs : List (Vec ℕ A)) → IsParted p (numbers_of runs) → AllPassing ends_run runs → AllPassing p (numbers_of runs)
    whole-pass [] h e = tt
    whole-pass (run ∷ runs) h e =
        all-append (λ n. p n ≡ true) run.items (numbers_of runs) (ends-all p run.items (parted-left p run.items (numbers_of runs) h) e.0)
        (whole-pass runs (parted-right p run.items (numbers_of runs) h) e.1)

    module _ (runs : List (Vec ℕ A)) (parted : IsParted p (numbers_of runs)) where
      front_parted : (k : ℕ) → IsParted p (numbers_of (take k runs))
      front_parted k =
          parted-left p (numbers_of (take k runs)) (numbers_of (drop k runs))
          (subst (λ (l : List ℕ). IsParted p l) (ap numbers_of (sym (take-append-drop k runs)) ∙ numbers-append (take k runs) (drop k runs)) parted)

      front_passes : (k : ℕ) → k ≤ whole_runs p runs → AllPassing p (numbers_of (take k runs))
      front_passes k le = whole-pass (take k runs) (front_parted k) (head-passes ends_run runs k le)

      -- in the run at a place
      module _ (k : ℕ) (run : Vec ℕ A) (at : slice_get runs k ≡ Some run) where
        pub run-parted : IsParted p run.items
        run-parted =
            parted-left p run.items (numbers_of (drop (suc k) runs))
            (parted-right p (numbers_of (take k runs)) (run.items ++ numbers_of (drop (suc k) runs))
            (subst (λ (l : List ℕ). IsParted p l) (numbers-split runs k run at) parted))

        abbrev IsItsPlace : Type 0
        IsItsPlace = prefix_len p (numbers_of runs) ≡ length (numbers_of (take k runs)) + prefix_len p run.items

        -- where the runs before it pass as a whole
        place-from : k ≤ whole_runs p runs → prefix_len p (run.items ++ numbers_of (drop (suc k) runs)) ≡ prefix_len p run.items → IsItsPlace
        place-from le e =
            ap (prefix_len p) (numbers-split runs k run at)
            ∙ prefix_len-all p (numbers_of (take k runs)) (run.items ++ numbers_of (drop (suc k) runs)) (front_passes k le)
            ∙ ap (λ n. length (numbers_of (take k runs)) + n) e

        pub run-stops : k ≡ whole_runs p runs → ends p run.items ≡ false
        run-stops is = stop-fails ends_run runs run (ap (slice_get runs) (sym is) ∙ at)

        pub place-here : k ≡ whole_runs p runs → IsItsPlace
        place-here is = place-from (omega (arith, is)) (prefix_len-short p run.items (numbers_of (drop (suc k) runs)) (ends-short p run.items (run-stops is)))

        pub here-short : k ≡ whole_runs p runs → prefix_len p run.items < length run.items
        here-short is = ends-short p run.items (run-stops is)

        pub place-last : k ≤ whole_runs p runs → length runs ≤ suc k → IsItsPlace
        place-last le last =
            place-from le (ap (λ (l : List (Vec ℕ A)). prefix_len p (run.items ++ numbers_of l)) (drop_all (suc k) runs last) ∙ ap (prefix_len p) (append-nil run.items))

        pub rest-is : IsItsPlace → drop (prefix_len p (numbers_of runs)) (numbers_of runs) ≡ drop (prefix_len p run.items) run.items ++ numbers_of (drop (suc k) runs)
        rest-is place =
            (λ i. drop (place i) (numbers-split runs k run at i))
            ∙ drop-middle (numbers_of (take k runs)) run.items (numbers_of (drop (suc k) runs)) (prefix_len p run.items) (prefix_len-le-length p run.items)

        pub put-is : IsItsPlace → (other : Vec ℕ A) (x : ℕ) → other.items ≡ insert run.items (prefix_len p run.items) x
            → numbers_of (set runs k other) ≡ insert (numbers_of runs) (prefix_len p (numbers_of runs)) x
        put-is place other x is =
            numbers-set runs k run other at
            ∙ ap (λ (l : List ℕ). numbers_of (take k runs) ++ (l ++ numbers_of (drop (suc k) runs))) is
            ∙ sym (insert-middle (numbers_of (take k runs)) run.items (numbers_of (drop (suc k) runs)) (prefix_len p run.items) (prefix_len-le-length p run.items) x)
            ∙ (λ i. insert (sym (numbers-split runs k run at) i) (sym place i) x)

        pub cut-is : IsItsPlace → prefix_len p run.items < length run.items → (other : Vec ℕ A) → other.items ≡ remove run.items (prefix_len p run.items)
            → numbers_of (set runs k other) ≡ remove (numbers_of runs) (prefix_len p (numbers_of runs))
        cut-is place short other is =
            numbers-set runs k run other at
            ∙ ap (λ (l : List ℕ). numbers_of (take k runs) ++ (l ++ numbers_of (drop (suc k) runs))) is
            ∙ sym (remove-middle (numbers_of (take k runs)) run.items (numbers_of (drop (suc k) runs)) (prefix_len p run.items) short)
            ∙ (λ i. remove (sym (numbers-split runs k run at) i) (sym place i))

        pub place-within : IsItsPlace → prefix_len p run.items < length run.items → prefix_len p (numbers_of runs) < length (numbers_of runs)
        place-within place short =
            let all = ap length (numbers-split runs k run at) in
            let a = length-append (numbers_of (take k runs)) (run.items ++ numbers_of (drop (suc k) runs)) in
            let b = length-append run.items (numbers_of (drop (suc k) runs)) in
            omega (arith, all, a, b, place)

      -- where all runs pass as a whole
      pub place-past : length runs ≤ whole_runs p runs → prefix_len p (numbers_of runs) ≡ length (numbers_of runs)
      place-past le =
          let all : take (length runs) runs ≡ runs = take_all (length runs) runs (omega arith) in
          let passing : AllPassing p (numbers_of runs) = subst (λ (l : List (Vec ℕ A)). AllPassing p (numbers_of l)) all (front_passes (length runs) le) in
          let e = prefix_len-all p (numbers_of runs) [] passing in
          let n = append-nil (numbers_of runs) in
          ap (prefix_len p) (sym n) ∙ e ∙ add-zero (length (numbers_of runs))

      -- the place that is counted over the runs
      pub counted-place : (n : ℕ) → n ≡ whole_runs p runs → prefix_len p (numbers_of runs) ≡ length (numbers_of (take n runs)) + place_at p (slice_get runs n)
      counted-place n is = by (slice_get runs n) refl
        where
          by : (o : Option (Vec ℕ A)) → slice_get runs n ≡ o → prefix_len p (numbers_of runs) ≡ length (numbers_of (take n runs)) + place_at p o
          by (Some run) at = place-here n run at is
          by None at =
              let past : length runs ≤ n = slice_get-past runs n at in
              let all : take n runs ≡ runs = take_all n runs past in
              let e = place-past (omega (arith, is, past)) in
              rw all (omega (arith, e))

      pub put-place : (k n : ℕ) (run : Vec ℕ A) (at : slice_get runs k ≡ Some run) → n ≡ whole_runs p runs → k ≡ min n (length runs - 1) → IsItsPlace k run at
      put-place k n run at is least = elim (cases_lt n (length runs)) as (λ _. IsItsPlace k run at) [
        | inl less ↦ place-here k run at (omega (arith, is))
        | inr past ↦ let within = slice_get_within runs k run at in place-last k run at (omega (arith, is)) (omega (arith, within))
      ]

      -- what is left after the numbers that pass
      module _ (k : ℕ) (is : k ≡ whole_runs p runs) where
        pub rest-at : (run : Vec ℕ A) (rest : List (Vec ℕ A)) → take (length runs - k) (drop k runs) ≡ run ∷ rest → (items : List ℕ) (place : ℕ) → items ≡ run.items → place ≡ prefix_len p items
            → take (length items - place) (drop place items) ++ numbers_of rest ≡ drop (prefix_len p (numbers_of runs)) (numbers_of runs)
        rest-at run rest d items place same count =
            let parts = head-of-drop runs k run rest (sym (take_rest runs k) ∙ d) in
            ap (λ l. l ++ numbers_of rest) (take_rest items place)
            ∙ (λ i. drop (count i) items ++ numbers_of (sym parts.1 i))
            ∙ ap (λ l. drop (prefix_len p l) l ++ numbers_of (drop (suc k) runs)) same
            ∙ sym (rest-is k run parts.0 (place-here k run parts.0 is))

        pub rest-none : length (take (length runs - k) (drop k runs)) ≡ 0 → [] ≡ drop (prefix_len p (numbers_of runs)) (numbers_of runs)
        rest-none none =
            let n = length-drop k runs in
            let e = sym (ap length (take_rest runs k)) ∙ none in
            let past : length runs ≤ whole_runs p runs = omega (arith, n, e, is) in
            let all = place-past past in
            sym (drop_all (prefix_len p (numbers_of runs)) (numbers_of runs) (omega (arith, all)))

      pub parted-at : (k : ℕ) (run : Vec ℕ A) (rest : List (Vec ℕ A)) → take (length runs - k) (drop k runs) ≡ run ∷ rest → (items : List ℕ) → items ≡ run.items → IsParted p items
      parted-at k run rest d items same =
          let parts = head-of-drop runs k run rest (sym (take_rest runs k) ∙ d) in
          subst (λ (l : List ℕ). IsParted p l) (sym same) (run-parted k run parts.0)

-- a run, and what comes after it
module _ (p : ℕ → Bool) where
  pub skip-later : (xs ys : List ℕ) → IsParted p (xs ++ ys) → ends p xs ≡ true → drop (prefix_len p ys) ys ≡ drop (prefix_len p (xs ++ ys)) (xs ++ ys)
  skip-later xs ys h e =
      let n = prefix_len-all p xs ys (ends-all p xs (parted-left p xs ys h) e) in
      sym (ap (λ m. drop m (xs ++ ys)) n ∙ sym (drop-drop (prefix_len p ys) (length xs) (xs ++ ys)) ∙ ap (drop (prefix_len p ys)) (drop_at xs ys (length xs) refl))

  pub skip-here : (xs ys : List ℕ) (place : ℕ) → ends p xs ≡ false → place ≡ prefix_len p xs → take (length xs - place) (drop place xs) ++ ys ≡ drop (prefix_len p (xs ++ ys)) (xs ++ ys)
  skip-here xs ys place e is =
      ap (λ l. l ++ ys) (take_rest xs place)
      ∙ ap (λ m. drop m xs ++ ys) is
      ∙ sym (drop-append-le (prefix_len p xs) xs ys (prefix_len-le-length p xs))
      ∙ ap (λ m. drop m (xs ++ ys)) (sym (prefix_len-short p xs ys (ends-short p xs e)))
