-- Runs of which one is closed up, or halved.
use Rattle.std.proofs.Common.{◌≡◌, ℕ, zero, suc, ◌+◌, ◌/◌, ◌<◌, ◌≤◌, List, [], ◌∷◌, ◌++◌, length, take, drop, set, refl, sym, ◌∙◌, ap, subst, arith, slice_get, Some, vec_len, vec_capacity, length-append}
use Rattle.std.specs.List.{insert, remove}
use Rattle.std.specs.declared.vec.Vec.{Vec}
use Rattle.std.proofs.lemmas.List.{append_assoc, take-append-drop, nil_from_length, length-take, length-drop, length-set, drop-set}
use Rattle.std.proofs.lemmas.Option.{slice_get_within}
use Rattle.list_lemmas.proofs.Alls.{all-at, all-append, all-take}
use Rattle.number_runs.specs.Runs.{numbers_of, IsFilled, AllFilled, AreFilled, HasRoom, HaveRoom}
use Rattle.number_runs.specs.Kept.{Keeps}
use Rattle.number_runs.proofs.Lists.{split, all-set, all-drop, insert-next}
use Rattle.number_runs.proofs.Flat.{numbers-append, numbers-split, numbers-set}

module _ {A : Type 0} where
  pub filled-append : (front back : List (Vec ℕ A)) → AllFilled (drop 1 front) → AllFilled back → AreFilled (front ++ back)
  filled-append [] back f h = all-drop IsFilled 1 back h
  filled-append (run ∷ front) back f h = all-append IsFilled front back f h

  filled-front : (k : ℕ) (runs : List (Vec ℕ A)) → AreFilled runs → AllFilled (drop 1 (take k runs))
  filled-front zero runs h = tt
  filled-front (suc k) [] h = tt
  filled-front (suc k) (run ∷ runs) h = all-take IsFilled k runs h

  filled-back : (k : ℕ) (runs : List (Vec ℕ A)) → AreFilled runs → AllFilled (drop (suc k) runs)
  filled-back k [] h = tt
  filled-back k (run ∷ runs) h = all-drop IsFilled k runs h

  -- other runs in place of one
  module _ (runs : List (Vec ℕ A)) (k : ℕ) (run : Vec ℕ A) (at : slice_get runs k ≡ Some run) where
    pub filled-join : AllFilled (drop 1 (take k runs)) → IsFilled run → AllFilled (drop (suc k) runs) → AreFilled runs
    filled-join f r b = subst AreFilled (sym (split runs k run at)) (filled-append (take k runs) (run ∷ drop (suc k) runs) f (r, b))

    pub close-numbers : length run.items ≡ 0 → numbers_of (remove runs k) ≡ numbers_of runs
    close-numbers none =
        numbers-append (take k runs) (drop (suc k) runs)
        ∙ ap (λ (l : List ℕ). numbers_of (take k runs) ++ (l ++ numbers_of (drop (suc k) runs))) (sym (nil_from_length run.items none))
        ∙ sym (numbers-split runs k run at)

    -- the halves of a run in its place
    module _ (first half : Vec ℕ A) (spare : ℕ) (long : 1 < length run.items)
        (first_items : first.items ≡ take (length run.items / 2) run.items) (first_len : vec_len first ≤ vec_len run) (first_cap : vec_capacity first ≡ vec_capacity run)
        (half_items : half.items ≡ drop (length run.items / 2) run.items) (half_room : HasRoom spare half) where
      new : List (Vec ℕ A)
      new = take k runs ++ (first ∷ half ∷ drop (suc k) runs)

      same_numbers : numbers_of new ≡ numbers_of runs
      unfolding new
      same_numbers =
          numbers-append (take k runs) (first ∷ half ∷ drop (suc k) runs)
          ∙ ap (λ l. numbers_of (take k runs) ++ l)
          (sym (append_assoc first.items half.items (numbers_of (drop (suc k) runs)))
          ∙ ap (λ l. l ++ numbers_of (drop (suc k) runs)) ((λ i. first_items i ++ half_items i) ∙ take-append-drop (length run.items / 2) run.items))
          ∙ sym (numbers-split runs k run at)

      still_filled : AreFilled runs → AreFilled new
      unfolding new
      still_filled h =
          let a = ap length first_items ∙ length-take (length run.items / 2) run.items in
          let b = ap length half_items ∙ length-drop (length run.items / 2) run.items in
          filled-append (take k runs) (first ∷ half ∷ drop (suc k) runs) (filled-front k runs h) (omega (arith, a), (omega (arith, b), filled-back k runs h))

      still_room : (less : ℕ) → less ≤ spare → HaveRoom less runs → HaveRoom less new
      unfolding new
      still_room less le h =
          let own : HasRoom less run = all-at (HasRoom less) runs k run h at in
          all-append (HasRoom less) (take k runs) (first ∷ half ∷ drop (suc k) runs) (all-take (HasRoom less) k runs h)
          (omega (arith, own), (omega (arith, half_room), all-drop (HasRoom less) (suc k) runs h))

      no_fewer : length runs ≤ length new
      unfolding new
      no_fewer =
          let a = ap length (split runs k run at) ∙ length-append (take k runs) (run ∷ drop (suc k) runs) in
          let b = length-append (take k runs) (first ∷ half ∷ drop (suc k) runs) in
          omega (arith, a, b)

      pub halved : (halves : List (Vec ℕ A)) → halves ≡ insert (set runs k first) (suc k) half → Keeps spare runs halves
      unfolding new
      halved halves is =
          subst (Keeps spare runs) (sym (is ∙ insert-next runs k run first half at)) (record {
            numbers = same_numbers;
            filled = still_filled;
            room = still_room;
            there = no_fewer;
          })

    -- a run with more room in its place
    pub widened : (other : Vec ℕ A) (spare : ℕ) → other.items ≡ run.items → vec_len other ≡ vec_len run → vec_capacity run ≤ vec_capacity other → Keeps spare runs (set runs k other)
    widened other spare same len cap = record {
      numbers =
          numbers-set runs k run other at
          ∙ ap (λ (l : List ℕ). numbers_of (take k runs) ++ (l ++ numbers_of (drop (suc k) runs))) same
          ∙ sym (numbers-split runs k run at);
      filled = λ h. filled-set runs k run other at (ap length same) h;
      room = λ less le h.
          let own : HasRoom less run = all-at (HasRoom less) runs k run h at in
          all-set (HasRoom less) runs k other h (omega (arith, own));
      there = let n = length-set runs k other in omega (arith, n);
    }
      where
        filled-set : (runs : List (Vec ℕ A)) (k : ℕ) (run other : Vec ℕ A) → slice_get runs k ≡ Some run → length other.items ≡ length run.items → AreFilled runs → AreFilled (set runs k other)
        filled-set [] k run other at e h = tt
        filled-set (r ∷ rs) zero run other at e h = h
        filled-set (r ∷ rs) (suc k) run other at e h =
            let own : IsFilled run = all-at IsFilled rs k run h at in
            all-set IsFilled rs k other h (omega (arith, own))

  pub room-from : (runs : List (Vec ℕ A)) (k : ℕ) (run other : Vec ℕ A) (spare : ℕ) → slice_get runs k ≡ Some run → HaveRoom spare (drop (k + 1) runs) → HasRoom spare other
      → HaveRoom spare (drop k (set runs k other))
  room-from runs k run other spare at rest own =
      subst (HaveRoom spare) (sym (drop-set runs k other (slice_get_within runs k run at))) (own, rest)

  pub keeps-refl : (spare : ℕ) (runs : List (Vec ℕ A)) → Keeps spare runs runs
  keeps-refl spare runs = record {
    numbers = refl;
    filled = λ h. h;
    room = λ less le h. h;
    there = omega arith;
  }

  pub keeps-trans : (spare : ℕ) (old mid new : List (Vec ℕ A)) → Keeps spare old mid → Keeps spare mid new → Keeps spare old new
  keeps-trans spare old mid new a b = record {
    numbers = b.numbers ∙ a.numbers;
    filled = λ h. b.filled (a.filled h);
    room = λ less le h. b.room less le (a.room less le h);
    there = omega (arith, a.there, b.there);
  }

  -- where there was no run
  pub keeps-first : (spare : ℕ) (old : List (Vec ℕ A)) (run : Vec ℕ A) → old ≡ [] → run.items ≡ [] → HasRoom spare run → Keeps spare old (old ++ run ∷ [])
  keeps-first spare old run none empty has =
      subst (λ (l : List (Vec ℕ A)). Keeps spare l (l ++ run ∷ [])) (sym none) (record {
        numbers = ap (λ (l : List ℕ). l ++ []) empty;
        filled = λ h. tt;
        room = λ less le h. (omega (arith, has), tt);
        there = omega arith;
      })
