-- Lists of numbers, as the spots of their rules.
use Rattle.std.proofs.Common.{◌≡◌, ℕ, zero, suc, ◌+◌, Bool, true, false, cond, List, [], ◌∷◌, ◌++◌, map, drop, refl, sym, ◌∙◌, ap, slice_get, Some, None}
use Rattle.std.specs.List.{AllByRecursion, prefix_len, insert, remove, find}
use Rattle.std.specs.Option.{option_map}
use Rattle.std.proofs.lemmas.List.{drop-map}
use Rattle.std.proofs.lemmas.Option.{none-some, same_Some, slice_get_within, slice_get-map}
use Rattle.list_lemmas.proofs.Alls.{all-weaker}
use Rattle.number_runs.specs.Parted.{IsParted}
use Rattle.list_lemmas.proofs.Places.{slice_get-left}
use Rattle.rule_match.specs.declared.rule.Rule.{Rule}
use Rattle.rule_index.specs.declared.spot.Sorting.{Sorting}
use Rattle.rule_index.specs.declared.spot.Sorting.TheVariants.{ByArrival, ByKey}
use Rattle.rule_index.specs.declared.spot.Spot.{Spot}
use Rattle.rule_index.specs.Spots.{below, rule_with, standing_by, spot_by, or_own}
use Rattle.rule_index.specs.Sorted.{Rises, place_of, put, cut, spots_by}
use Rattle.rule_index.specs.Index.{IsIndexed, Stands}
use Rattle.rule_index.proofs.Orders.{below-trans}
use Rattle.rule_index.proofs.Places.{put-insert, cut-remove}
use Rattle.rule_index.proofs.Puts.{all-flat, StandsFlat}

module _ (f : ℕ → Spot) (t : Spot) where
  pub place_of-map : (ns : List ℕ) → place_of t (map f ns) ≡ prefix_len (λ n. below (f n) t) ns
  place_of-map [] = refl
  place_of-map (n ∷ ns) = ap (λ k. cond (below (f n) t) (1 + k) 0) (place_of-map ns)

module _ {X Y : Type 0} (f : X → Y) where
  pub map-insert : (xs : List X) (i : ℕ) (x : X) → map f (insert xs i x) ≡ insert (map f xs) i (f x)
  map-insert xs zero x = refl
  map-insert [] (suc i) x = refl
  map-insert (y ∷ ys) (suc i) x = ap (λ l. f y ∷ l) (map-insert ys i x)

  pub map-remove : (xs : List X) (i : ℕ) → map f (remove xs i) ≡ remove (map f xs) i
  map-remove [] zero = refl
  map-remove [] (suc i) = refl
  map-remove (y ∷ ys) zero = refl
  map-remove (y ∷ ys) (suc i) = ap (λ l. f y ∷ l) (map-remove ys i)

  pub find-map : (p : Y → Bool) (xs : List X) → option_map f (find (λ x. p (f x)) xs) ≡ find p (map f xs)
  find-map p [] = refl
  find-map p (x ∷ xs) = step (p (f x)) (find-map p xs)
    where
      step : (b : Bool) → option_map f (find (λ y. p (f y)) xs) ≡ find p (map f xs) → option_map f (cond b (Some x) (find (λ y. p (f y)) xs)) ≡ cond b (Some (f x)) (find p (map f xs))
      step true rest = refl
      step false rest = rest

  -- the element at a place of the mapped list
  pub there-map : (xs : List X) (i : ℕ) (x : X) → slice_get xs i ≡ Some x → slice_get (map f xs) i ≡ Some (f x)
  there-map xs i x at = slice_get-map f xs i ∙ ap (option_map f) at

  pub past-map : (xs : List X) (i : ℕ) → slice_get xs i ≡ None → slice_get (map f xs) i ≡ None
  past-map xs i at = slice_get-map f xs i ∙ ap (option_map f) at

pub all-unmapped : {X Y : Type 0} (P : Y → Type 0) (f : X → Y) (xs : List X) → AllByRecursion P (map f xs) → AllByRecursion (λ x. P (f x)) xs
all-unmapped P f [] h = tt
all-unmapped P f (x ∷ xs) h = (h.0, all-unmapped P f xs h.1)

-- where rules arrive the numbers before them stand for the same spots
module _ (rules more : List Rule) where
  Arrived : ℕ → Type 0
  Arrived n = (r : Rule) × (slice_get rules n ≡ Some r)

  rule_with-longer : (n : ℕ) → Arrived n → rule_with (rules ++ more) n ≡ rule_with rules n
  unfolding Arrived
  rule_with-longer n h = ap or_own (slice_get-left rules more n (slice_get_within rules n h.0 h.1))

  spots-longer : (sorting : Sorting) (ns : List ℕ) → AllByRecursion Arrived ns → spots_by sorting (rules ++ more) ns ≡ spots_by sorting rules ns
  spots-longer sorting [] h = refl
  spots-longer sorting (n ∷ ns) h = λ i. standing_by sorting (rule_with-longer n h.0 i) n ∷ spots-longer sorting ns h.1 i

  arrived_by_key : (ns : List ℕ) → AllByRecursion (Stands rules) (spots_by ByKey rules ns) → AllByRecursion Arrived ns
  unfolding Arrived
  arrived_by_key [] h = tt
  arrived_by_key (n ∷ ns) h = ((h.0.0, h.0.1), arrived_by_key ns h.1)

  arrived : (ns : List ℕ) → AllByRecursion (StandsFlat rules) (spots_by ByArrival rules ns) → AllByRecursion Arrived ns
  unfolding Arrived
  arrived [] h = tt
  arrived (n ∷ ns) h = ((h.0.1.0, ap (λ (s : Spot). slice_get rules s.number) h.0.2 ∙ h.0.1.1), arrived ns h.1)

  module _ (order keyed : List ℕ) (ix : IsIndexed rules order keyed) where
    pub order-longer : spots_by ByArrival (rules ++ more) order ≡ spots_by ByArrival rules order
    order-longer = spots-longer ByArrival order (arrived order (all-flat rules (spots_by ByArrival rules order) (spots_by ByKey rules keyed) ix))

    pub keyed-longer : spots_by ByKey (rules ++ more) keyed ≡ spots_by ByKey rules keyed
    keyed-longer = spots-longer ByKey keyed (arrived_by_key keyed ix.stand)

-- those of sorted numbers that stand below a spot come first
pub parted-rises : (f : ℕ → Spot) (t : Spot) (ns : List ℕ) → Rises (map f ns) → IsParted (λ n. below (f n) t) ns
parted-rises f t [] h = tt
parted-rises f t (n ∷ ns) h = (
  all-weaker (λ m. below (f n) (f m) ≡ true) (λ m. below (f m) t ≡ true → below (f n) t ≡ true) (λ m e k. below-trans (f n) (f m) t e k) ns
      (all-unmapped (λ s. below (f n) s ≡ true) f ns h.0),
  parted-rises f t ns h.1,
)

module _ (f : ℕ → Spot) (ns new : List ℕ) where
  pub rest-numbers : (t : Spot) → new ≡ drop (prefix_len (λ n. below (f n) t) ns) ns → map f new ≡ drop (place_of t (map f ns)) (map f ns)
  rest-numbers t is =
      ap (map f) is
      ∙ sym (drop-map f (prefix_len (λ n. below (f n) t) ns) ns)
      ∙ ap (λ n. drop n (map f ns)) (sym (place_of-map f t ns))

  module _ (n : ℕ) (t : Spot) (at : t ≡ f n) where
    its_place : prefix_len (λ m. below (f m) t) ns ≡ place_of (f n) (map f ns)
    its_place = sym (place_of-map f t ns) ∙ ap (λ (s : Spot). place_of s (map f ns)) at

    pub put-numbers : new ≡ insert ns (prefix_len (λ m. below (f m) t) ns) n → map f new ≡ put (f n) (map f ns)
    put-numbers is =
        ap (map f) is
        ∙ map-insert f ns (prefix_len (λ m. below (f m) t) ns) n
        ∙ ap (λ m. insert (map f ns) m (f n)) its_place
        ∙ sym (put-insert (f n) (map f ns))

    pub cut-numbers : new ≡ remove ns (prefix_len (λ m. below (f m) t) ns) → map f new ≡ cut (f n) (map f ns)
    cut-numbers is =
        ap (map f) is
        ∙ map-remove f ns (prefix_len (λ m. below (f m) t) ns)
        ∙ ap (λ m. remove (map f ns) m) its_place
        ∙ sym (cut-remove (f n) (map f ns))

-- the first number, and those after it
pub first-is : {X : Type 0} (xs rest : List X) (x : X) → slice_get xs 0 ≡ Some x → rest ≡ drop 1 xs → xs ≡ x ∷ rest
first-is [] rest x at is = absurd (none-some x at)
first-is (y ∷ ys) rest x at is = λ i. same_Some y x at i ∷ sym is i

pub none-first : {X : Type 0} (xs : List X) → slice_get xs 0 ≡ None → xs ≡ []
none-first [] at = refl
none-first (x ∷ xs) at = absurd (none-some x (sym at))

-- the next of the spots, and those after it
pub next-spots : (rules : List Rule) (rest new : List ℕ) (n : ℕ) (s : Spot) → slice_get rest 0 ≡ Some n → new ≡ drop 1 rest → s ≡ spot_by ByKey rules n
    → spots_by ByKey rules rest ≡ s ∷ spots_by ByKey rules new
next-spots rules rest new n s at is same = ap (spots_by ByKey rules) (first-is rest new n at is) ∙ ap (λ (x : Spot). x ∷ spots_by ByKey rules new) (sym same)
