-- Lists of disjoint ranges, joined and filtered.
use Rattle.std.proofs.Common.{◌≡◌, ◌++◌, Bool, true, false, cond, List, [], ◌∷◌, filter, refl}
use Rattle.std.specs.List.{list_any}
use Rattle.std.proofs.lemmas.Bool.{or_parts}
use Rattle.std.proofs.lemmas.List.Folds.{list_any-append}
use Rattle.list_lemmas.proofs.Anys.{none-filter}
use Rattle.uid_ranges.specs.declared.range.UidRange.{UidRange}
use Rattle.uid_ranges.specs.Range.{meets}
use Rattle.uid_ranges.specs.Ranges.{meets_any, self_meets, lists_meet, AreDisjoint}

-- two disjoint lists that don't meet are disjoint when joined
pub AreDisjoint-append : (xs ys : List UidRange) → AreDisjoint xs → AreDisjoint ys → lists_meet xs ys ≡ false → AreDisjoint (xs ++ ys)
AreDisjoint-append [] ys hx hy apart = hy
AreDisjoint-append (x ∷ xs) ys hx hy apart =
    let self = or_parts (meets_any x xs) (self_meets xs) hx in
    let other = or_parts (meets_any x ys) (lists_meet xs ys) apart in
    let joined : list_any (meets x) (xs ++ ys) ≡ false = rw (list_any-append (meets x) xs ys, self.0) other.0 in
    rw joined (AreDisjoint-append xs ys self.1 hy other.1)

-- what is left of a disjoint list is disjoint
pub AreDisjoint-filter : (q : UidRange → Bool) (xs : List UidRange) → AreDisjoint xs → AreDisjoint (filter q xs)
AreDisjoint-filter q [] h = refl
AreDisjoint-filter q (x ∷ xs) h =
    let two = or_parts (meets_any x xs) (self_meets xs) h in
    by (q x) (AreDisjoint-filter q xs two.1) (none-filter (meets x) q xs two.0)
  where
    by : (b : Bool) → self_meets (filter q xs) ≡ false → meets_any x (filter q xs) ≡ false → self_meets (cond b (x ∷ filter q xs) (filter q xs)) ≡ false
    by true ih none = rw none ih
    by false ih none = ih
