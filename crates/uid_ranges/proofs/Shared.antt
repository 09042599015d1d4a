-- Ranges and lists of ranges meet exactly where they share a UID.
use Rattle.std.proofs.Common.{◌≡◌, ◌&&◌, ◌<◌, ◌≤◌, ℕ, zero, suc, true, cond, List, [], ◌∷◌, Some, refl, sym, inl, inr, arith, length, nat_le, slice_get, IsSomeAnd}
use Rattle.std.proofs.lemmas.Bool.{or_cases, or_right}
use Rattle.std.proofs.lemmas.Bool.Decides.{nat_tests}
use Rattle.std.proofs.lemmas.List.Folds.{Any-from_list_any, list_any-from_Any}
use Rattle.std.proofs.lemmas.Option.{slice_get_read}
use Rattle.uid_ranges.specs.declared.range.UidRange.{UidRange}
use Rattle.uid_ranges.specs.Range.{holds, meets}
use Rattle.uid_ranges.specs.Ranges.{meets_any, lists_meet, self_meets, ListsShareUid, TwoShareUid}

-- the later of the two first UIDs is in both
pub shared_of-meets : (one other : UidRange) → meets one other ≡ true → (uid : ℕ) × (holds one uid ≡ true) × (holds other uid ≡ true)
shared_of-meets one other h =
    later_first one.first.number one.last.number other.first.number other.last.number one.ordered other.ordered h
  where
    later_first : (a b c d : ℕ) → a ≤ b → c ≤ d → (nat_le a d && nat_le c b) ≡ true
        → (uid : ℕ) × ((nat_le a uid && nat_le uid b) ≡ true) × ((nat_le c uid && nat_le uid d) ≡ true)
    later_first a b c d ab cd h = (cond (nat_le a c) c a, grind (arith, nat_tests), grind (arith, nat_tests))

pub meets_from_shared : (one other : UidRange) (uid : ℕ) → holds one uid ≡ true → holds other uid ≡ true → meets one other ≡ true
meets_from_shared one other uid h k = grind (arith, nat_tests)

pub shared_of-self_meets : (xs : List UidRange) → self_meets xs ≡ true → TwoShareUid xs
shared_of-self_meets [] h = cc
shared_of-self_meets (x ∷ xs) h = elim (or_cases (meets_any x xs) (self_meets xs) h) [
  | inl here ↦
      let it = Any-from_list_any (meets x) xs here in
      let at : slice_get xs it.0 ≡ Some it.1 = slice_get_read xs (length xs) it.0 it.1 refl it.2 (sym it.3) in
      let both = shared_of-meets x it.1 it.4 in
      record {
        earlier = 0;
        later = suc it.0;
        uid = both.0;
        in_order = omega arith;
        holds_earlier = both.1;
        holds_later = rw at both.2;
      }
  | inr there ↦
      let rest = shared_of-self_meets xs there in
      let below = rest.in_order in
      record {
        earlier = suc rest.earlier;
        later = suc rest.later;
        uid = rest.uid;
        in_order = omega arith;
        holds_earlier = rest.holds_earlier;
        holds_later = rest.holds_later;
      }
]

-- a range meets a list that holds one of its UIDs
meets_any_at : (x : UidRange) (xs : List UidRange) (k uid : ℕ) → holds x uid ≡ true → IsSomeAnd (slice_get xs k) (λ y. holds y uid ≡ true) → meets_any x xs ≡ true
meets_any_at x [] k uid h there = elim there [ ]
meets_any_at x (y ∷ ys) zero uid h there = rw (meets_from_shared x y uid h there) refl
meets_any_at x (y ∷ ys) (suc k) uid h there = rw (meets_any_at x ys k uid h there) (or_right (meets x y) true refl)

pub self_meets_at : (xs : List UidRange) (i j uid : ℕ) → i < j → IsSomeAnd (slice_get xs i) (λ y. holds y uid ≡ true) → IsSomeAnd (slice_get xs j) (λ y. holds y uid ≡ true) → self_meets xs ≡ true
self_meets_at [] i j uid h here there = elim here [ ]
self_meets_at (x ∷ xs) i zero uid h here there = absurd (omega arith)
self_meets_at (x ∷ xs) zero (suc j) uid h here there = rw (meets_any_at x xs j uid here there) refl
self_meets_at (x ∷ xs) (suc i) (suc j) uid h here there =
    let below : i < j = omega arith in
    rw (self_meets_at xs i j uid below here there) (or_right (meets_any x xs) true refl)

pub shared_of-lists_meet : (xs ys : List UidRange) → lists_meet xs ys ≡ true → ListsShareUid xs ys
shared_of-lists_meet xs ys h =
    let one = Any-from_list_any (λ x. meets_any x ys) xs h in
    let other = Any-from_list_any (meets one.1) ys one.4 in
    let both = shared_of-meets one.1 other.1 other.4 in
    record {
      uid = both.0;
      holds_one = list_any-from_Any (λ x. holds x both.0) xs (one.0, one.1, one.2, one.3, both.1);
      holds_other = list_any-from_Any (λ x. holds x both.0) ys (other.0, other.1, other.2, other.3, both.2);
    }

pub lists_meet_from_shared : (xs ys : List UidRange) → ListsShareUid xs ys → lists_meet xs ys ≡ true
lists_meet_from_shared xs ys h =
    let one = Any-from_list_any (λ x. holds x h.uid) xs h.holds_one in
    let other = Any-from_list_any (λ x. holds x h.uid) ys h.holds_other in
    let meet = meets_from_shared one.1 other.1 h.uid one.4 other.4 in
    let meet_any = list_any-from_Any (meets one.1) ys (other.0, other.1, other.2, other.3, meet) in
    list_any-from_Any (λ x. meets_any x ys) xs (one.0, one.1, one.2, one.3, meet_any)
