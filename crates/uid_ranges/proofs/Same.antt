-- UIDs are equal exactly where their numbers are, and ranges exactly where the numbers of their ends are.
use Rattle.std.proofs.Common.{◌≡◌, ◌<◌, ◌≤◌, ℕ, List, Contains, true, ap, subst, arith}
use Rattle.std.proofs.Math.Bridge.{le_prop}
use Rattle.std.proofs.lemmas.Bool.Decides.{nat_tests}
use Rattle.std.proofs.lemmas.List.Folds.{list_any_at}
use Rattle.std.proofs.lemmas.Map.Views.{Contains-from_any}
use Rattle.uid_ranges.specs.declared.range.Uid.{Uid}
use Rattle.uid_ranges.specs.declared.range.UidRange.{UidRange}
use Rattle.uid_ranges.specs.Range.{same_range}
use Rattle.uid_ranges.specs.Ranges.{has}

pub same_uid : (one other : Uid) → one.number ≡ other.number → one ≡ other
same_uid one other h =
    let P : ℕ → Type 0 = λ n. (q : n < 4294967295) → ◌≡◌ {A = Uid} one (record { number = n; in_range = q }) in
    subst P h (λ q. ap (λ p. let uid : Uid = record { number = one.number; in_range = p } in uid) (le_prop one.in_range q)) other.in_range

pub same_ends : (one other : UidRange) → one.first ≡ other.first → one.last ≡ other.last → one ≡ other
same_ends one other f l =
    let Q : Uid → Type 0 = λ last. (q : other.first.number ≤ last.number) → ◌≡◌ {A = UidRange} one (record { first = other.first; last = last; ordered = q }) in
    let P : Uid → Type 0 = λ first. (q : first.number ≤ one.last.number) → ◌≡◌ {A = UidRange} one (record { first = first; last = one.last; ordered = q }) in
    subst Q l (subst P f (λ q. ap (λ p. let range : UidRange = record { first = one.first; last = one.last; ordered = p } in range) (le_prop one.ordered q))) other.ordered

pub same_range-true : (one other : UidRange) → same_range one other ≡ true → one ≡ other
same_range-true one other h =
    let first : one.first.number ≡ other.first.number = grind (arith, nat_tests) in
    let last : one.last.number ≡ other.last.number = grind (arith, nat_tests) in
    same_ends one other (same_uid one.first other.first first) (same_uid one.last other.last last)

pub same_range-self : (range : UidRange) → same_range range range ≡ true
same_range-self range = grind (arith, nat_tests)

-- `has` is true exactly where the range stands in the list
pub Contains-from_has : (ranges : List UidRange) (range : UidRange) → has ranges range ≡ true → Contains ranges range
Contains-from_has ranges range h = Contains-from_any {eq = same_range} same_range-true range ranges h

pub has-from_Contains : (ranges : List UidRange) (range : UidRange) → Contains ranges range → has ranges range ≡ true
has-from_Contains ranges range there =
    list_any_at (same_range range) ranges there.0 range there.1 (rw there.2 (same_range-self range))
