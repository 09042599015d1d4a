-- Ranges in rising order: the place of a UID, and the list with one range more and one fewer.
use Rattle.std.proofs.Common.{◌≡◌, ℕ, zero, suc, ◌+◌, ◌<◌, ◌≤◌, Bool, true, false, cond, not, List, [], ◌∷◌, length, get_or, filter, find, slice_get, Option, Some, None, nat_lt, nat_le, if◌then◌else◌, refl, sym, ap, ◌∙◌, arith, inl, inr}
use Rattle.std.specs.List.{list_any, list_all, prefix_len, insert, remove}
use Rattle.std.specs.List.Sorted.{IsPartitionedBy}
use Rattle.std.proofs.lemmas.Bool.{cases_Bool, and_parts, and_from, or_parts, both_ways, ltb-true, ltb-false}
use Rattle.std.proofs.lemmas.Bool.Decides.{nat_tests}
use Rattle.list_lemmas.proofs.Anys.{filter-others}
use Rattle.list_lemmas.proofs.Found.{find-none-any}
use Rattle.uid_ranges.specs.declared.ranked.Ranked.{Ranked}
use Rattle.network_store.specs.RankIndex.{ends_before, holds_at, same_ranked, clash, comes_before, rise, are_low, put, stands}
use Rattle.network_store.specs.declared.rank_index.OwnedRange.{OwnedRange}

-- facts of single ranges, by numbers

-- what comes before one that ends before a UID ends before it, too
ends-chain : (a b : Ranked) (rank uid : ℕ) → ends_before b.rank b.users.first.number a ≡ true → ends_before rank uid b ≡ true → ends_before rank uid a ≡ true
ends-chain a b rank uid h k = let o = b.users.ordered in grind (arith, nat_tests)

-- what ends before a UID doesn't hold it
ended-holds : (a : Ranked) (rank uid : ℕ) → ends_before rank uid a ≡ true → holds_at rank uid a ≡ false
ended-holds a rank uid h = grind (arith, nat_tests)

-- nor does what comes after one that hasn't ended and doesn't hold it
later-holds : (a b : Ranked) (rank uid : ℕ) → ends_before rank uid a ≡ false → holds_at rank uid a ≡ false → ends_before b.rank b.users.first.number a ≡ true → holds_at rank uid b ≡ false
later-holds a b rank uid h k l = let o = a.users.ordered in grind (arith, nat_tests)

-- a range after one that is not before it comes after the other
clash-after : (a b : Ranked) → ends_before b.rank b.users.first.number a ≡ false → clash a b ≡ false → ends_before a.rank a.users.first.number b ≡ true
clash-after a b h k = let o = a.users.ordered in let p = b.users.ordered in grind (arith, nat_tests)

before-chain : (a b c : Ranked) → ends_before b.rank b.users.first.number a ≡ true → ends_before c.rank c.users.first.number b ≡ true → ends_before c.rank c.users.first.number a ≡ true
before-chain a b c h k = ends-chain a b c.rank c.users.first.number h k

same-ends : (a b : Ranked) → same_ranked a b ≡ true → ends_before b.rank b.users.first.number a ≡ false
same-ends a b h = let o = a.users.ordered in grind (arith, nat_tests)

same-begins : (a b c : Ranked) → same_ranked a b ≡ true → ends_before a.rank a.users.first.number c ≡ ends_before b.rank b.users.first.number c
same-begins a b c h = grind (arith, nat_tests)

same-self : (a : Ranked) → same_ranked a a ≡ true
same-self a = grind (arith, nat_tests)

-- the place at which a UID stands

get-rises : (xs : List OwnedRange) (i j : ℕ) (d : OwnedRange) → rise xs ≡ true → i < j → j < length xs → comes_before (get_or xs i d) (get_or xs j d) ≡ true
get-rises [] i j d rises h k = absurd (omega arith)
get-rises (x ∷ xs) i zero d rises h k = absurd (omega arith)
get-rises (x ∷ xs) zero (suc j) d rises h k = all-at xs j (and_parts (list_all (comes_before x) xs) (rise xs) rises).0 (omega arith)
  where
    all-at : (ys : List OwnedRange) (m : ℕ) → list_all (comes_before x) ys ≡ true → m < length ys → comes_before x (get_or ys m d) ≡ true
    all-at [] m all l = absurd (omega arith)
    all-at (y ∷ ys) zero all l = (and_parts (comes_before x y) (list_all (comes_before x) ys) all).0
    all-at (y ∷ ys) (suc m) all l = all-at ys m (and_parts (comes_before x y) (list_all (comes_before x) ys) all).1 (omega arith)
get-rises (x ∷ xs) (suc i) (suc j) d rises h k = get-rises xs i j d (and_parts (list_all (comes_before x) xs) (rise xs) rises).1 (omega arith) (omega arith)

same-or-less : (i j : ℕ) → i ≤ j → nat_lt i j ≡ false → i ≡ j
same-or-less i j h k = let l = ltb-false i j k in omega (arith, l)

pub parted : (rank uid : ℕ) (xs : List OwnedRange) → rise xs ≡ true → IsPartitionedBy (λ e. ends_before rank uid e.range) xs
parted rank uid xs rises i j d le lt h = elim (cases_Bool (nat_lt i j)) as (λ _. ends_before rank uid (get_or xs i d).range ≡ true) [
  | inl less ↦ ends-chain (get_or xs i d).range (get_or xs j d).range rank uid (get-rises xs i j d rises (ltb-true i j less) lt) h
  | inr not_less ↦ rw (same-or-less i j le not_less) h
]

none-later : (rank uid : ℕ) (x : OwnedRange) (xs : List OwnedRange) → ends_before rank uid x.range ≡ false → holds_at rank uid x.range ≡ false → list_all (comes_before x) xs ≡ true → list_any (λ e. holds_at rank uid e.range) xs ≡ false
none-later rank uid x [] h k all = refl
none-later rank uid x (y ∷ ys) h k all =
    let parts = and_parts (comes_before x y) (list_all (comes_before x) ys) all in
    rw (later-holds x.range y.range rank uid h k parts.0) (none-later rank uid x ys h k parts.1)

abbrev pub held : ℕ → ℕ → Option OwnedRange → Option OwnedRange
held rank uid None = None
held rank uid (Some e) = if holds_at rank uid e.range then Some e else None

-- the range that holds the UID stands at that place, or nowhere
pub find-held : (rank uid : ℕ) (xs : List OwnedRange) → rise xs ≡ true → find (λ e. holds_at rank uid e.range) xs ≡ held rank uid (slice_get xs (prefix_len (λ e. ends_before rank uid e.range) xs))
find-held rank uid [] rises = refl
find-held rank uid (x ∷ xs) rises =
    let parts = and_parts (list_all (comes_before x) xs) (rise xs) rises in
    let Goal : Type 0 = find (λ e. holds_at rank uid e.range) (x ∷ xs) ≡ held rank uid (slice_get (x ∷ xs) (prefix_len (λ e. ends_before rank uid e.range) (x ∷ xs))) in
    elim (cases_Bool (ends_before rank uid x.range)) as (λ _. Goal) [
      | inl e ↦ rw (ended-holds x.range rank uid e, e) (find-held rank uid xs parts.1 ∙ ap (λ n. held rank uid (slice_get (x ∷ xs) n)) (one-more (prefix_len (λ e. ends_before rank uid e.range) xs)))
      | inr e ↦ elim (cases_Bool (holds_at rank uid x.range)) as (λ _. Goal) [
        | inl h ↦ rw (h, e) (rw h refl)
        | inr h ↦ rw (h, e) (rw h (find-none-any (λ e. holds_at rank uid e.range) xs (none-later rank uid x xs e h parts.0)))
      ]
    ]
  where
    one-more : (n : ℕ) → suc n ≡ 1 + n
    one-more n = omega arith

-- one range more

pub put-insert : (one : OwnedRange) (xs : List OwnedRange) → put one xs ≡ insert xs (prefix_len (λ e. ends_before one.range.rank one.range.users.first.number e.range) xs) one
put-insert one [] = refl
put-insert one (x ∷ xs) = step (comes_before x one) (prefix_len (λ e. ends_before one.range.rank one.range.users.first.number e.range) xs) (put-insert one xs)
  where
    one-add : (n : ℕ) → suc n ≡ 1 + n
    one-add n = omega arith

    step : (b : Bool) (n : ℕ) → put one xs ≡ insert xs n one → cond b (x ∷ put one xs) (one ∷ x ∷ xs) ≡ insert (x ∷ xs) (cond b (1 + n) 0) one
    step true n e = rw (← one-add n) (ap (λ l. x ∷ l) e)
    step false n e = refl

all-put : (p : OwnedRange → Bool) (one : OwnedRange) (xs : List OwnedRange) → p one ≡ true → list_all p xs ≡ true → list_all p (put one xs) ≡ true
all-put p one [] here all = rw here refl
all-put p one (x ∷ xs) here all =
    let parts = and_parts (p x) (list_all p xs) all in
    elim (cases_Bool (comes_before x one)) as (λ _. list_all p (put one (x ∷ xs)) ≡ true) [
      | inl e ↦ rw (e, parts.0) (all-put p one xs here parts.1)
      | inr e ↦ rw (e, here, parts.0) parts.1
    ]

all-later : (a b : OwnedRange) (xs : List OwnedRange) → comes_before a b ≡ true → list_all (comes_before b) xs ≡ true → list_all (comes_before a) xs ≡ true
all-later a b [] first all = refl
all-later a b (x ∷ xs) first all =
    let parts = and_parts (comes_before b x) (list_all (comes_before b) xs) all in
    rw (before-chain a.range b.range x.range first parts.0) (all-later a b xs first parts.1)

pub rise-put : (one : OwnedRange) (xs : List OwnedRange) → rise xs ≡ true → list_any (λ e. clash e.range one.range) xs ≡ false → rise (put one xs) ≡ true
rise-put one [] rises apart = refl
rise-put one (x ∷ xs) rises apart =
    let parts = and_parts (list_all (comes_before x) xs) (rise xs) rises in
    let none = or_parts (clash x.range one.range) (list_any (λ e. clash e.range one.range) xs) apart in
    elim (cases_Bool (comes_before x one)) as (λ _. rise (put one (x ∷ xs)) ≡ true) [
      | inl e ↦ rw e (and_from (list_all (comes_before x) (put one xs)) (rise (put one xs)) (all-put (comes_before x) one xs e parts.0) (rise-put one xs parts.1 none.1))
      | inr e ↦
          let next : comes_before one x ≡ true = clash-after x.range one.range e none.0 in
          rw e (and_from (list_all (comes_before one) (x ∷ xs)) (rise (x ∷ xs)) (and_from (comes_before one x) (list_all (comes_before one) xs) next (all-later one x xs next parts.0)) rises)
    ]

pub low-put : (one : OwnedRange) (xs : List OwnedRange) → nat_le one.range.rank 99 ≡ true → are_low xs ≡ true → are_low (put one xs) ≡ true
low-put one xs low all = all-put (λ e. nat_le e.range.rank 99) one xs low all

-- one range fewer

none-same : (r : Ranked) (x : OwnedRange) (xs : List OwnedRange) → ends_before r.rank r.users.first.number x.range ≡ false → list_all (comes_before x) xs ≡ true → list_any (λ e. same_ranked e.range r) xs ≡ false
none-same r x [] h all = refl
none-same r x (y ∷ ys) h all =
    let parts = and_parts (comes_before x y) (list_all (comes_before x) ys) all in
    elim (cases_Bool (same_ranked y.range r)) as (λ _. list_any (λ e. same_ranked e.range r) (y ∷ ys) ≡ false) [
      | inl s ↦ absurd (both_ways (ends_before r.rank r.users.first.number x.range) h (sym (same-begins y.range r x.range s) ∙ parts.0))
      | inr s ↦ rw s (none-same r x ys h parts.1)
    ]

abbrev pub cut : Ranked → List OwnedRange → ℕ → List OwnedRange
cut r xs place = if stands r (slice_get xs place) then remove xs place else xs

pub filter-cut : (r : Ranked) (xs : List OwnedRange) → rise xs ≡ true → filter (λ e. not (same_ranked e.range r)) xs ≡ cut r xs (prefix_len (λ e. ends_before r.rank r.users.first.number e.range) xs)
filter-cut r [] rises = refl
filter-cut r (x ∷ xs) rises =
    let parts = and_parts (list_all (comes_before x) xs) (rise xs) rises in
    let Goal : Type 0 = filter (λ e. not (same_ranked e.range r)) (x ∷ xs) ≡ cut r (x ∷ xs) (prefix_len (λ e. ends_before r.rank r.users.first.number e.range) (x ∷ xs)) in
    elim (cases_Bool (ends_before r.rank r.users.first.number x.range)) as (λ _. Goal) [
      | inl e ↦
          let other : same_ranked x.range r ≡ false = unlike x.range e in
          rw (other, e) (ap (λ l. x ∷ l) (filter-cut r xs parts.1) ∙ step (prefix_len (λ e. ends_before r.rank r.users.first.number e.range) xs))
      | inr e ↦ elim (cases_Bool (same_ranked x.range r)) as (λ _. Goal) [
        | inl s ↦ rw (s, e) (rw s (filter-others (λ e. same_ranked e.range r) xs (none-same r x xs e parts.0)))
        | inr s ↦ rw (s, e) (rw s (ap (λ l. x ∷ l) (filter-others (λ e. same_ranked e.range r) xs (none-same r x xs e parts.0))))
      ]
    ]
  where
    unlike : (a : Ranked) → ends_before r.rank r.users.first.number a ≡ true → same_ranked a r ≡ false
    unlike a h = elim (cases_Bool (same_ranked a r)) as (λ _. same_ranked a r ≡ false) [
      | inl s ↦ absurd (both_ways (ends_before r.rank r.users.first.number a) (same-ends a r s) h)
      | inr s ↦ s
    ]

    one-more : (n : ℕ) → suc n ≡ 1 + n
    one-more n = omega arith

    by : (n : ℕ) (there : Bool) → x ∷ (if there then remove xs n else xs) ≡ (if there then remove (x ∷ xs) (suc n) else (x ∷ xs))
    by n true = refl
    by n false = refl

    step : (n : ℕ) → x ∷ cut r xs n ≡ cut r (x ∷ xs) (1 + n)
    step n = by n (stands r (slice_get xs n)) ∙ ap (cut r (x ∷ xs)) (one-more n)

-- as the calls say it, over slices of the list
pub held-at : (rank uid : ℕ) (xs ys zs : List OwnedRange) (place : ℕ) (o : Option OwnedRange) → rise xs ≡ true → ys ≡ xs → zs ≡ xs → place ≡ prefix_len (λ e. ends_before rank uid e.range) ys → o ≡ slice_get zs place
    → find (λ e. holds_at rank uid e.range) xs ≡ held rank uid o
held-at rank uid xs ys zs place o rises first second is at =
    find-held rank uid xs rises
    ∙ ap (held rank uid) (ap (λ l. slice_get xs (prefix_len (λ e. ends_before rank uid e.range) l)) (sym first) ∙ ap (slice_get xs) (sym is) ∙ ap (λ l. slice_get l place) (sym second) ∙ sym at)

pub cut-at : (r : Ranked) (xs ys zs : List OwnedRange) (first place : ℕ) (there : Bool) → rise xs ≡ true → ys ≡ xs → zs ≡ xs → first ≡ r.users.first.number → place ≡ prefix_len (λ e. ends_before r.rank first e.range) ys → there ≡ stands r (slice_get zs place)
    → (if there then remove xs place else xs) ≡ filter (λ e. not (same_ranked e.range r)) xs
cut-at r xs ys zs first place there rises one two begins is at =
    ap (λ b. if b then remove xs place else xs) (at ∙ ap (λ l. stands r (slice_get l place)) two)
    ∙ ap (cut r xs) (is ∙ ap (λ n. prefix_len (λ e. ends_before r.rank n e.range) ys) begins ∙ ap (prefix_len (λ e. ends_before r.rank r.users.first.number e.range)) one)
    ∙ sym (filter-cut r xs rises)

-- whether a range meets one of the list

-- what ends before a range doesn't meet it
ended-clash : (a b : Ranked) → ends_before b.rank b.users.first.number a ≡ true → clash a b ≡ false
ended-clash a b h = grind (arith, nat_tests)

-- nor does what comes after one that hasn't ended and doesn't meet it
later-clash : (a b c : Ranked) → ends_before b.rank b.users.first.number a ≡ false → clash a b ≡ false → ends_before c.rank c.users.first.number a ≡ true → clash c b ≡ false
later-clash a b c h k l = let o = a.users.ordered in let p = b.users.ordered in grind (arith, nat_tests)

none-met : (r : Ranked) (x : OwnedRange) (xs : List OwnedRange) → ends_before r.rank r.users.first.number x.range ≡ false → clash x.range r ≡ false → list_all (comes_before x) xs ≡ true → list_any (λ e. clash e.range r) xs ≡ false
none-met r x [] h k all = refl
none-met r x (y ∷ ys) h k all =
    let parts = and_parts (comes_before x y) (list_all (comes_before x) ys) all in
    rw (later-clash x.range r y.range h k parts.0) (none-met r x ys h k parts.1)

abbrev pub met : Ranked → Option OwnedRange → Bool
met r None = false
met r (Some e) = clash e.range r

-- only the range at that place can meet it
pub any-met : (r : Ranked) (xs : List OwnedRange) → rise xs ≡ true → list_any (λ e. clash e.range r) xs ≡ met r (slice_get xs (prefix_len (λ e. ends_before r.rank r.users.first.number e.range) xs))
any-met r [] rises = refl
any-met r (x ∷ xs) rises =
    let parts = and_parts (list_all (comes_before x) xs) (rise xs) rises in
    let Goal : Type 0 = list_any (λ e. clash e.range r) (x ∷ xs) ≡ met r (slice_get (x ∷ xs) (prefix_len (λ e. ends_before r.rank r.users.first.number e.range) (x ∷ xs))) in
    elim (cases_Bool (ends_before r.rank r.users.first.number x.range)) as (λ _. Goal) [
      | inl e ↦ rw (ended-clash x.range r e, e) (any-met r xs parts.1 ∙ ap (λ n. met r (slice_get (x ∷ xs) n)) (one-more (prefix_len (λ e. ends_before r.rank r.users.first.number e.range) xs)))
      | inr e ↦ elim (cases_Bool (clash x.range r)) as (λ _. Goal) [
        | inl h ↦ rw e (rw h refl)
        | inr h ↦ rw e (rw h (none-met r x xs e h parts.0))
      ]
    ]
  where
    one-more : (n : ℕ) → suc n ≡ 1 + n
    one-more n = omega arith

pub met-at : (r : Ranked) (xs : List OwnedRange) (place uid : ℕ) (o : Option OwnedRange) → rise xs ≡ true → uid ≡ r.users.first.number → place ≡ prefix_len (λ e. ends_before r.rank uid e.range) xs → o ≡ slice_get xs place
    → met r o ≡ list_any (λ e. clash e.range r) xs
met-at r xs place uid o rises first is at =
    ap (met r) (at ∙ ap (slice_get xs) (is ∙ ap (λ u. prefix_len (λ e. ends_before r.rank u e.range) xs) first)) ∙ sym (any-met r xs rises)
