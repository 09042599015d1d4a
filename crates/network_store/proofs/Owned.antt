-- To which network each range belongs, with one range more and one fewer.
use Rattle.std.proofs.Common.{◌≡◌, ℕ, zero, suc, ◌+◌, ◌==◌, ◌&&◌, ◌||◌, Bool, true, false, cond, not, List, [], ◌∷◌, ◌++◌, take, slice_get, filter, Option, Some, None, refl, sym, ap, ◌∙◌, arith, inl, inr}
use Rattle.std.specs.Bool.{Decides}
use Rattle.std.specs.List.{list_any}
use Rattle.std.proofs.lemmas.Bool.{cases_Bool, and_parts, and_from, or_parts, or_from, both_ways, false_from_ne_true, eqb-true, false≢true}
use Rattle.std.proofs.lemmas.Bool.Decides.{nat_tests}
use Rattle.std.proofs.lemmas.List.Folds.{list_any-append}
use Rattle.std.proofs.lemmas.Option.{none-some, same_Some}
use Rattle.list_lemmas.proofs.Anys.{none-weaker}
use Rattle.list_lemmas.proofs.Found.{found-filter}
use Rattle.list_lemmas.proofs.Numbers.{eqb-refl}
use Rattle.uid_ranges.specs.Range.{meets, same_range}
use Rattle.list_lemmas.proofs.Places.{take-next}
use Rattle.uid_ranges.specs.Ranks.{all_at}
use Rattle.uid_ranges.specs.Ranges.{meets_any}
use Rattle.uid_ranges.specs.declared.range.UidRange.{UidRange}
use Rattle.uid_ranges.specs.declared.ranked.Ranked.{Ranked}
use Rattle.uid_ranges.proofs.Same.{same_range-true, same_range-self}
use Rattle.network_store.specs.RankIndex.{same_ranked, clash, comes_before, put, owner_of, any_meets, has_ranked}
use Rattle.network_store.specs.declared.rank_index.OwnedRange.{OwnedRange}

pub same_ranked-Decides : (a b : Ranked) → Decides (same_ranked a b) (a ≡ b)
same_ranked-Decides a b = (to, from)
  where
    to : same_ranked a b ≡ true → a ≡ b
    to h = let parts = and_parts (a.rank == b.rank) (same_range a.users b.users) h in λ i. record { users = same_range-true a.users b.users parts.1 i; rank = eqb-true a.rank b.rank parts.0 i }

    from : a ≡ b → same_ranked a b ≡ true
    from e = ap (same_ranked a) (sym e) ∙ and_from (a.rank == a.rank) (same_range a.users a.users) (eqb-refl a.rank) (same_range-self a.users)

pub clash-self : (a : Ranked) → clash a a ≡ true
clash-self a = let o = a.users.ordered in grind (arith, nat_tests)

-- the range that comes clashes with none, so none is the same
pub owner-put : (one : OwnedRange) (xs : List OwnedRange) → list_any (λ e. clash e.range one.range) xs ≡ false → (r : Ranked) → owner_of (put one xs) r ≡ cond (same_ranked one.range r) (Some one.owner) (owner_of xs r)
owner-put one [] apart r = elim (cases_Bool (same_ranked one.range r)) as (λ _. owner_of (one ∷ []) r ≡ cond (same_ranked one.range r) (Some one.owner) (owner_of [] r)) [ inl e ↦ rw e refl | inr e ↦ rw e refl ]
owner-put one (x ∷ xs) apart r =
    let none = or_parts (clash x.range one.range) (list_any (λ e. clash e.range one.range) xs) apart in
    let rest = owner-put one xs none.1 r in
    let Goal : Type 0 = owner_of (put one (x ∷ xs)) r ≡ cond (same_ranked one.range r) (Some one.owner) (owner_of (x ∷ xs) r) in
    elim (cases_Bool (comes_before x one)) as (λ _. Goal) [
      | inl e ↦ elim (cases_Bool (same_ranked x.range r)) as (λ _. Goal) [
        | inl s ↦ rw (e, s) (rw (other s none.0) refl)
        | inr s ↦ rw (e, s) rest
      ]
      | inr e ↦ elim (cases_Bool (same_ranked one.range r)) as (λ _. Goal) [
        | inl s ↦ rw (e, s) refl
        | inr s ↦ rw (e, s) refl
      ]
    ]
  where
    other : same_ranked x.range r ≡ true → clash x.range one.range ≡ false → same_ranked one.range r ≡ false
    other s apart = false_from_ne_true (same_ranked one.range r) (λ h. both_ways (clash x.range one.range) apart (ap (λ a. clash a one.range) ((same_ranked-Decides x.range r).0 s ∙ sym ((same_ranked-Decides one.range r).0 h)) ∙ clash-self one.range))

pub owner-remove : (gone : Ranked) (xs : List OwnedRange) (r : Ranked) → owner_of (filter (λ e. not (same_ranked e.range gone)) xs) r ≡ cond (same_ranked gone r) None (owner_of xs r)
owner-remove gone xs r = found-filter same_ranked same_ranked-Decides (λ (e : OwnedRange). e.range) (λ e. e.owner) r gone xs

-- ranges of one rank that come one after another

abbrev pub at_rank : ℕ → UidRange → Ranked
at_rank rank users = record { users = users; rank = rank }

and-first : (a b c : Bool) → (a && (b || c)) ≡ false → (a && b) ≡ false
and-first true b c h = (or_parts b c h).0
and-first false b c h = refl

and-second : (a b c : Bool) → (a && (b || c)) ≡ false → (a && c) ≡ false
and-second true b c h = (or_parts b c h).1
and-second false b c h = refl

pub meets-head : (rank : ℕ) (u : UidRange) (rest : List UidRange) (xs : List OwnedRange) → any_meets rank (u ∷ rest) xs ≡ false → list_any (λ e. clash e.range (at_rank rank u)) xs ≡ false
meets-head rank u rest [] none = refl
meets-head rank u rest (x ∷ xs) none =
    let parts = or_parts ((x.range.rank == rank) && meets_any x.range.users (u ∷ rest)) (any_meets rank (u ∷ rest) xs) none in
    or_from (clash x.range (at_rank rank u)) (list_any (λ e. clash e.range (at_rank rank u)) xs) (and-first (x.range.rank == rank) (meets x.range.users u) (meets_any x.range.users rest) parts.0) (meets-head rank u rest xs parts.1)

meets-tail : (rank : ℕ) (u : UidRange) (rest : List UidRange) (xs : List OwnedRange) → any_meets rank (u ∷ rest) xs ≡ false → any_meets rank rest xs ≡ false
meets-tail rank u rest [] none = refl
meets-tail rank u rest (x ∷ xs) none =
    let parts = or_parts ((x.range.rank == rank) && meets_any x.range.users (u ∷ rest)) (any_meets rank (u ∷ rest) xs) none in
    or_from ((x.range.rank == rank) && meets_any x.range.users rest) (any_meets rank rest xs) (and-second (x.range.rank == rank) (meets x.range.users u) (meets_any x.range.users rest) parts.0) (meets-tail rank u rest xs parts.1)

none-put : (p : OwnedRange → Bool) (one : OwnedRange) (xs : List OwnedRange) → p one ≡ false → list_any p xs ≡ false → list_any p (put one xs) ≡ false
none-put p one [] here none = rw here refl
none-put p one (x ∷ xs) here none =
    let parts = or_parts (p x) (list_any p xs) none in
    elim (cases_Bool (comes_before x one)) as (λ _. list_any p (put one (x ∷ xs)) ≡ false) [
      | inl e ↦ rw (e, parts.0) (none-put p one xs here parts.1)
      | inr e ↦ rw (e, here, parts.0) parts.1
    ]

pub meets-put : (rank owner : ℕ) (u : UidRange) (rest : List UidRange) (xs : List OwnedRange) → any_meets rank (u ∷ rest) xs ≡ false → meets_any u rest ≡ false
    → any_meets rank rest (put (record { range = at_rank rank u; owner = owner }) xs) ≡ false
meets-put rank owner u rest xs none apart =
    none-put (λ e. (e.range.rank == rank) && meets_any e.range.users rest) (record { range = at_rank rank u; owner = owner }) xs (rw (eqb-refl rank, apart) refl) (meets-tail rank u rest xs none)

cond-or : (a b : Bool) (w o : Option ℕ) → cond a w (cond b w o) ≡ cond (b || a) w o
cond-or true true w o = refl
cond-or true false w o = refl
cond-or false true w o = refl
cond-or false false w o = refl

or-false : (b : Bool) → (b || false) ≡ b
or-false true = refl
or-false false = refl

or-within : (a b c : Bool) → (a || (b || c)) ≡ ((a || b) || c)
or-within true b c = refl
or-within false b c = refl

pub more-owned : (rank owner : ℕ) (more : List UidRange) (i : ℕ) (u : UidRange) (now next old : Option ℕ) (r : Ranked) → slice_get more i ≡ Some u
    → next ≡ cond (same_ranked (at_rank rank u) r) (Some owner) now → now ≡ cond (has_ranked (all_at rank (take i more)) r) (Some owner) old
    → next ≡ cond (has_ranked (all_at rank (take (i + 1) more)) r) (Some owner) old
more-owned rank owner more i u now next old r at put so_far =
    put ∙ ap (λ o. cond (same_ranked (at_rank rank u) r) (Some owner) o) so_far ∙ cond-or (same_ranked (at_rank rank u) r) (has_ranked (all_at rank (take i more)) r) (Some owner) old
    ∙ ap (λ b. cond b (Some owner) old) (sym joined)
  where
    all-push : (xs : List UidRange) → has_ranked (all_at rank (xs ++ u ∷ [])) r ≡ (has_ranked (all_at rank xs) r || same_ranked (at_rank rank u) r)
    all-push [] = or-false (same_ranked (at_rank rank u) r)
    all-push (x ∷ xs) = ap (λ b. same_ranked (at_rank rank x) r || b) (all-push xs) ∙ or-within (same_ranked (at_rank rank x) r) (has_ranked (all_at rank xs) r) (same_ranked (at_rank rank u) r)

    joined : has_ranked (all_at rank (take (i + 1) more)) r ≡ (has_ranked (all_at rank (take i more)) r || same_ranked (at_rank rank u) r)
    joined = ap (λ xs. has_ranked (all_at rank xs) r) (take-next more i u at) ∙ all-push (take i more)

-- a range that passes a test and belongs to a network
pub record IsOwnedBy (q : Ranked → Bool) (index : List OwnedRange) : Type 0 where
  pub range : Ranked
  pub passes : q range ≡ true
  pub owner : ℕ
  pub owned : owner_of index range ≡ Some owner

pub any-owned : (q : Ranked → Bool) (xs : List OwnedRange) → list_any (λ e. q e.range) xs ≡ true → IsOwnedBy q xs
any-owned q [] any = absurd (false≢true any)
any-owned q (x ∷ xs) any = elim (cases_Bool (q x.range)) as (λ _. IsOwnedBy q (x ∷ xs)) [
  | inl e ↦ record { range = x.range; passes = e; owner = x.owner; owned = rw ((same_ranked-Decides x.range x.range).1 refl) refl }
  | inr e ↦ later (any-owned q xs (rw e at any))
]
  where
    later : IsOwnedBy q xs → IsOwnedBy q (x ∷ xs)
    later rest = elim (cases_Bool (same_ranked x.range rest.range)) as (λ _. IsOwnedBy q (x ∷ xs)) [
      | inl s ↦ record { range = rest.range; passes = rest.passes; owner = x.owner; owned = rw s refl }
      | inr s ↦ record { range = rest.range; passes = rest.passes; owner = rest.owner; owned = rw s rest.owned }
    ]

or-four : (a b c d : Bool) → ((a || b) || (c || d)) ≡ ((a || c) || (b || d))
or-four true b c d = refl
or-four false true true d = refl
or-four false true false d = refl
or-four false false c d = refl

-- one range more
pub meets-more : (rank : ℕ) (xs : List UidRange) (u : UidRange) (index : List OwnedRange) → any_meets rank (xs ++ u ∷ []) index ≡ (any_meets rank xs index || list_any (λ e. clash e.range (at_rank rank u)) index)
meets-more rank xs u [] = refl
meets-more rank xs u (e ∷ es) =
    ap (λ b. b || any_meets rank (xs ++ u ∷ []) es) (ap (λ b. (e.range.rank == rank) && b) (list_any-append (meets e.range.users) xs (u ∷ []) ∙ ap (λ b. meets_any e.range.users xs || b) (or-false (meets e.range.users u))) ∙ spread (e.range.rank == rank) (meets_any e.range.users xs) (meets e.range.users u))
    ∙ ap (λ b. (((e.range.rank == rank) && meets_any e.range.users xs) || clash e.range (at_rank rank u)) || b) (meets-more rank xs u es)
    ∙ or-four ((e.range.rank == rank) && meets_any e.range.users xs) (clash e.range (at_rank rank u)) (any_meets rank xs es) (list_any (λ e. clash e.range (at_rank rank u)) es)
  where
    spread : (a b c : Bool) → (a && (b || c)) ≡ ((a && b) || (a && c))
    spread true b c = refl
    spread false b c = refl

pub none-meets : (rank : ℕ) (index : List OwnedRange) → any_meets rank [] index ≡ false
none-meets rank [] = refl
none-meets rank (e ∷ es) = or_from ((e.range.rank == rank) && false) (any_meets rank [] es) (none (e.range.rank == rank)) (none-meets rank es)
  where
    none : (b : Bool) → (b && false) ≡ false
    none true = refl
    none false = refl

-- a range of the list that meets one
pub meets-at : (rank i : ℕ) (more : List UidRange) (u : UidRange) (index : List OwnedRange) → slice_get more i ≡ Some u → list_any (λ e. clash e.range (at_rank rank u)) index ≡ true → any_meets rank more index ≡ true
meets-at rank i more u index at any = elim (cases_Bool (any_meets rank more index)) as (λ _. any_meets rank more index ≡ true) [
  | inl t ↦ t
  | inr f ↦ absurd (both_ways (list_any (λ e. clash e.range (at_rank rank u)) index) (none-weaker (λ e. clash e.range (at_rank rank u)) (λ e. (e.range.rank == rank) && meets_any e.range.users more) less index f) any)
]
  where
    among : (a : UidRange) (us : List UidRange) (j : ℕ) → slice_get us j ≡ Some u → meets_any a us ≡ false → meets a u ≡ false
    among a [] j is none = absurd (none-some u is)
    among a (v ∷ vs) zero is none = ap (meets a) (sym (same_Some v u is)) ∙ (or_parts (meets a v) (meets_any a vs) none).0
    among a (v ∷ vs) (suc j) is none = among a vs j is (or_parts (meets a v) (meets_any a vs) none).1

    less : (e : OwnedRange) → ((e.range.rank == rank) && meets_any e.range.users more) ≡ false → clash e.range (at_rank rank u) ≡ false
    less e none = elim (cases_Bool (e.range.rank == rank)) as (λ _. clash e.range (at_rank rank u) ≡ false) [
      | inl same ↦
          let apart : meets_any e.range.users more ≡ false = rw same at none in
          rw (same, among e.range.users more i at apart) refl
      | inr other ↦ rw other refl
    ]
