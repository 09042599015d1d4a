-- Stored permissions, and users who may protect: one more, one replaced, and some fewer.
use Rattle.std.proofs.Common.{◌≡◌, ◌∙◌, ◌≤◌, ◌<◌, ◌==◌, ◌&&◌, ℕ, Bool, true, false, not, List, [], ◌∷◌, ◌++◌, map, filter, length, refl, sym, ap, subst, inl, inr, arith}
use Rattle.std.specs.Prelude.{nat_le}
use Rattle.std.specs.List.{list_any}
use Rattle.std.proofs.lemmas.Bool.{cases_Bool, or_parts, leb-false}
use Rattle.std.proofs.lemmas.List.{length-append, length-map, map-append}
use Rattle.list_lemmas.proofs.Anys.{any-map, length-filter-le}
use Rattle.fwmark.specs.declared.permission.Permission.{Permission}
use Rattle.networks.specs.Lists.{are_distinct}
use Rattle.networks.proofs.Distinct.{are_distinct-push, are_distinct-filter}
use Rattle.uid_ranges.specs.declared.range.Uid.{Uid}
use Rattle.policy_state.specs.Step.{is_of_user, with_permission_of}
use Rattle.policy_state.specs.View.{UserPermission}

-- A list in which no number of a member stands twice, and which isn't longer than it may be. The number is left open: it is that
-- of a permission's user, or of a user.
pub record AreFew {A : Type 0} (number : A → ℕ) (most : ℕ) (xs : List A) : Type 0 where
  pub distinct : are_distinct (map number xs) ≡ true
  pub few : length xs ≤ most

pub few-filter : {A : Type 0} (number : A → ℕ) (most : ℕ) (q : A → Bool) (xs : List A) → AreFew number most xs → AreFew number most (filter q xs)
few-filter number most q xs good = record {
  distinct = are_distinct-filter number q xs good.distinct;
  few = omega (arith, good.few, length-filter-le q xs);
}

pub few-push : {A : Type 0} (number : A → ℕ) (most : ℕ) (xs : List A) (x : A) → AreFew number most xs → list_any (λ y. number y == number x) xs ≡ false → length xs < most
    → AreFew number most (xs ++ x ∷ [])
few-push number most xs x good absent room = record {
  distinct = subst (λ ns. are_distinct ns ≡ true) (sym (map-append number xs (x ∷ [])))
      (are_distinct-push (map number xs) (number x) good.distinct (any-map number (λ m. m == number x) xs ∙ absent));
  few = omega (arith, length-append xs (x ∷ []), room);
}

-- another list of the same numbers
pub few-same : {A : Type 0} (number : A → ℕ) (most : ℕ) (xs ys : List A) → AreFew number most xs → map number ys ≡ map number xs → AreFew number most ys
few-same number most xs ys good same = record {
  distinct = ap are_distinct same ∙ good.distinct;
  few = omega (arith, good.few, ap length same, length-map xs number, length-map ys number);
}

-- permissions

-- a permission in the place of another one
replaced-numbers : (uid : Uid) (permission : Permission) (ps : List UserPermission) → list_any (is_of_user uid) ps ≡ true
    → map (λ (p : UserPermission). p.uid.number) (with_permission_of uid permission ps) ≡ map (λ (p : UserPermission). p.uid.number) ps
replaced-numbers uid permission [] there = absurd cc
replaced-numbers uid permission (p ∷ ps) there = elim (cases_Bool (is_of_user uid p)) as (λ _. map (λ (x : UserPermission). x.uid.number) (with_permission_of uid permission (p ∷ ps)) ≡ map (λ (x : UserPermission). x.uid.number) (p ∷ ps)) [
  | inl e ↦ rw e refl
  | inr e ↦ rw e (ap (λ ns. p.uid.number ∷ ns) (replaced-numbers uid permission ps (rw e at there)))
]

-- a first permission goes last
pushed : (uid : Uid) (permission : Permission) (ps : List UserPermission) → list_any (is_of_user uid) ps ≡ false → with_permission_of uid permission ps ≡ ps ++ record { uid = uid; permission = permission } ∷ []
pushed uid permission [] absent = refl
pushed uid permission (p ∷ ps) absent =
    let parts = or_parts (is_of_user uid p) (list_any (is_of_user uid) ps) absent in
    rw parts.0 (ap (λ rest. p ∷ rest) (pushed uid permission ps parts.1))

pub few-permission : (most : ℕ) (uid : Uid) (permission : Permission) (ps : List UserPermission) → AreFew (λ (p : UserPermission). p.uid.number) most ps
    → (not (list_any (is_of_user uid) ps) && nat_le most (length ps)) ≡ false → AreFew (λ (p : UserPermission). p.uid.number) most (with_permission_of uid permission ps)
few-permission most uid permission ps good room = elim (cases_Bool (list_any (is_of_user uid) ps)) [
  | inl e ↦ few-same (λ (p : UserPermission). p.uid.number) most ps (with_permission_of uid permission ps) good (replaced-numbers uid permission ps e)
  | inr e ↦
      let free : nat_le most (length ps) ≡ false = rw e at room in
      subst (AreFew (λ (p : UserPermission). p.uid.number) most) (sym (pushed uid permission ps e))
      (few-push (λ (p : UserPermission). p.uid.number) most ps (record { uid = uid; permission = permission }) good e (leb-false most (length ps) free))
]
