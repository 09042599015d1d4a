-- More chains, the new ones empty.
use Rattle.std.proofs.Common.{◌≡◌, ℕ, ◌+◌, ◌-◌, ◌<◌, ◌≤◌, Bool, true, false, List, ◌++◌, length, get_or, replicate, Option, Some, None, refl, sym, ◌∙◌, ap, subst, arith, rules, inl, inr, length-append, vec_len, vec_capacity}
use Rattle.std.specs.Bool.{if◌then◌else◌}
use Rattle.std.proofs.lemmas.Bool.{cases_lt, ne_eqb}
use Rattle.std.proofs.lemmas.List.{get_or_append_left, get_or-append_right, get_or-replicate, length-replicate}
use Rattle.route_chains.specs.declared.slot.Slot.{Slot}
use Rattle.route_chains.specs.declared.chains.RouteChains.TheInside.{Inside}
use Rattle.route_chains.specs.Kept.{IsKept}
use Rattle.route_chains.specs.Places.{held}
use Rattle.route_chains.specs.Links.{entries_of, is_of, IsNext, AreLinked, AreHeads, AreWithin}

-- no slot is of a chain that isn't there
none_past : (xs : List (Option Slot)) (chains : ℕ) → AreWithin xs chains → (k : ℕ) → chains ≤ k → IsNext k xs 0 None
none_past xs chains within k past m _ = of (held xs m) (λ s at. within m s at)
  where
    of : (o : Option Slot) → ((s : Slot) → o ≡ Some s → s.chain < chains) → is_of k o ≡ false
    of None fits = refl
    of (Some s) fits = let h = fits s refl in ne_eqb s.chain k (omega (arith, h, past))

more_heads : (xs : List (Option Slot)) (heads : List (Option ℕ)) (n : ℕ) → AreHeads xs heads → AreWithin xs (length heads) → AreHeads xs (heads ++ replicate n None)
more_heads xs heads n starts within k d lt = elim (cases_lt k (length heads)) as (λ _. IsNext k xs 0 (get_or (heads ++ replicate n None) k d)) [
  | inl less ↦ subst (IsNext k xs 0) (sym (get_or_append_left heads (replicate n None) d k less)) (starts k d less)
  | inr more ↦
      let few : k - length heads < n = omega (arith, lt, more, length-append heads (replicate n None), length-replicate {A = Option ℕ} n None) in
      subst (IsNext k xs 0) (sym (get_or-append_right heads (replicate n None) (length heads) k d refl more ∙ get_or-replicate n (k - length heads) None d few)) (none_past xs (length heads) within k more)
]

pub opened_heads : (xs : List (Option Slot)) (heads : List (Option ℕ)) (b : Bool) (n : ℕ) (new : List (Option ℕ)) → new ≡ (if b then heads ++ replicate n None else heads)
    → AreHeads xs heads → AreWithin xs (length heads) → AreHeads xs new
opened_heads xs heads true n new is starts within = subst (AreHeads xs) (sym is) (more_heads xs heads n starts within)
opened_heads xs heads false n new is starts within = subst (AreHeads xs) (sym is) starts

pub opened_within : (xs : List (Option Slot)) (few many : ℕ) → few ≤ many → AreWithin xs few → AreWithin xs many
opened_within xs few many le within place s at = let h = within place s at in omega (arith, h, le)

pub kept_opened : (t u : Inside) → IsKept t → u.slots.items ≡ t.slots.items → (b : Bool) (n : ℕ) → u.heads.items ≡ (if b then t.heads.items ++ replicate n None else t.heads.items)
    → vec_len t.heads ≤ vec_len u.heads → vec_len u.slots + u.spare ≤ vec_capacity u.slots → u.gaps ≡ t.gaps → IsKept u
kept_opened t u kept slots b n heads longer room gaps =
    let few : length t.heads.items ≡ vec_len t.heads = search rules in
    let many : length u.heads.items ≡ vec_len u.heads = search rules in
    record {
      chains = record {
        linked = subst AreLinked (sym slots) kept.chains.linked;
        begun = subst (λ xs. AreHeads xs u.heads.items) (sym slots) (opened_heads t.slots.items t.heads.items b n u.heads.items heads kept.chains.begun kept.chains.within);
        within = subst (λ xs. AreWithin xs (length u.heads.items)) (sym slots) (opened_within t.slots.items (length t.heads.items) (length u.heads.items) (omega (arith, few, many, longer)) kept.chains.within);
      };
      room = room;
      gaps = subst (λ xs. u.gaps + length (entries_of xs) ≡ length xs) (sym slots) (ap (λ g. g + length (entries_of t.slots.items)) gaps ∙ kept.gaps);
    }
