-- A slot comes last in its chain, or goes.
use Rattle.std.proofs.Common.{◌≡◌, ℕ, zero, suc, ◌+◌, ◌<◌, ◌≤◌, ◌⊎◌, true, false, List, [], ◌∷◌, ◌++◌, length, set, get_or, Option, Some, None, refl, sym, ◌∙◌, ap, subst, arith, inl, inr, length-append}
use Rattle.std.specs.Option.{option_map}
use Rattle.std.proofs.lemmas.Bool.{cases_eq, cases_order, both_ways}
use Rattle.std.proofs.lemmas.List.{length-set, get_or-set_same, get_or-set_other}
use Rattle.std.proofs.lemmas.Option.{none-some, same_Some}
use Rattle.prefixes.specs.declared.route.Route.{Route}
use Rattle.route_chains.specs.declared.slot.Slot.{Slot}
use Rattle.route_chains.specs.Places.{held}
use Rattle.route_chains.specs.Links.{is_of, is_at, IsNext, AreLinked, AreHeads, AreWithin, with_next, relinked, reheaded}
use Rattle.route_chains.specs.Found.{past, IsOf}
use Rattle.route_chains.proofs.Standing.{held-past, held-within, held-last, held-before, held-set, held-unset}
use Rattle.route_chains.proofs.Nexts.{one_of, at_slot, not_at, nothing_at, next_same, next_grown, next_new, next_none, next_other, next_over}

pub is_at-relinked : (c : ℕ) (xs : List (Option Slot)) (before next : Option ℕ) (m : ℕ) → is_at c (relinked xs before next) m ≡ is_at c xs m
is_at-relinked c xs None next m = refl
is_at-relinked c xs (Some b) next m = of xs b m
  where
    one : (o : Option Slot) → is_of c (option_map (with_next next) o) ≡ is_of c o
    one None = refl
    one (Some s) = refl

    of : (xs : List (Option Slot)) (b m : ℕ) → is_at c (set xs b (option_map (with_next next) (held xs b))) m ≡ is_at c xs m
    of [] b m = refl
    of (x ∷ xs) zero zero = one x
    of (x ∷ xs) zero (suc m) = refl
    of (x ∷ xs) (suc b) zero = refl
    of (x ∷ xs) (suc b) (suc m) = of xs b m

pub length-relinked : (xs : List (Option Slot)) (before next : Option ℕ) → length (relinked xs before next) ≡ length xs
length-relinked xs None next = refl
length-relinked xs (Some b) next = length-set xs b (option_map (with_next next) (held xs b))

-- what a slot was before a link changed
pub record Was (xs : List (Option Slot)) (before next : Option ℕ) (place : ℕ) (s : Slot) : Type 0 where
  pub old : Slot
  pub stood : held xs place ≡ Some old
  pub chain : s.chain ≡ old.chain
  pub how : ((before ≡ Some place) × (s.next ≡ next)) ⊎ ((before ≡ Some place → ⊥) × (s.next ≡ old.next))

pub was : (xs : List (Option Slot)) (before next : Option ℕ) (place : ℕ) (s : Slot) → held (relinked xs before next) place ≡ Some s → Was xs before next place s
was xs None next place s at = record { old = s; stood = at; chain = refl; how = inr (none-some place, refl) }
was xs (Some b) next place s at = elim (cases_eq place b) as (λ _. Was xs (Some b) next place s) [
  | inl is ↦
      let changed = option_map (with_next next) (held xs b) in
      let within : b < length xs = let w = held-within (set xs b changed) place s at in omega (arith, w, is, length-set xs b changed) in
      of is (held xs b) refl (sym (held-set xs b changed within) ∙ ap (held (set xs b changed)) (sym is) ∙ at)
  | inr other ↦ record {
    old = s;
    stood = sym (held-unset xs b place (option_map (with_next next) (held xs b)) other) ∙ at;
    chain = refl;
    how = inr (λ same. other (sym (same_Some b place same)), refl);
  }
]
  where
    of : place ≡ b → (o : Option Slot) → held xs b ≡ o → option_map (with_next next) o ≡ Some s → Was xs (Some b) next place s
    of is None stood e = absurd (none-some s e)
    of is (Some x) stood e =
        let same = same_Some (with_next next x) s e in
        record { old = x; stood = ap (held xs) is ∙ stood; chain = ap (λ (y : Slot). y.chain) (sym same); how = inl (ap Some (sym is), ap (λ (y : Slot). y.next) (sym same)) }

module _ (xs : List (Option Slot)) (heads : List (Option ℕ)) (k : ℕ) (before : Option ℕ) (links : AreLinked xs) (starts : AreHeads xs heads) (before_is : IsOf k xs before) where
  -- a slot that isn't the one before is linked to what comes after that one: there is none such
  not_before : (at : Option ℕ) → IsNext k xs (past before) at → (place : ℕ) (s : Slot) → held xs place ≡ Some s → s.chain ≡ k → (before ≡ Some place → ⊥) → IsNext k xs (place + 1) at → ⊥
  not_before at next place s stands chain other after = of before before_is next other
    where
      here : is_at k xs place ≡ true
      here = at_slot k xs place s stands chain

      clash : (p : ℕ) → is_at k xs p ≡ true → is_at k xs p ≡ false → ⊥
      clash p on off = both_ways (is_at k xs p) off on

      -- a slot at p, with place before it, and the next after both the same
      between : (o : Option ℕ) (p : ℕ) → place < p → is_at k xs p ≡ true → IsNext k xs (place + 1) o → IsNext k xs (p + 1) o → ⊥
      between None p less on a n = clash p on (a p (omega (arith, less)))
      between (Some j) p less on a n = let more = n.0 in clash p on (a.2 p (omega (arith, less)) (omega (arith, more)))

      behind : (o : Option ℕ) (from : ℕ) → from ≤ place → IsNext k xs from o → IsNext k xs (place + 1) o → ⊥
      behind None from le n a = clash place here (n place le)
      behind (Some j) from le n a = let more = a.0 in clash place here (n.2 place le (omega (arith, more)))

      of : (b : Option ℕ) → IsOf k xs b → IsNext k xs (past b) at → (b ≡ Some place → ⊥) → ⊥
      of None is next other = behind at 0 (omega arith) next after
      of (Some p) is next other = elim (cases_order place p) as (λ _. ⊥) [
        | inl same ↦ other (ap Some (sym same))
        | inr order ↦ elim order as (λ _. ⊥) [
          | inl less ↦ between at p less is after next
          | inr more ↦ behind at (p + 1) (omega (arith, more)) next after
        ]
      ]

  -- the head is not linked to what comes after a slot
  not_head : (at : Option ℕ) → (b : ℕ) → before ≡ Some b → IsNext k xs (past before) at → IsNext k xs 0 at → ⊥
  not_head at b is next first = of at (subst (λ o. IsNext k xs (past o) at) is next) first
    where
      on : is_at k xs b ≡ true
      on = subst (IsOf k xs) is before_is

      of : (o : Option ℕ) → IsNext k xs (b + 1) o → IsNext k xs 0 o → ⊥
      of None n f = both_ways (is_at k xs b) (f b (omega arith)) on
      of (Some j) n f = let more = n.0 in both_ways (is_at k xs b) (f.2 b (omega arith) (omega (arith, more))) on

  module _ (next : IsNext k xs (past before) None) (route : Route) where
    abbrev new : Slot
    new = record { chain = k; route = route; next = None }

    abbrev mid : List (Option Slot)
    mid = relinked xs before (Some (length xs))

    abbrev pub grown : List (Option Slot)
    grown = mid ++ Some new ∷ []

    long : length mid ≡ length xs
    long = length-relinked xs before (Some (length xs))

    longer : length grown ≡ length xs + 1
    longer = omega (arith, long, length-append mid (Some new ∷ []))

    at_new : held grown (length xs) ≡ Some new
    at_new = held-last mid (length xs) (Some new) (sym long)

    below : (c m : ℕ) → m < length xs → is_at c grown m ≡ is_at c xs m
    below c m less = ap (is_of c) (held-before mid m (Some new) (λ is. omega (arith, is, long, less))) ∙ is_at-relinked c xs before (Some (length xs)) m

    others : (c : ℕ) → (k ≡ c → ⊥) → (m : ℕ) → is_at c grown m ≡ is_at c xs m
    others c differs m = elim (cases_order m (length xs)) as (λ _. is_at c grown m ≡ is_at c xs m) [
      | inl is ↦
          ap (is_at c grown) is ∙ not_at c grown (length xs) new at_new differs
          ∙ sym (nothing_at c xs m (held-past xs m (omega (arith, is))))
      | inr order ↦ elim order as (λ _. is_at c grown m ≡ is_at c xs m) [
        | inl less ↦ below c m less
        | inr more ↦ nothing_at c grown m (held-past grown m (omega (arith, more, longer))) ∙ sym (nothing_at c xs m (held-past xs m (omega (arith, more))))
      ]
    ]

    kept : (c from : ℕ) (o : Option ℕ) → IsNext c xs from o → (c ≡ k → o ≡ None → ⊥) → IsNext c grown from o
    kept c from o is some = elim (cases_eq c k) as (λ _. IsNext c grown from o) [
      | inl same ↦ of o is (some same)
      | inr differs ↦ next_same c xs grown (others c (λ e. differs (sym e))) from o is
    ]
      where
        of : (o : Option ℕ) → IsNext c xs from o → (o ≡ None → ⊥) → IsNext c grown from o
        of None is some = absurd (some refl)
        of (Some j) is some = let one = one_of c xs j is.1 in next_grown c xs grown (length xs) (below c) from j (held-within xs j one.slot one.stands) is

    pub links_added : AreLinked grown
    links_added place s at = elim (cases_order place (length xs)) as (λ _. IsNext s.chain grown (place + 1) s.next) [
      | inl is ↦
          let e : new ≡ s = same_Some new s (sym at_new ∙ ap (held grown) (sym is) ∙ at) in
          subst (λ (x : Slot). IsNext x.chain grown (place + 1) x.next) e (λ m past. nothing_at k grown m (held-past grown m (omega (arith, past, is, longer))))
      | inr order ↦ elim order as (λ _. IsNext s.chain grown (place + 1) s.next) [
        | inl less ↦ of (was xs before (Some (length xs)) place s (sym (held-before mid place (Some new) (λ is. omega (arith, is, long, less))) ∙ at)) less
        | inr more ↦ absurd (let w = held-within grown place s at in omega (arith, w, more, longer))
      ]
    ]
      where
        of : Was xs before (Some (length xs)) place s → place < length xs → IsNext s.chain grown (place + 1) s.next
        of w less = elim w.how as (λ _. IsNext s.chain grown (place + 1) s.next) [
          | inl here ↦
              let one = one_of k xs place (subst (IsOf k xs) here.0 before_is) in
              let of_k : s.chain ≡ k = w.chain ∙ ap (λ (x : Slot). x.chain) (same_Some w.old one.slot (sym w.stood ∙ one.stands)) ∙ one.chain in
              subst (IsNext s.chain grown (place + 1)) (sym here.1)
              (subst (λ c. IsNext c grown (place + 1) (Some (length xs))) (sym of_k)
              (next_new k xs grown (length xs) (below k) (at_slot k grown (length xs) new at_new refl) (place + 1) (omega (arith, less)) (subst (λ o. IsNext k xs (past o) None) here.0 next)))
          | inr there ↦
              subst (IsNext s.chain grown (place + 1)) (sym there.1)
              (subst (λ c. IsNext c grown (place + 1) w.old.next) (sym w.chain)
              (kept w.old.chain (place + 1) w.old.next (links place w.old w.stood)
              (λ of_k none. not_before None next place w.old w.stood of_k there.0 (subst (λ c. IsNext c xs (place + 1) None) of_k (subst (IsNext w.old.chain xs (place + 1)) none (links place w.old w.stood))))))
        ]

    pub heads_added : k < length heads → AreHeads grown (reheaded heads k before (Some (length xs)))
    heads_added there = of before refl next
      where
        of : (b : Option ℕ) → before ≡ b → IsNext k xs (past b) None → AreHeads grown (reheaded heads k b (Some (length xs)))
        of None is first c d lt = elim (cases_eq c k) as (λ _. IsNext c grown 0 (get_or (set heads k (Some (length xs))) c d)) [
          | inl same ↦
              subst (λ i. IsNext i grown 0 (get_or (set heads k (Some (length xs))) i d)) (sym same)
              (rw (get_or-set_same heads k (Some (length xs)) d there) (next_new k xs grown (length xs) (below k) (at_slot k grown (length xs) new at_new refl) 0 (omega arith) first))
          | inr differs ↦
              rw (get_or-set_other heads k c (Some (length xs)) d differs)
              (next_same c xs grown (others c (λ e. differs (sym e))) 0 (get_or heads c d) (starts c d (omega (arith, lt, length-set heads k (Some (length xs))))))
        ]
        of (Some b) is later c d lt =
            kept c 0 (get_or heads c d) (starts c d lt)
            (λ same none. not_head None b is next (subst (λ i. IsNext i xs 0 None) same (subst (IsNext c xs 0) none (starts c d lt))))

    pub within_added : k < length heads → AreWithin xs (length heads) → AreWithin grown (length heads)
    within_added there within place s at = elim (cases_order place (length xs)) as (λ _. s.chain < length heads) [
      | inl is ↦ subst (λ (x : Slot). x.chain < length heads) (same_Some new s (sym at_new ∙ ap (held grown) (sym is) ∙ at)) there
      | inr order ↦ elim order as (λ _. s.chain < length heads) [
        | inl less ↦
            let w = was xs before (Some (length xs)) place s (sym (held-before mid place (Some new) (λ is. omega (arith, is, long, less))) ∙ at) in
            let h = within place w.old w.stood in
            omega (arith, w.chain, h)
        | inr more ↦ absurd (let w = held-within grown place s at in omega (arith, w, more, longer))
      ]
    ]

  module _ (gone : ℕ) (slot : Slot) (stands : held xs gone ≡ Some slot) (of_k : slot.chain ≡ k) (next : IsNext k xs (past before) (Some gone)) where
    abbrev cut_mid : List (Option Slot)
    cut_mid = relinked xs before slot.next

    abbrev pub cut : List (Option Slot)
    cut = set cut_mid gone None

    cut_long : length cut_mid ≡ length xs
    cut_long = length-relinked xs before slot.next

    gone_none : held cut gone ≡ None
    gone_none = held-set cut_mid gone None (let w = held-within xs gone slot stands in omega (arith, w, cut_long))

    elsewhere : (c m : ℕ) → (m ≡ gone → ⊥) → is_at c cut m ≡ is_at c xs m
    elsewhere c m differs = ap (is_of c) (held-unset cut_mid gone m None differs) ∙ is_at-relinked c xs before slot.next m

    not_k : (c : ℕ) → (c ≡ k → ⊥) → (m : ℕ) → is_at c cut m ≡ is_at c xs m
    not_k c differs m = elim (cases_eq m gone) as (λ _. is_at c cut m ≡ is_at c xs m) [
      | inl is ↦
          ap (is_at c cut) is ∙ nothing_at c cut gone gone_none
          ∙ sym (ap (is_at c xs) is ∙ not_at c xs gone slot stands (λ e. differs (sym e ∙ of_k)))
      | inr other ↦ elsewhere c m other
    ]

    after_gone : IsNext k xs (gone + 1) slot.next
    after_gone = subst (λ c. IsNext c xs (gone + 1) slot.next) of_k (links gone slot stands)

    cut_kept : (c from : ℕ) (o : Option ℕ) → IsNext c xs from o → (c ≡ k → o ≡ Some gone → ⊥) → IsNext c cut from o
    cut_kept c from o is other = elim (cases_eq c k) as (λ _. IsNext c cut from o) [
      | inl same ↦ of o is (other same)
      | inr differs ↦ next_same c xs cut (not_k c differs) from o is
    ]
      where
        of : (o : Option ℕ) → IsNext c xs from o → (o ≡ Some gone → ⊥) → IsNext c cut from o
        of None is other = next_none c xs cut gone (nothing_at c cut gone gone_none) (elsewhere c) from is
        of (Some j) is other = next_other c xs cut gone (nothing_at c cut gone gone_none) (elsewhere c) from j (λ e. other (ap Some e)) is

    over : (from : ℕ) → IsNext k xs from (Some gone) → IsNext k cut from slot.next
    over from is = next_over k xs cut gone (nothing_at k cut gone gone_none) (elsewhere k) from slot.next is after_gone

    was_cut : (place : ℕ) (s : Slot) → held cut place ≡ Some s → Was xs before slot.next place s
    was_cut place s at = elim (cases_eq place gone) as (λ _. Was xs before slot.next place s) [
      | inl is ↦ absurd (none-some s (sym gone_none ∙ ap (held cut) (sym is) ∙ at))
      | inr other ↦ was xs before slot.next place s (sym (held-unset cut_mid gone place None other) ∙ at)
    ]

    pub links_cut : AreLinked cut
    links_cut place s at = of (was_cut place s at)
      where
        of : Was xs before slot.next place s → IsNext s.chain cut (place + 1) s.next
        of w = elim w.how as (λ _. IsNext s.chain cut (place + 1) s.next) [
          | inl here ↦
              let one = one_of k xs place (subst (IsOf k xs) here.0 before_is) in
              let mine : s.chain ≡ k = w.chain ∙ ap (λ (x : Slot). x.chain) (same_Some w.old one.slot (sym w.stood ∙ one.stands)) ∙ one.chain in
              subst (IsNext s.chain cut (place + 1)) (sym here.1)
              (subst (λ c. IsNext c cut (place + 1) slot.next) (sym mine) (over (place + 1) (subst (λ o. IsNext k xs (past o) (Some gone)) here.0 next)))
          | inr there ↦
              subst (IsNext s.chain cut (place + 1)) (sym there.1)
              (subst (λ c. IsNext c cut (place + 1) w.old.next) (sym w.chain)
              (cut_kept w.old.chain (place + 1) w.old.next (links place w.old w.stood)
              (λ mine to. not_before (Some gone) next place w.old w.stood mine there.0 (subst (λ c. IsNext c xs (place + 1) (Some gone)) mine (subst (IsNext w.old.chain xs (place + 1)) to (links place w.old w.stood))))))
        ]

    pub heads_cut : k < length heads → AreHeads cut (reheaded heads k before slot.next)
    heads_cut there = of before refl next
      where
        of : (b : Option ℕ) → before ≡ b → IsNext k xs (past b) (Some gone) → AreHeads cut (reheaded heads k b slot.next)
        of None is first c d lt = elim (cases_eq c k) as (λ _. IsNext c cut 0 (get_or (set heads k slot.next) c d)) [
          | inl same ↦
              subst (λ i. IsNext i cut 0 (get_or (set heads k slot.next) i d)) (sym same)
              (rw (get_or-set_same heads k slot.next d there) (over 0 first))
          | inr differs ↦
              rw (get_or-set_other heads k c slot.next d differs)
              (next_same c xs cut (not_k c differs) 0 (get_or heads c d) (starts c d (omega (arith, lt, length-set heads k slot.next))))
        ]
        of (Some b) is later c d lt =
            cut_kept c 0 (get_or heads c d) (starts c d lt)
            (λ same to. not_head (Some gone) b is next (subst (λ i. IsNext i xs 0 (Some gone)) same (subst (IsNext c xs 0) to (starts c d lt))))

    pub within_cut : AreWithin xs (length heads) → AreWithin cut (length heads)
    within_cut within place s at =
        let w = was_cut place s at in
        let h = within place w.old w.stood in
        omega (arith, w.chain, h)
