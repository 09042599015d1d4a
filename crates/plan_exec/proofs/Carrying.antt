-- A plan that may be carried out may be asked for in turn.
use Rattle.std.proofs.Common.{◌≡◌, ℕ, zero, suc, ◌+◌, ◌≤◌, true, false, List, [], ◌∷◌, ◌++◌, length, map, take, reverse, Option, Some, inl, inr, sym, ◌∙◌, ap, subst, arith}
use Rattle.std.specs.List.{AllByRecursion}
use Rattle.std.proofs.lemmas.Bool.{false≢true, both_ways}
use Rattle.std.proofs.lemmas.List.{reverse-append}
use Rattle.kernel_model.specs.Same.{same_request}
use Rattle.kernel_model.specs.State.{is_absent, is_present, is_route}
use Rattle.kernel_model.specs.View.{state_of}
use Rattle.kernel_model.specs.Journal.{entry, act}
use Rattle.prefixes.specs.declared.route.Route.{Route}
use Rattle.kernel_model.specs.declared.request.Request.{Request}
use Rattle.kernel_model.specs.declared.request.Request.TheVariants as req
use Rattle.kernel_model.specs.declared.request.EntryKind.{EntryKind}
use Rattle.kernel_model.specs.declared.request.EntryKind.TheVariants.{Added, Deleted, Refused}
use Rattle.list_lemmas.proofs.Alls.{all-append, all-append_parts, all-reverse, all-take}
use Rattle.kernel_model.proofs.Replays.{replay-append}
use Rattle.kernel_model.proofs.Sames.{same_request-sym}
use Rattle.kernel_model.proofs.Requests.{absent-after_add, present-after_add, present-of_added, present-after_delete}
use Rattle.std.proofs.lemmas.List.{length-take, length-map, length-reverse}
use Rattle.std.proofs.lemmas.Option.{slice_get_within}
use Rattle.kernel_model.specs.PlanView.{PlanView}
use Rattle.plan_exec.proofs.Forms.{spare-after}
use Rattle.kernel_model.specs.Same.{Distinct}
use Rattle.plan_exec.specs.MayCarry.{ReadyFor, MayCarry}
use Rattle.plan_exec.specs.InTurn.{Standing, noted, after, MayAdd, MayAddInTurn, MayDeleteInTurn, RefusedAt}

-- what an entry makes of the kernel
pub state-noted : (k : Standing) (kind : EntryKind) (q : Request) → state_of (noted k (entry kind q)).seen ≡ act (state_of k.seen) kind q
state-noted k kind q = replay-append k.seen.journal (entry kind q ∷ [])

Absent : Standing → Request → Type 0
Absent k q = is_absent (state_of k.seen) q ≡ true

abbrev pub Present : Standing → Request → Type 0
Present k q = is_present (state_of k.seen) q ≡ true

absent_still : (k : Standing) (q : Request) (qs : List Request) → AllByRecursion (λ p. same_request q p ≡ false) qs → (is_route q ≡ true → AllByRecursion (λ p. is_route p ≡ false) qs)
    → AllByRecursion (λ p. is_absent (state_of k.seen) p ≡ true) qs → AllByRecursion (λ p. is_absent (state_of (noted k (entry Added q)).seen) p ≡ true) qs
absent_still k q [] apart one all = tt
absent_still k q (p ∷ ps) apart one all = (
  ap (λ s. is_absent s p) (state-noted k Added q) ∙ absent-after_add (state_of k.seen) q p apart.0 (λ a b. both_ways (is_route p) (one a).0 b) all.0,
  absent_still k q ps apart.1 (λ a. (one a).1) all.1,
)

-- each rule may be asked for when its turn comes
may_add_rules : (k : Standing) (qs : List Request) → Distinct qs → AllByRecursion (λ p. is_absent (state_of k.seen) p ≡ true) qs → length qs ≤ k.room.spare → AllByRecursion (λ p. is_route p ≡ false) qs → MayAddInTurn k qs
may_add_rules k [] apart all room rules = tt
may_add_rules k (req.Rule family rule ∷ qs) apart all room rules = (
  record { absent = all.0; room = omega (arith, room); ready = λ n route e. cc },
  may_add_rules (noted k (entry Added (req.Rule family rule))) qs apart.1 (absent_still k (req.Rule family rule) qs apart.0 (λ a. absurd (false≢true a)) all.1) (omega (arith, room)) rules.1,
)
may_add_rules k (req.Route n route ∷ qs) apart all room rules = absurd (false≢true (sym rules.0))

-- each addition may be asked for when its turn comes
pub may_add : (k : Standing) (qs : List Request) → Distinct qs → AllByRecursion (λ p. is_absent (state_of k.seen) p ≡ true) qs → length qs ≤ k.room.spare → ReadyFor qs k.room.ready → MayAddInTurn k qs
may_add k qs apart all room (inl rules) = may_add_rules k qs apart all room rules
may_add k qs apart all room (inr (m, a, is, ready)) = subst (MayAddInTurn k) (sym is) (alone, tt)
  where
    same_table : (n : ℕ) (route : Route) → req.Route m a ≡ req.Route n route → ◌≡◌ {A = Option ℕ} (Some m) (Some n)
    same_table n route e = cc

    alone : MayAdd k (req.Route m a)
    alone = record {
      absent = (subst (AllByRecursion (λ p. is_absent (state_of k.seen) p ≡ true)) is all).0;
      room = omega (arith, room, ap length is);
      ready = λ n route e. ready ∙ same_table n route e;
    }

present_still : (k : Standing) (q : Request) (qs : List Request) → AllByRecursion (λ p. same_request q p ≡ false) qs → AllByRecursion (Present k) qs → AllByRecursion (Present (noted k (entry Deleted q))) qs
present_still k q [] apart all = tt
present_still k q (p ∷ ps) apart all = (
  ap (λ s. is_present s p) (state-noted k Deleted q) ∙ present-after_delete (state_of k.seen) q p apart.0 all.0,
  present_still k q ps apart.1 all.1,
)

-- each deletion may be asked for when its turn comes
pub may_delete : (k : Standing) (qs : List Request) → Distinct qs → AllByRecursion (Present k) qs → length qs ≤ k.room.spare → MayDeleteInTurn k qs
may_delete k [] apart all room = tt
may_delete k (q ∷ qs) apart all room = (
  record { present = all.0; room = omega (arith, room) },
  may_delete (noted k (entry Deleted q)) qs apart.1 (present_still k q qs apart.0 all.1) (omega (arith, room)),
)

present_grown : (k : Standing) (q : Request) (ps : List Request) → AllByRecursion (Present k) ps → AllByRecursion (Present (noted k (entry Added q))) ps
present_grown k q [] all = tt
present_grown k q (p ∷ ps) all = (
  ap (λ s. is_present s p) (state-noted k Added q) ∙ present-after_add (state_of k.seen) q p all.0,
  present_grown k q ps all.1,
)

-- what is present stays so through additions
pub present_after : (k : Standing) (qs ps : List Request) → AllByRecursion (Present k) ps → AllByRecursion (Present (after k (map (entry Added) qs))) ps
present_after k [] ps all = all
present_after k (q ∷ qs) ps all = present_after (noted k (entry Added q)) qs ps (present_grown k q ps all)

-- what was added is present
pub added_present : (k : Standing) (qs : List Request) → AllByRecursion (Present (after k (map (entry Added) qs))) qs
added_present k [] = tt
added_present k (q ∷ qs) =
    let here : Present (noted k (entry Added q)) q = ap (λ s. is_present s q) (state-noted k Added q) ∙ present-of_added (state_of k.seen) q in
    ((present_after (noted k (entry Added q)) qs (q ∷ []) (here, tt)).0, added_present (noted k (entry Added q)) qs)

-- a refused request changes nothing that is present
pub present_refused : (k : Standing) (q : Request) (ps : List Request) → AllByRecursion (Present k) ps → AllByRecursion (Present (noted k (entry Refused q))) ps
present_refused k q [] all = tt
present_refused k q (p ∷ ps) all = (ap (λ s. is_present s p) (state-noted k Refused q) ∙ all.0, present_refused k q ps all.1)

pub distinct_parts : (xs ys : List Request) → Distinct (xs ++ ys) → Distinct xs × Distinct ys
distinct_parts [] ys h = (tt, h)
distinct_parts (x ∷ xs) ys h =
    let rest = distinct_parts xs ys h.1 in
    (((all-append_parts (λ p. same_request x p ≡ false) xs ys h.0).0, rest.0), rest.1)

pub distinct_take : (n : ℕ) (xs : List Request) → Distinct xs → Distinct (take n xs)
distinct_take zero xs h = tt
distinct_take (suc n) [] h = tt
distinct_take (suc n) (x ∷ xs) h = (all-take (λ p. same_request x p ≡ false) n xs h.0, distinct_take n xs h.1)

distinct_push : (xs : List Request) (q : Request) → Distinct xs → AllByRecursion (λ p. same_request p q ≡ false) xs → Distinct (xs ++ q ∷ [])
distinct_push [] q h apart = (tt, tt)
distinct_push (x ∷ xs) q h apart = (all-append (λ p. same_request x p ≡ false) xs (q ∷ []) h.0 (apart.0, tt), distinct_push xs q h.1 apart.1)

other_way : (q : Request) (xs : List Request) → AllByRecursion (λ p. same_request q p ≡ false) xs → AllByRecursion (λ p. same_request p q ≡ false) xs
other_way q [] h = tt
other_way q (x ∷ xs) h = (same_request-sym q x h.0, other_way q xs h.1)

pub distinct_reverse : (xs : List Request) → Distinct xs → Distinct (reverse xs)
distinct_reverse [] h = tt
distinct_reverse (x ∷ xs) h = rw (reverse-append (x ∷ []) xs) (distinct_push (reverse xs) x (distinct_reverse xs h.1) (all-reverse (λ p. same_request p x ≡ false) xs (other_way x xs h.0)))

module _ (plan : PlanView) (k : Standing) (may : MayCarry plan k.seen k.room) where
  apart : Distinct plan.adds × Distinct plan.deletes
  apart = distinct_parts plan.adds plan.deletes may.distinct

  pub may_make : MayAddInTurn k plan.adds
  may_make = may_add k plan.adds apart.0 may.absent (omega (arith, may.spare)) may.ready

  pub may_take : (mid : Standing) → mid ≡ after k (map (entry Added) plan.adds) → MayDeleteInTurn mid plan.deletes
  may_take mid made =
      let room = spare-after k (map (entry Added) plan.adds) (length plan.deletes) (omega (arith, may.spare, length-map plan.adds (entry Added))) in
      subst (λ v. MayDeleteInTurn v plan.deletes) (sym made) (may_delete (after k (map (entry Added) plan.adds)) plan.deletes apart.1 (present_after k plan.adds plan.deletes may.present) room)

  pub may_undo : (mid : Standing) (i : ℕ) → RefusedAt plan.adds k mid i → MayDeleteInTurn mid (reverse (take i plan.adds))
  may_undo mid i refused =
      let made = take i plan.adds in
      let before = after k (map (entry Added) made) in
      let inside = slice_get_within plan.adds i refused.request refused.next in
      let left : length made + 1 ≤ before.room.spare =
      spare-after k (map (entry Added) made) (length made + 1) (omega (arith, may.spare, inside, length-take i plan.adds, length-map made (entry Added))) in
      subst (λ v. MayDeleteInTurn v (reverse made)) (sym refused.grew)
      (may_delete (noted before (entry Refused refused.request)) (reverse made) (distinct_reverse made (distinct_take i plan.adds apart.0))
      (all-reverse (Present (noted before (entry Refused refused.request))) made (present_refused before refused.request made (added_present k made)))
      (omega (arith, left, length-reverse made)))
