-- A walk and a trail, from one rule that matches to the next.
use Rattle.std.proofs.Common.{◌≡◌, ℕ, zero, suc, ◌+◌, ◌<◌, ◌≤◌, Bool, true, false, cond, List, [], ◌∷◌, ◌++◌, length, drop, refl, sym, ◌∙◌, ap, arith, Option, Some, None, append_assoc}
use Rattle.std.proofs.lemmas.List.{append-nil, drop-drop, length-drop}
use Rattle.std.proofs.lemmas.Option.{none-some, same_Some}
use Rattle.prefixes.specs.Addr.{family_of}
use Rattle.rule_match.specs.Rule.{matches}
use Rattle.rule_match.specs.declared.packet.Packet.{Packet}
use Rattle.rule_match.specs.declared.rule.Rule.{Rule}
use Rattle.rule_match.specs.declared.verdict.Verdict.{Verdict}
use Rattle.rule_match.specs.declared.verdict.Verdict.TheVariants as verdict
use Rattle.kernel_model.specs.State.{KernelState, NumberedTable, rules_of}
use Rattle.kernel_model.specs.Walk.{gives, rule_gives, walk, walk_rules, trail_of, trail_rules, step_of}
use Rattle.kernel_model.specs.Next.{first_match, next_match}
use Rattle.kernel_model.specs.declared.found.FoundRule.{FoundRule}
use Rattle.kernel_model.specs.declared.step.Step.{Step}

-- a rule with its place
abbrev pub found_at : ℕ → Rule → FoundRule
found_at place rule = record { place = place; rule = rule }

module _ (tables : List NumberedTable) (p : Packet) where
  abbrev trail : List Rule → List Step
  trail rs = trail_rules tables p rs

  abbrev goes : List Rule → Verdict
  goes rs = walk_rules tables p rs

  -- the k-th of the rules, the first of which has this place, is the first that matches
  record IsFirstMatch (rs : List Rule) (place : ℕ) (f : FoundRule) : Type 0 where
    k : ℕ
    is : f.place ≡ place + k
    within : k < length rs
    decides : (v : Verdict) → gives tables f.rule.action p ≡ Some v → (trail rs ≡ step_of f.rule ∷ []) × (goes rs ≡ v)
    goes_on : gives tables f.rule.action p ≡ None → (trail rs ≡ step_of f.rule ∷ trail (drop (suc k) rs)) × (goes rs ≡ goes (drop (suc k) rs))

  -- what a walk gives by its first rule
  by_first : (x : Rule) (rs : List Rule) (o : Option Verdict) → rule_gives tables p x ≡ o → goes (x ∷ rs) ≡ elim o [ Some v ↦ v | None ↦ goes rs ]
  by_first x rs o e = ap (λ (q : Option Verdict). elim q as (λ _. Verdict) [ Some v ↦ v | None ↦ goes rs ]) e

  passed : (x : Rule) (rs : List Rule) → matches x p ≡ false → (trail (x ∷ rs) ≡ trail rs) × (goes (x ∷ rs) ≡ goes rs)
  passed x rs miss = (rw miss refl, by_first x rs None (rw miss refl))

  given_by : (x : Rule) → matches x p ≡ true → rule_gives tables p x ≡ gives tables x.action p
  given_by x hit = rw hit refl

  found : (rs : List Rule) (place : ℕ) (f : FoundRule) → first_match p place rs ≡ Some f → IsFirstMatch rs place f
  found [] place f h = absurd (none-some f h)
  found (x ∷ rs) place f h = go (found rs (place + 1) f) (matches x p) refl h
    where
      go : (first_match p (place + 1) rs ≡ Some f → IsFirstMatch rs (place + 1) f) → (b : Bool) → matches x p ≡ b → cond b (Some (found_at place x)) (first_match p (place + 1) rs) ≡ Some f → IsFirstMatch (x ∷ rs) place f
      go ih true hit h =
          let same = same_Some (found_at place x) f h in
          let is : x ≡ f.rule = ap (λ (q : FoundRule). q.rule) same in
          let at : place ≡ f.place = ap (λ (q : FoundRule). q.place) same in
          record {
            k = 0;
            is = omega (arith, at);
            within = omega arith;
            decides = λ v e.
                let g : gives tables x.action p ≡ Some v = ap (λ (y : Rule). gives tables y.action p) is ∙ e in
                (rw (hit, g) (ap (λ (y : Rule). step_of y ∷ []) is), by_first x rs (Some v) (given_by x hit ∙ g));
            goes_on = λ e.
                let g : gives tables x.action p ≡ None = ap (λ (y : Rule). gives tables y.action p) is ∙ e in
                (rw (hit, g) (ap (λ (y : Rule). step_of y ∷ trail rs) is), by_first x rs None (given_by x hit ∙ g));
          }
      go ih false miss h =
          let rest = ih h in
          let step = passed x rs miss in
          let w = rest.within in
          let e : f.place ≡ place + suc rest.k = omega (arith, rest.is) in
          record {
            k = suc rest.k;
            is = e;
            within = omega (arith, w);
            decides = λ v g. let d = rest.decides v g in (step.0 ∙ d.0, step.1 ∙ d.1);
            goes_on = λ g. let d = rest.goes_on g in (step.0 ∙ d.0, step.1 ∙ d.1);
          }

  found_none : (rs : List Rule) (place : ℕ) → first_match p place rs ≡ None → (trail rs ≡ []) × (goes rs ≡ verdict.Unreachable)
  found_none [] place h = (refl, refl)
  found_none (x ∷ rs) place h = go (found_none rs (place + 1)) (matches x p) refl h
    where
      go : (first_match p (place + 1) rs ≡ None → (trail rs ≡ []) × (goes rs ≡ verdict.Unreachable)) → (b : Bool) → matches x p ≡ b → cond b (Some (found_at place x)) (first_match p (place + 1) rs) ≡ None
          → (trail (x ∷ rs) ≡ []) × (goes (x ∷ rs) ≡ verdict.Unreachable)
      go ih true hit h = absurd (none-some (found_at place x) (sym h))
      go ih false miss h = let step = passed x rs miss in let rest = ih h in (step.0 ∙ rest.0, step.1 ∙ rest.1)

module _ (k : KernelState) (p : Packet) where
  abbrev rules : List Rule
  rules = rules_of k (family_of p.dest)

  -- the steps so far, and what the rules from a place on tell, are what all of them tell
  pub record IsTold (steps : List Step) (from : ℕ) : Type 0 where
    pub steps_told : steps ++ trail_rules k.tables p (drop from (rules_of k (family_of p.dest))) ≡ trail_of k p
    pub verdict_told : walk_rules k.tables p (drop from (rules_of k (family_of p.dest))) ≡ walk k p

  pub told_start : IsTold [] 0
  told_start = record { steps_told = refl; verdict_told = refl }

  module _ (steps : List Step) (from : ℕ) (told : IsTold steps from) where
    pub told_none : next_match rules p from ≡ None → (steps ≡ trail_of k p) × (verdict.Unreachable ≡ walk k p)
    told_none h =
        let n = found_none k.tables p (drop from rules) from h in (
          sym (append-nil steps) ∙ ap (λ l. steps ++ l) (sym n.0) ∙ told.steps_told,
          sym n.1 ∙ told.verdict_told,
        )

    pub told_end : length rules ≤ from → (steps ≡ trail_of k p) × (verdict.Unreachable ≡ walk k p)
    told_end h = told_none (ap (first_match p from) (past rules from h))
      where
        past : (rs : List Rule) (n : ℕ) → length rs ≤ n → drop n rs ≡ []
        past [] zero h = refl
        past [] (suc n) h = refl
        past (x ∷ rs) zero h = absurd (omega arith)
        past (x ∷ rs) (suc n) h = past rs n (omega arith)

    module _ (f : FoundRule) (h : next_match rules p from ≡ Some f) where
      next : IsFirstMatch k.tables p (drop from rules) from f
      next = found k.tables p (drop from rules) from f h

      pub told_decides : (v : Verdict) → gives k.tables f.rule.action p ≡ Some v → (steps ++ step_of f.rule ∷ [] ≡ trail_of k p) × (v ≡ walk k p)
      told_decides v e =
          let d = next.decides v e in
          (ap (λ l. steps ++ l) (sym d.0) ∙ told.steps_told, sym d.1 ∙ told.verdict_told)

      rest_after : drop (suc next.k) (drop from rules) ≡ drop (f.place + 1) rules
      rest_after = let i = next.is in let e : from + suc next.k ≡ f.place + 1 = omega (arith, i) in drop-drop (suc next.k) from rules ∙ ap (λ m. drop m rules) e

      pub told_goes_on : gives k.tables f.rule.action p ≡ None → IsTold (steps ++ step_of f.rule ∷ []) (f.place + 1)
      told_goes_on e =
          let d = next.goes_on e in
          record {
            steps_told =
                append_assoc steps (step_of f.rule ∷ []) (trail_rules k.tables p (drop (f.place + 1) rules))
                ∙ ap (λ l. steps ++ step_of f.rule ∷ trail_rules k.tables p l) (sym rest_after) ∙ ap (λ l. steps ++ l) (sym d.0) ∙ told.steps_told;
            verdict_told = ap (walk_rules k.tables p) (sym rest_after) ∙ sym d.1 ∙ told.verdict_told;
          }

      pub told_within : (from ≤ f.place) × (f.place < length rules)
      told_within =
          let i = next.is in let w = next.within in let l = length-drop from rules in
          (omega (arith, i), omega (arith, i, w, l))
