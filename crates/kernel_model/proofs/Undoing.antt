-- Additions that are undone leave the very kernel from before.
use Rattle.std.proofs.Common.{◌≡◌, Bool, true, false, List, [], ◌∷◌, ◌++◌, map, reverse, cond, nat_le, refl, sym, ◌∙◌, ap, append_assoc}
use Rattle.std.specs.List.{AllByRecursion}
use Rattle.std.proofs.lemmas.Bool.{or_parts, and_parts, not-true, false≢true}
use Rattle.std.proofs.lemmas.List.{map-append, reverse-append}
use Rattle.prefixes.specs.declared.addr.Family.TheVariants as family
use Rattle.rule_law.specs.Rules.{has, placed, without}
use Rattle.rule_match.specs.Rule.{same_rule}
use Rattle.rule_match.specs.declared.rule.Rule.{Rule}
use Rattle.rule_match.proofs.Sames.{same_rule-refl}
use Rattle.rule_kinds.specs.Kind.{rule_kind}
use Rattle.kernel_model.specs.State.{KernelState, add, delete, is_absent, is_route, with_rules}
use Rattle.kernel_model.specs.Journal.{entry, replay_from, well_asked}
use Rattle.kernel_model.specs.declared.request.Request.{Request}
use Rattle.kernel_model.specs.declared.request.Request.TheVariants as req
use Rattle.kernel_model.specs.declared.request.EntryKind.TheVariants.{Added, Deleted, Refused}
use Rattle.kernel_model.proofs.Replays.{replay_from-append, well_asked-append}

without-placed : (r : Rule) (xs : List Rule) → has rule_kind xs r ≡ false → without rule_kind r (placed rule_kind r xs) ≡ xs
without-placed r [] h = rw (same_rule-refl r) refl
without-placed r (x ∷ xs) h =
    let parts = or_parts (same_rule r x) (has rule_kind xs r) h in
    step (nat_le x.priority r.priority) parts.0 (without-placed r xs parts.1)
  where
    step : (b : Bool) → same_rule r x ≡ false → without rule_kind r (placed rule_kind r xs) ≡ xs
        → without rule_kind r (cond b (x ∷ placed rule_kind r xs) (r ∷ x ∷ xs)) ≡ x ∷ xs
    step true other rest = rw other (ap (λ l. x ∷ l) rest)
    step false other rest = rw (same_rule-refl r) refl

-- a rule that was absent is added and deleted again
pub delete-add : (k : KernelState) (q : Request) → is_route q ≡ false → is_absent k q ≡ true → delete (add k q) q ≡ k
delete-add k (req.Rule family.V4 rule) kind absent = ap (with_rules k family.V4) (without-placed rule k.rules4 (not-true _ absent))
delete-add k (req.Rule family.V6 rule) kind absent = ap (with_rules k family.V6) (without-placed rule k.rules6 (not-true _ absent))
delete-add k (req.Route n route) kind absent = absurd (false≢true (sym kind))

pub replay-undone : (k : KernelState) (qs : List Request) (r : Request) → AllByRecursion (λ q. is_route q ≡ false) qs
    → well_asked k (map (entry Added) qs ++ entry Refused r ∷ map (entry Deleted) (reverse qs)) ≡ true → replay_from k (map (entry Added) qs ++ entry Refused r ∷ map (entry Deleted) (reverse qs)) ≡ k
replay-undone k [] r rules asked = refl
replay-undone k (q ∷ qs) r rules asked =
    let inner = map (entry Added) qs ++ entry Refused r ∷ map (entry Deleted) (reverse qs) in
    let last = entry Deleted q ∷ [] in
    let is : map (entry Added) qs ++ entry Refused r ∷ map (entry Deleted) (reverse (q ∷ qs)) ≡ inner ++ last =
    ap (λ l. map (entry Added) qs ++ entry Refused r ∷ map (entry Deleted) l) (reverse-append (q ∷ []) qs)
    ∙ ap (λ l. map (entry Added) qs ++ entry Refused r ∷ l) (map-append (entry Deleted) (reverse qs) (q ∷ []))
    ∙ sym (append_assoc (map (entry Added) qs) (entry Refused r ∷ map (entry Deleted) (reverse qs)) last) in
    let first = and_parts (is_absent k q) _ asked in
    let rest = and_parts (well_asked (add k q) inner) _ (sym (well_asked-append (add k q) inner last) ∙ ap (well_asked (add k q)) (sym is) ∙ first.1) in
    ap (replay_from (add k q)) is ∙ replay_from-append (add k q) inner last ∙ ap (λ s. delete s q) (replay-undone (add k q) qs r rules.1 rest.0) ∙ delete-add k q rules.0 first.0
