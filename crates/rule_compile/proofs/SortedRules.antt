-- A stable sort by priority puts rules in order.
use Rattle.std.proofs.Common.{◌≡◌, ◌∙◌, ℕ, zero, suc, ◌+◌, ◌<◌, ◌≤◌, List, [], ◌∷◌, length, get_or, nat_cmp, refl, sym, ap, subst, inl, inr, arith, suc-le-suc, zero-le}
use Rattle.std.specs.List.Sorted.{IsNonDecreasingBy, IsStableByKey}
use Rattle.rule_kinds.specs.Kind.{rule_kind}
use Rattle.rule_law.specs.Rules.{NoneBelow, Rises}
use Rattle.rule_match.specs.declared.rule.Rule.{Rule}
use Rattle.policy_state.specs.Rows.{numbers_from}
use Rattle.policy_state.specs.Table.{put, in_order}
use Rattle.policy_state.proofs.InOrder.{order-by_level}
use Rattle.policy_state.proofs.Owners.{Has}
use Rattle.rule_compile.proofs.Cutting.{put-first}
use Rattle.rule_compile.proofs.StableKeys.{same-keyed}

abbrev pub priority_of : Rule → ℕ
priority_of r = r.priority

none-below : (n : ℕ) (d : Rule) (rules : List Rule) → ((j : ℕ) → j < length rules → n ≤ priority_of (get_or rules j d)) → NoneBelow rule_kind n rules
none-below n d [] h = tt
none-below n d (r ∷ rules) h = (h zero (suc-le-suc zero-le), none-below n d rules (λ j lt. h (suc j) (suc-le-suc lt)))

rises : (rules : List Rule) → IsNonDecreasingBy priority_of rules → Rises rule_kind rules
rises [] h = tt
rises (r ∷ rules) h = (
  none-below (priority_of r) r rules (λ j lt. h zero (suc j) r zero-le (suc-le-suc lt)),
  rises rules (λ i j d le lt. h (suc i) (suc j) d (suc-le-suc le) (suc-le-suc lt)),
)

-- rules that rise are in order
in_order-rising : (rules : List Rule) → Rises rule_kind rules → in_order rule_kind rules ≡ rules
in_order-rising [] h = refl
in_order-rising (r ∷ rules) h = ap (λ qs. put rule_kind r qs) (in_order-rising rules h.1) ∙ put-first rule_kind r rules h.0

-- a number above all priorities
above : List Rule → ℕ
above [] = 0
above (r ∷ rules) = suc (priority_of r + above rules)

is-above : (rules : List Rule) (r : Rule) → Has rules r → priority_of r < above rules
unfolding above
is-above [] r there = absurd there
is-above (q ∷ rules) r (inl e) = subst (λ (x : Rule). priority_of x < suc (priority_of q + above rules)) e (omega arith)
is-above (q ∷ rules) r (inr there) = let rest : priority_of r < above rules = is-above rules r there in omega (arith, rest)

pub sorted-in_order : (xs ys : List Rule) → IsNonDecreasingBy priority_of ys → IsStableByKey priority_of nat_cmp xs ys → ys ≡ in_order rule_kind xs
sorted-in_order xs ys sorted stable =
    let most : ℕ = above xs + above ys in
    sym (in_order-rising ys (rises ys sorted))
    ∙ (order-by_level rule_kind 0 most ys (λ r there. let low : priority_of r < above ys = is-above ys r there in (zero-le, omega (arith, low)))
    ∙ (same-keyed priority_of xs ys stable (numbers_from 0 most)
    ∙ sym (order-by_level rule_kind 0 most xs (λ r there. let low : priority_of r < above xs = is-above xs r there in (zero-le, omega (arith, low))))))
