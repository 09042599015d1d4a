-- A rule taken out where a search has found it.
use Rattle.std.proofs.Common.{◌≡◌, ℕ, List, Some, true, sym, ◌∙◌, ap}
use Rattle.std.specs.List.{position, remove}
use Rattle.list_lemmas.proofs.Positions.{position-within, position_found}
use Rattle.rule_law.specs.Rules.{has, without}
use Rattle.rule_law.proofs.Places.{without-remove}
use Rattle.rule_match.specs.Rule.{same_rule}
use Rattle.rule_match.specs.declared.rule.Rule.{Rule}
use Rattle.kernel_model.specs.Kind.{rule_kind}

pub removed : (r : Rule) (xs ys : List Rule) (i : ℕ) → position (same_rule r) xs ≡ Some i → has rule_kind xs r ≡ true → ys ≡ remove xs i → ys ≡ without rule_kind r xs
removed r xs ys i found there is =
    is ∙ ap (λ n. remove xs n) (position_found (same_rule r) xs i found) ∙ sym (without-remove rule_kind r xs (position-within (same_rule r) xs there))
