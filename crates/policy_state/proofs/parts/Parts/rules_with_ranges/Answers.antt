use Rattle.std.proofs.Common.{◌∙◌, ◌+◌, ◌*◌, ℕ, sym, ap, ap₂}
use Rattle.network_store.specs.Stored.{net_of}
use Rattle.policy_state.specs.Counts.{rule_count}
use Rattle.policy_state.specs.Parts.{view_of}
use Rattle.policy_state.specs.Step.{with_ranges}
use Rattle.policy_state.specs.View.{Network, StateView}
use Rattle.policy_state.proofs.CountsAfter.{absent, rules-with_ranges}
use Rattle.policy_state.proofs.parts.Parts.rules_with_ranges.Goals as goal

pub returns-in_default : goal.returns-in_default
returns-in_default c = λ rank ranges few.
    let s : StateView = view_of c.args.self.now in
    c.rule_count.ensures.value ∙ ap rule_count (sym (absent s c.requires.good.formed c.args.net (with_ranges rank ranges) (sym c.in_default.ensures)))

pub returns : goal.returns
returns c = λ rank ranges few.
    let s : StateView = view_of c.args.self.now in
    let n : Network = net_of c.in-Some.network.now in
    ap₂ (λ (a b : ℕ). a + b) c.rule_count-2.ensures.value (ap₂ (λ (a b : ℕ). a * b) c.per_range.ensures.value (ap₂ (λ (a b : ℕ). a * b) c.len-links.ensures.value (sym few)))
    ∙ sym (rules-with_ranges s c.requires.good.formed c.args.net n (sym c.in-Some.ensures) rank ranges)
