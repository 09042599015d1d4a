use Rattle.std.proofs.Common.{◌≡◌, ◌∙◌, ◌+◌, ◌*◌, ℕ, true, false, length, sym, ap, ap₂, rules, arith}
use Rattle.network_store.specs.Stored.{net_of}
use Rattle.networks.specs.Kinds.{is_physical}
use Rattle.policy_state.specs.Counts.{rule_count}
use Rattle.policy_state.specs.Parts.{view_of}
use Rattle.policy_state.specs.Step.{with_net, with_permission, asking_for}
use Rattle.policy_state.specs.Tallies.{per_link}
use Rattle.policy_state.specs.View.{Network, StateView}
use Rattle.policy_state.proofs.CountsAfter.{absent, asking-physical, asking-other, rules-asking}
use Rattle.policy_state.proofs.parts.Parts.rules_asking.Goals.{After-per_link}
use Rattle.policy_state.proofs.parts.Parts.rules_asking.Goals as goal

pub returns-in_default : goal.returns-in_default
returns-in_default c =
    let s : StateView = view_of c.args.self.now in
    c.rule_count.ensures.value ∙ ap rule_count (sym (absent s c.requires.good.formed c.args.net (with_permission c.args.permission) (sym c.in_default.ensures)))

pub returns-then-not-is_physical : goal.returns-then-not-is_physical
returns-then-not-is_physical c =
    let s : StateView = view_of c.args.self.now in
    let n : Network = net_of c.in-Some.network.now in
    let other : is_physical n.kind ≡ false = search rules in
    let moved = rules-asking s c.requires.good.formed c.args.net n (sym c.in-Some.ensures) c.args.permission in
    let same : per_link (asking_for c.args.permission n.kind) ≡ per_link n.kind = ap per_link (asking-other c.args.permission n.kind other) in
    let more : per_link (asking_for c.args.permission n.kind) * length n.interfaces ≡ per_link n.kind * length n.interfaces = ap (λ m. m * length n.interfaces) same in
    omega (arith, moved, more, c.rule_count-then-not-is_physical.ensures.value)

-- what goes and what comes, in the numbers of the calls
counted : (c : After-per_link) → rule_count (with_net c.args.net (with_permission c.args.permission) (view_of c.args.self.now)) + c.per_link.result * c.len-links.result ≡ c.rule_count-2.result + c.per_link_asking.result * c.len-links.result
counted c =
    let s : StateView = view_of c.args.self.now in
    let n : Network = net_of c.in-Some.network.now in
    let physical : is_physical n.kind ≡ true = search rules in
    let moved = rules-asking s c.requires.good.formed c.args.net n (sym c.in-Some.ensures) c.args.permission in
    let old : c.per_link.result * c.len-links.result ≡ per_link n.kind * length n.interfaces = ap₂ (λ (a b : ℕ). a * b) c.per_link.ensures.value c.len-links.ensures.value in
    let new : c.per_link_asking.result * c.len-links.result ≡ per_link (asking_for c.args.permission n.kind) * length n.interfaces =
    ap₂ (λ (a b : ℕ). a * b) (c.per_link_asking.ensures.value ∙ sym (asking-physical c.args.permission n.kind physical)) c.len-links.ensures.value in
    omega (arith, moved, old, new, c.rule_count-2.ensures.value)

pub overflow_sub-result : goal.overflow_sub-result
overflow_sub-result c = let told = counted (goal.at.overflow_sub-result c).After-per_link in omega (arith, told)

pub returns : goal.returns
returns c = let told = counted (goal.at.returns c).After-per_link in omega (arith, told)
