use Rattle.std.proofs.Common.{◌≡◌, ◌∙◌, ◌+◌, ◌*◌, ℕ, true, false, length, sym, ap, ap₂, rules, arith}
use Rattle.std.specs.Prelude.{◌&&◌, if◌then◌else◌}
use Rattle.network_store.specs.Stored.{net_of}
use Rattle.networks.specs.Kinds.{is_physical, ranges_of}
use Rattle.networks.specs.Network.{has_link}
use Rattle.policy_state.specs.Counts.{rule_count}
use Rattle.policy_state.specs.Parts.{view_of}
use Rattle.policy_state.specs.Rows.{is_default}
use Rattle.policy_state.specs.Step.{with_net, with_link}
use Rattle.policy_state.specs.Tallies.{per_link, per_range, virtuals}
use Rattle.policy_state.specs.View.{Network, StateView}
use Rattle.policy_state.specs.declared.count.Tallies.{Tallies}
use Rattle.policy_state.proofs.CountsAfter.{absent, here, rules-with_link}
use Rattle.policy_state.proofs.Members.{find-none}
use Rattle.policy_state.proofs.parts.Parts.rules_with_link.Goals as goal

pub returns-in_default : goal.returns-in_default
returns-in_default c = λ link free.
    let s : StateView = view_of c.args.self.now in
    c.rule_count.ensures.value ∙ ap rule_count (sym (absent s c.requires.good.formed c.args.net (with_link link) (sym c.in_default.ensures)))

pub returns-then-is_default : goal.returns-then-is_default
returns-then-is_default c = λ link free.
    let s : StateView = view_of c.args.self.now in
    let n : Network = net_of c.in-Some.network.now in
    let lacks : has_link n link ≡ false = find-none (λ (m : Network). has_link m link) s.networks n free (here s c.requires.good.formed c.args.net n (sym c.in-Some.ensures)) in
    let it : (is_default s.default c.args.net && is_physical n.kind) ≡ true = search rules in
    let is : rule_count (with_net c.args.net (with_link link) s) ≡ rule_count s + (per_link n.kind + per_range n.kind * length (ranges_of n.kind)) + (virtuals s.networks + 1) =
    rules-with_link s c.requires.good.formed c.args.net n (sym c.in-Some.ensures) link lacks
    ∙ ap (λ b. rule_count s + (per_link n.kind + per_range n.kind * length (ranges_of n.kind)) + (if b then virtuals s.networks + 1 else 0)) it in
    let range : c.per_range.result * length c.ranges-2.result.now ≡ per_range n.kind * length (ranges_of n.kind) = ap₂ (λ (a b : ℕ). a * b) c.per_range.ensures.value (ap length c.ranges-2.ensures) in
    let vpns : c.few_tallies.result.virtuals ≡ virtuals s.networks = ap (λ (t : Tallies). t.virtuals) c.few_tallies.ensures.value in
    omega (arith, is, range, vpns, c.rule_count-2.ensures.value, c.per_link.ensures.value)

pub returns-else-is_default : goal.returns-else-is_default
returns-else-is_default c = λ link free.
    let s : StateView = view_of c.args.self.now in
    let n : Network = net_of c.in-Some.network.now in
    let lacks : has_link n link ≡ false = find-none (λ (m : Network). has_link m link) s.networks n free (here s c.requires.good.formed c.args.net n (sym c.in-Some.ensures)) in
    let it : (is_default s.default c.args.net && is_physical n.kind) ≡ false = search rules in
    let is : rule_count (with_net c.args.net (with_link link) s) ≡ rule_count s + (per_link n.kind + per_range n.kind * length (ranges_of n.kind)) + 0 =
    rules-with_link s c.requires.good.formed c.args.net n (sym c.in-Some.ensures) link lacks
    ∙ ap (λ b. rule_count s + (per_link n.kind + per_range n.kind * length (ranges_of n.kind)) + (if b then virtuals s.networks + 1 else 0)) it in
    let range : c.per_range.result * length c.ranges-2.result.now ≡ per_range n.kind * length (ranges_of n.kind) = ap₂ (λ (a b : ℕ). a * b) c.per_range.ensures.value (ap length c.ranges-2.ensures) in
    omega (arith, is, range, c.rule_count-2.ensures.value, c.per_link.ensures.value)
