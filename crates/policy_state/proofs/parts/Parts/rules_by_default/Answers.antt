use Rattle.std.proofs.Common.{◌≡◌, ◌+◌, ◌*◌, ℕ, length, ap, ap₂, arith}
use Rattle.policy_state.specs.Counts.{rule_count}
use Rattle.policy_state.specs.Parts.{view_of}
use Rattle.policy_state.specs.Rows.{default_among, links_of}
use Rattle.policy_state.specs.Tallies.{default_links, virtuals}
use Rattle.policy_state.specs.View.{StateView}
use Rattle.policy_state.specs.declared.count.Tallies.{Tallies}
use Rattle.policy_state.proofs.CountsAfter.{rules-by_default}
use Rattle.policy_state.proofs.parts.Parts.rules_by_default.Goals.{After-links_by-2}
use Rattle.policy_state.proofs.parts.Parts.rules_by_default.Goals as goal

-- what goes and what comes, in the numbers of the calls
counted : (c : After-links_by-2) → rule_count (record (view_of c.args.self.now) { default = c.args.default }) + (c.few_tallies-each.result.virtuals + 1) * c.links_by-2.result ≡ c.rule_count.result + (c.few_tallies-each.result.virtuals + 1) * c.links_by.result
counted c =
    let s : StateView = view_of c.args.self.now in
    let moved = rules-by_default s c.requires.good.formed c.args.default in
    let each : c.few_tallies-each.result.virtuals + 1 ≡ virtuals s.networks + 1 = ap (λ (t : Tallies). t.virtuals + 1) c.few_tallies-each.ensures.value in
    let new : (c.few_tallies-each.result.virtuals + 1) * c.links_by.result ≡ (virtuals s.networks + 1) * length (links_of (default_among s.networks c.args.default)) = ap₂ (λ (a b : ℕ). a * b) each c.links_by.ensures.value in
    let old : (c.few_tallies-each.result.virtuals + 1) * c.links_by-2.result ≡ (virtuals s.networks + 1) * default_links s = ap₂ (λ (a b : ℕ). a * b) each c.links_by-2.ensures.value in
    omega (arith, moved, old, new, c.rule_count.ensures.value)

pub overflow_sub-result : goal.overflow_sub-result
overflow_sub-result c = let told = counted (goal.at.overflow_sub-result c).After-links_by-2 in omega (arith, told)

pub returns : goal.returns
returns c = let told = counted (goal.at.returns c).After-links_by-2 in omega (arith, told)
