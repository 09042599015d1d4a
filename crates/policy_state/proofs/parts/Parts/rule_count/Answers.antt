use Rattle.std.proofs.Common.{◌≡◌, ◌∙◌, ◌≤◌, ℕ, length, sym, subst, rules}
use Rattle.policy_state.specs.Parts.{view_of}
use Rattle.policy_state.specs.View.{StateView}
use Rattle.policy_state.proofs.CountsAfter.{rules-from}
use Rattle.policy_state.proofs.parts.Parts.rule_count.Goals as goal

pub rules_in_all-requires-clause-few_rules : goal.rules_in_all-requires-clause-few_rules
rules_in_all-requires-clause-few_rules c =
    let s : StateView = view_of c.args.self.now in
    let ranges : c.len.result ≡ length s.lockdown = search rules in
    let pairs : c.len-2.result ≡ length s.pairs = search rules in
    let is = rules-from s c.requires.good.formed c.few_tallies-tallies.result c.links_by.result c.len.result c.len-2.result c.few_tallies-tallies.ensures.value c.links_by.ensures.value ranges pairs in
    subst (λ (n : ℕ). n ≤ 40000) (sym is) c.requires.good.few_rules

pub returns-clause-value : goal.returns-clause-value
returns-clause-value c =
    let s : StateView = view_of c.args.self.now in
    let ranges : c.len.result ≡ length s.lockdown = search rules in
    let pairs : c.len-2.result ≡ length s.pairs = search rules in
    c.rules_in_all.ensures ∙ rules-from s c.requires.good.formed c.few_tallies-tallies.result c.links_by.result c.len.result c.len-2.result c.few_tallies-tallies.ensures.value c.links_by.ensures.value ranges pairs

pub returns-clause-few : goal.returns-clause-few
returns-clause-few c =
    let s : StateView = view_of c.args.self.now in
    let ranges : c.len.result ≡ length s.lockdown = search rules in
    let pairs : c.len-2.result ≡ length s.pairs = search rules in
    let is = rules-from s c.requires.good.formed c.few_tallies-tallies.result c.links_by.result c.len.result c.len-2.result c.few_tallies-tallies.ensures.value c.links_by.ensures.value ranges pairs in
    subst (λ (n : ℕ). n ≤ 40000) (sym (c.rules_in_all.ensures ∙ is)) c.requires.good.few_rules
