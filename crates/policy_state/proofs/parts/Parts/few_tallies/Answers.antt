use Rattle.std.proofs.Common.{◌≤◌, sym, subst}
use Rattle.policy_state.specs.Parts.{view_of}
use Rattle.policy_state.specs.declared.count.Tallies.{Tallies}
use Rattle.policy_state.proofs.CountsAfter.{own-few, virtuals-few}
use Rattle.policy_state.proofs.parts.Parts.few_tallies.Goals as goal

pub returns-clause-few_rules : goal.returns-clause-few_rules
returns-clause-few_rules c = subst (λ (t : Tallies). t.own ≤ 40000) (sym c.requires.tallied) (own-few (view_of c.args.self.now) c.requires.good.formed c.requires.good.few_rules)

pub returns-clause-few : goal.returns-clause-few
returns-clause-few c = subst (λ (t : Tallies). t.virtuals ≤ 1000) (sym c.requires.tallied) (virtuals-few (view_of c.args.self.now) c.requires.good.formed)
