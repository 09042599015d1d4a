use Rattle.std.proofs.Common.{◌∙◌, sym}
use Rattle.rule_match.specs.Rule.{same_rule}
use Rattle.list_lemmas.proofs.Positions.{position_none}
use Rattle.sim_kernel.proofs.Places.{removed}
use Rattle.sim_kernel.proofs.lists.remove_rule.Goals as goal

pub returns-in-Some-clause-items : goal.returns-in-Some-clause-items
returns-in-Some-clause-items c =
    removed c.args.rule.now c.args.rules.now.items _ c.in-Some.place (sym (rw c.deref.ensures.value at c.find_rule.ensures) ∙ c.in-Some.is) c.requires c.remove.ensures.items

pub returns-in_default-clause-items : goal.returns-in_default-clause-items
returns-in_default-clause-items c =
    absurd (position_none (same_rule c.args.rule.now) c.args.rules.now.items (sym (rw c.deref.ensures.value at c.find_rule.ensures) ∙ c.in_default.is) c.requires)

pub returns-in_default-clause-len : goal.returns-in_default-clause-len
returns-in_default-clause-len c =
    absurd (position_none (same_rule c.args.rule.now) c.args.rules.now.items (sym (rw c.deref.ensures.value at c.find_rule.ensures) ∙ c.in_default.is) c.requires)
