use Rattle.std.proofs.Common.{◌∙◌}
use Rattle.law_example.proofs.Histories.{rules_of-added}
use Rattle.law_example.proofs.kernel.Kernel.add.Goals as goal

pub invariant_of-self-2 : goal.invariant_of-self-2
invariant_of-self-2 c =
    rules_of-added c.reserve.new.self.items c.put_in.new.rules.items c.self.inside.journal.items c.push.new.self.items c.args.rule.now
    (c.reserve.ensures.items ∙ c.self.invariant) c.put_in.ensures c.in_ok-push.ensures.items
