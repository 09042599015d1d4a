use Rattle.law_example.proofs.Histories.{rules_of-deleted}
use Rattle.law_example.proofs.kernel.Kernel.delete.Goals as goal

pub invariant_of-self-2 : goal.invariant_of-self-2
invariant_of-self-2 c =
    rules_of-deleted c.self.inside.rules.items c.take_out.new.rules.items c.self.inside.journal.items c.push.new.self.items c.args.rule.now
    c.self.invariant c.take_out.ensures c.in_ok-push.ensures.items
