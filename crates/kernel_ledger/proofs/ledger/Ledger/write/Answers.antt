use Rattle.std.proofs.Common.{sym, ◌∙◌, arith}
use Rattle.kernel_ledger.proofs.Steps.{additions_bound, deletions_bound, asked_addition, asked_deletion}
use Rattle.kernel_ledger.proofs.ledger.Ledger.write.Goals as goal

pub overflow_add-self : goal.overflow_add-self
overflow_add-self c = omega (arith, additions_bound c.args.self.now.kept, c.args.self.now.journal.ok, c.args.self.now.journal.small)

pub overflow_add-self-else-is_addition : goal.overflow_add-self-else-is_addition
overflow_add-self-else-is_addition c = omega (arith, deletions_bound c.args.self.now.kept, c.args.self.now.journal.ok, c.args.self.now.journal.small)

pub invariant_of-self-clause-kept : goal.invariant_of-self-clause-kept
invariant_of-self-clause-kept c =
    asked_addition c.args.self.now.kept c.log.new.journal.items c.args.kind c.args.request c.log.ensures.items c.requires.may c.requires.listed (sym c.is_addition.ensures ∙ c.if-is_addition.true)

pub invariant_of-self-else-is_addition-clause-kept : goal.invariant_of-self-else-is_addition-clause-kept
invariant_of-self-else-is_addition-clause-kept c =
    asked_deletion c.args.self.now.kept c.log.new.journal.items c.args.kind c.args.request c.log.ensures.items c.requires.may c.requires.listed (sym c.is_addition.ensures ∙ c.if-is_addition.false)
