use Rattle.std.proofs.Common.{arith}
use Rattle.kernel_ledger.proofs.Steps.{additions_bound, deletions_bound}
use Rattle.kernel_ledger.proofs.ledger.Ledger.fails_next.Goals as goal

pub overflow_add-self : goal.overflow_add-self
overflow_add-self c = omega (arith, additions_bound c.args.self.now.kept, c.args.self.now.journal.ok, c.args.self.now.journal.small)

pub overflow_add-self-else-addition : goal.overflow_add-self-else-addition
overflow_add-self-else-addition c = omega (arith, deletions_bound c.args.self.now.kept, c.args.self.now.journal.ok, c.args.self.now.journal.small)
