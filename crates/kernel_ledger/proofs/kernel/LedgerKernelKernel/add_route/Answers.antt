use Rattle.std.proofs.Common.{sym, ap, arith}
use Rattle.kernel_model.specs.declared.request.EntryKind.TheVariants.{Added, Refused}
use Rattle.kernel_model.specs.declared.request.Request.TheVariants as req
use Rattle.kernel_model.specs.State.{KernelState, start}
use Rattle.kernel_ledger.specs.Tables.{route_total}
use Rattle.kernel_ledger.proofs.Steps.{acted, of_parts}
use Rattle.kernel_ledger.proofs.Totals.{total-replay}
use Rattle.kernel_ledger.proofs.kernel.LedgerKernelKernel.add_route.Goals as goal

pub invariant_of-self-clause-replayed : goal.invariant_of-self-clause-replayed
invariant_of-self-clause-replayed g c =
    acted c.args.self.now.ledger c.ask_addition.new.self Refused _ (req.Route c.args.table c.args.route.now) _ (rw c.in-Err.is at c.ask_addition.ensures.grown) c.args.self.now.replayed
    (ap (of_parts (g.R.RuleStore.rules c.args.self.now.rules4) (g.R.RuleStore.rules c.args.self.now.rules6)) (sym c.use_up.ensures.tables))

pub invariant_of-self-in-Ok-clause-replayed : goal.invariant_of-self-in-Ok-clause-replayed
invariant_of-self-in-Ok-clause-replayed g c =
    acted c.args.self.now.ledger c.ask_addition.new.self Added _ (req.Route c.args.table c.args.route.now) _ (rw c.in-Ok.is at c.ask_addition.ensures.grown) c.args.self.now.replayed
    (ap (of_parts (g.R.RuleStore.rules c.args.self.now.rules4) (g.R.RuleStore.rules c.args.self.now.rules6)) (sym c.add.ensures.tables))

pub add-requires-clause-total : goal.add-requires-clause-total
add-requires-clause-total g c =
    let ledger = c.args.self.now.ledger in
    let left = ap (λ (k : KernelState). route_total k.tables) c.args.self.now.replayed in
    omega (arith, left, total-replay start ledger.journal.items, ledger.journal.ok, ledger.journal.small)
