use Rattle.std.proofs.Common.{rules, sym, ap, refl, arith}
use Rattle.kernel_model.specs.declared.request.EntryKind.TheVariants.{Deleted, Broken}
use Rattle.kernel_model.specs.declared.request.Request.TheVariants as req
use Rattle.kernel_ledger.proofs.Steps.{acted, of_parts}
use Rattle.kernel_ledger.proofs.kernel.LedgerKernelKernel.delete_route.Goals as goal

pub invariant_of-self : goal.invariant_of-self
invariant_of-self g c = record {
  replayed =
      acted c.args.self.now.ledger c.ask_deletion.new.self Broken _ (req.Route c.args.table c.args.route.now) _
      (rw c.in_err-ask_deletion.was at c.ask_deletion.ensures.grown) c.args.self.now.replayed refl;
  rules4_room = omega (arith, c.args.self.now.rules4_room, c.ask_deletion.ensures.spare);
  rules6_room = omega (arith, c.args.self.now.rules6_room, c.ask_deletion.ensures.spare);
  keeps_lists = search rules;
}

pub invariant_of-self-2-clause-replayed : goal.invariant_of-self-2-clause-replayed
invariant_of-self-2-clause-replayed g c =
    acted c.args.self.now.ledger c.ask_deletion.new.self Deleted _ (req.Route c.args.table c.args.route.now) _
    (rw c.in_ok-ask_deletion.was at c.ask_deletion.ensures.grown) c.args.self.now.replayed
    (ap (of_parts (g.R.RuleStore.rules c.args.self.now.rules4) (g.R.RuleStore.rules c.args.self.now.rules6)) (sym c.delete.ensures.tables))
