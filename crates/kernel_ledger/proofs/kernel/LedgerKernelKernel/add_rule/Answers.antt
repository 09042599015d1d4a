use Rattle.std.proofs.Common.{rules, refl, arith}
use Rattle.kernel_model.specs.declared.request.EntryKind.TheVariants.{Added, Refused}
use Rattle.kernel_model.specs.declared.request.Request.TheVariants as req
use Rattle.kernel_ledger.proofs.Steps.{acted, acted_in4, acted_in6}
use Rattle.kernel_ledger.proofs.kernel.LedgerKernelKernel.add_rule.Goals as goal

pub invariant_of-self : goal.invariant_of-self
invariant_of-self g c = record {
  replayed =
      acted c.args.self.now.ledger c.ask_addition.new.self Refused _ (req.Rule c.args.family c.args.rule.now) _
      (rw c.in_err-ask_addition.was at c.ask_addition.ensures.grown) c.args.self.now.replayed refl;
  rules4_room = omega (arith, c.args.self.now.rules4_room, c.ask_addition.ensures.spare);
  rules6_room = omega (arith, c.args.self.now.rules6_room, c.ask_addition.ensures.spare);
  keeps_lists = search rules;
}

pub invariant_of-self-in-V4-clause-replayed : goal.invariant_of-self-in-V4-clause-replayed
invariant_of-self-in-V4-clause-replayed g c =
    acted_in4 c.args.self.now.ledger c.ask_addition.new.self Added _ c.args.family c.args.rule.now _
    (rw c.in_ok-ask_addition.was at c.ask_addition.ensures.grown) c.args.self.now.replayed c.in-V4.is c.put.ensures.rules refl

pub invariant_of-self-in-V6-clause-replayed : goal.invariant_of-self-in-V6-clause-replayed
invariant_of-self-in-V6-clause-replayed g c =
    acted_in6 c.args.self.now.ledger c.ask_addition.new.self Added _ c.args.family c.args.rule.now _
    (rw c.in_ok-ask_addition.was at c.ask_addition.ensures.grown) c.args.self.now.replayed c.in-V6.is c.put-in-V6.ensures.rules refl
