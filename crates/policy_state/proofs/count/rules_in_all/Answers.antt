use Rattle.std.proofs.Common.{◌≤◌, ◌+◌, ◌*◌, arith}
use Rattle.policy_state.proofs.count.rules_in_all.Goals as goal

pub overflow_add-result : goal.overflow_add-result
overflow_add-result c =
    let few : c.args.own + (c.args.virtuals + 1) * c.args.links + c.args.lockdown + c.args.pairs + 2 ≤ 40000 = c.requires.few_rules in
    omega (arith, few)
