use Rattle.std.proofs.Common.{drop, length-drop, arith}
use Rattle.addr_text.proofs.Runs.{longest_run-within, zeros_of-drop}
use Rattle.addr_text.proofs.run.longest_run.Goals as goal

pub overflow_add-zeros : goal.overflow_add-zeros
overflow_add-zeros c =
    let few = zeros_of-drop c.args.groups.now c.loop-start.start in omega (arith, c.loop-start.invariant.0)

pub returns-clause-within : goal.returns-clause-within
returns-clause-within c =
    let inside = longest_run-within (drop c.loop-start.start c.args.groups.now) in
    omega (arith, inside, c.loop-start.invariant.1, c.loop-start.invariant.2, length-drop c.loop-start.start c.args.groups.now)
