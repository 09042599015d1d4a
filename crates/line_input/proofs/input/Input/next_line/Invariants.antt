use Rattle.std.proofs.Common.{◌-◌}
use Rattle.line_input.specs.Looks.{held}
use Rattle.line_input.specs.Steps.{Looking}
use Rattle.line_input.proofs.input.Input.next_line.Given as goal

abbrev pub invariant-loop-self : goal.invariant-loop-self
invariant-loop-self g l =
    Looking (held l.initial.self) l.initial.self.given l.self
    (g.S.Source.seen l.initial.source)
    (g.S.Source.seen l.source)

abbrev pub decreases-loop-self : goal.decreases-loop-self
decreases-loop-self g l = 513 - l.self.length
