use Rattle.std.proofs.Common.{◌≡◌, ◌+◌, ◌-◌, ◌∙◌, length, ap, subst, arith}
use Rattle.std.specs.List.{prefix_len}
use Rattle.std.proofs.lemmas.List.Edits.{length-insert}
use Rattle.std.proofs.lemmas.List.Sums.{prefix_len-le-length}
use Rattle.number_runs.specs.Runs.{RunsView, numbers_of, HaveRoom}
use Rattle.number_runs.proofs.runs.Runs.put.Goals as goal

pub invariant_of-self : goal.invariant_of-self
invariant_of-self g c =
    let p = g.T.Test.passes c.args.test.now in
    let numbers = numbers_of c.self.inside.runs.items in
    let room = ap (λ (v : RunsView). v.room) c.self.view_is in
    let less : c.self.inside.spare ≡ c.self.inside.spare - 1 + 1 = omega (arith, room, c.requires.room) in
    let n = ap length c.put.ensures.numbers ∙ length-insert numbers (prefix_len p numbers) c.args.number (prefix_len-le-length p numbers) in
    record {
      filled = c.put.ensures.filled;
      room = c.put.ensures.room (c.self.inside.spare - 1) (subst (λ s. HaveRoom s c.self.inside.runs.items) less c.self.invariant.room);
      there = λ h. let l = c.self.invariant.there (omega arith) in let a = c.self.inside.runs.ok.0 in let b = c.put.new.runs.ok.0 in omega (arith, l, a, b, c.put.ensures.len);
      counted = omega (arith, n, c.self.invariant.counted);
      bounded = omega (arith, less, c.self.invariant.bounded);
    }
