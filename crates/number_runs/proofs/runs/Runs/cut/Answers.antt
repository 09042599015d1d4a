use Rattle.std.proofs.Common.{◌∙◌, length, ap, sym, arith}
use Rattle.std.specs.List.{prefix_len}
use Rattle.std.proofs.lemmas.Bool.{ltb-true, ltb-false}
use Rattle.std.proofs.lemmas.List.Edits.{length-remove}
use Rattle.number_runs.specs.Runs.{numbers_of}
use Rattle.number_runs.proofs.Lists.{remove-past}
use Rattle.number_runs.proofs.runs.Runs.cut.Goals as goal

pub invariant_of-self : goal.invariant_of-self
invariant_of-self g c =
    let p = g.T.Test.passes c.args.test.now in
    let numbers = numbers_of c.self.inside.runs.items in
    let within = ltb-true _ _ (sym c.if-cut.ensures.found) in
    let n = length-remove numbers (prefix_len p numbers) within in
    let m = ap length c.cut.ensures.numbers in
    record {
      filled = c.cut.ensures.filled;
      room = c.cut.ensures.room c.self.inside.spare c.self.invariant.room;
      there = λ h. let l = c.self.invariant.there h in let a = c.self.inside.runs.ok.0 in let b = c.cut.new.runs.ok.0 in let k = c.cut.ensures.there (omega (arith, l, a)) in omega (arith, k, b);
      counted = omega (arith, n, m, c.self.invariant.counted);
      bounded = omega (arith, c.self.invariant.bounded);
    }

pub invariant_of-self-else-cut : goal.invariant_of-self-else-cut
invariant_of-self-else-cut g c =
    let p = g.T.Test.passes c.args.test.now in
    let numbers = numbers_of c.self.inside.runs.items in
    let past = ltb-false _ _ (sym c.if-cut.ensures.found) in
    let m = ap length (c.cut.ensures.numbers ∙ remove-past numbers (prefix_len p numbers) past) in
    record {
      filled = c.cut.ensures.filled;
      room = c.cut.ensures.room c.self.inside.spare c.self.invariant.room;
      there = λ h. let l = c.self.invariant.there h in let a = c.self.inside.runs.ok.0 in let b = c.cut.new.runs.ok.0 in let k = c.cut.ensures.there (omega (arith, l, a)) in omega (arith, k, b);
      counted = omega (arith, m, c.self.invariant.counted);
      bounded = c.self.invariant.bounded;
    }
