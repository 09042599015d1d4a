use Rattle.std.proofs.Common.{◌∙◌, length, ap, sym, arith}
use Rattle.number_runs.proofs.runs.Runs.reserve.Goals as goal

pub invariant_of-self : goal.invariant_of-self
invariant_of-self c = record {
  filled = c.make_room.ensures.keeps.filled c.self.invariant.filled;
  room = c.make_room.ensures.keeps.room c.self.inside.spare (omega arith) c.self.invariant.room;
  there = λ h. let l = c.self.invariant.there h in omega (arith, l, c.make_room.ensures.keeps.there);
  counted = c.self.invariant.counted ∙ ap length (sym c.make_room.ensures.keeps.numbers);
  bounded = c.self.invariant.bounded;
}
