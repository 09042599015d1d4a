use Rattle.std.proofs.Common.{◌≡◌, ◌∙◌, ◌+◌, ap, subst, arith, drop, length, add-one}
use Rattle.std.proofs.lemmas.Option.{slice_get_read}
use Rattle.std.proofs.lemmas.Bool.Decides.{nat_tests}
use Rattle.number_runs.specs.Runs.{numbers_of, AllFilled, IsFilled}
use Rattle.number_runs.proofs.Edits.{close-numbers, filled-join}
use Rattle.number_runs.proofs.edit.close_up.Goals.{else-at-gt0-via-then-at-gt0+else-is_empty, else-at-gt0-via-else-at-gt0}
use Rattle.number_runs.proofs.edit.close_up.Goals as goal

pub returns-then-is_empty-clause-numbers : goal.returns-then-is_empty-clause-numbers
returns-then-is_empty-clause-numbers c =
    let at = slice_get_read c.args.runs.now.items c.args.runs.now.len c.args.at c.index.result.now c.args.runs.now.ok.0 c.requires.there c.index.ensures in
    let none : length c.index.result.now.items ≡ 0 = let ok = c.index.result.now.ok.0 in let e = c.is_empty.ensures in grind (arith, nat_tests) in
    ap numbers_of c.remove.ensures.items ∙ close-numbers c.args.runs.now.items c.args.at c.index.result.now at none

pub returns-else-at-gt0-clause-filled : goal.returns-else-at-gt0-clause-filled
returns-else-at-gt0-clause-filled c = elim c.else-at-gt0.branch [
  | else-at-gt0-via-then-at-gt0+else-is_empty w ↦
      let at = slice_get_read c.args.runs.now.items c.args.runs.now.len c.args.at w.index.result.now c.args.runs.now.ok.0 c.requires.there w.index.ensures in
      let some : IsFilled w.index.result.now = let ok = w.index.result.now.ok.0 in let e = w.is_empty.ensures in grind (arith, nat_tests) in
      filled-join c.args.runs.now.items c.args.at w.index.result.now at c.requires.front some (rw add-one at c.requires.back)
  | else-at-gt0-via-else-at-gt0 w ↦
      let e : c.args.at + 1 ≡ 1 = omega arith in
      subst (λ n. AllFilled (drop n c.args.runs.now.items)) e c.requires.back
]
