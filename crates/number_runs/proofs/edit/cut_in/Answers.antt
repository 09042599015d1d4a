use Rattle.std.proofs.Common.{◌∙◌, ap, arith, List, ℕ}
use Rattle.std.specs.List.{prefix_len}
use Rattle.number_runs.proofs.Heads.{ends-short}
use Rattle.number_runs.proofs.edit.cut_in.Goals as goal

pub remove-requires : goal.remove-requires
remove-requires g c =
    let p = g.T.Test.passes c.args.test.now in
    let short = ends-short p c.args.run.now.items c.requires.there in
    let place = c.place_in-place.ensures.place ∙ ap (λ (l : List ℕ). prefix_len p l) c.deref.ensures.value in
    let ok = c.args.run.now.ok.0 in
    omega (arith, short, place, ok)
