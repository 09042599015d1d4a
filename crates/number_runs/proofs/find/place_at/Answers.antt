use Rattle.std.proofs.Common.{length, refl, subst, sym, List, ℕ}
use Rattle.std.proofs.lemmas.Option.{slice_get_read}
use Rattle.number_runs.specs.Parted.{IsParted}
use Rattle.number_runs.proofs.Flat.{run-parted}
use Rattle.number_runs.proofs.find.place_at.Goals as goal

pub place_in-requires : goal.place_in-requires
place_in-requires g c =
    let at = slice_get_read c.args.runs.now (length c.args.runs.now) c.args.run c.index-runs-run.result refl c.if-run-runs.true c.index-runs-run.is in
    subst (λ (l : List ℕ). IsParted (g.T.Test.passes c.args.test.now) l) (sym c.deref.ensures.value)
    (run-parted (g.T.Test.passes c.args.test.now) c.args.runs.now c.requires c.args.run c.index-runs-run.result at)
