use Rattle.std.proofs.Common.{◌≡◌, ◌+◌, ◌∙◌, ℕ, ap, arith, List, slice_get, Some}
use Rattle.std.specs.declared.vec.Vec.{Vec}
use Rattle.std.specs.declared.alloc.Global.{Global}
use Rattle.std.proofs.lemmas.Option.{slice_get_read}
use Rattle.list_lemmas.proofs.Alls.{all-at, all-weaker}
use Rattle.number_runs.specs.Runs.{HasRoom, whole_runs}
use Rattle.number_runs.proofs.Lists.{all-set}
use Rattle.number_runs.proofs.Flat.{run-parted, put-place, put-is}
use Rattle.number_runs.proofs.edit.put.Given.{Over}
use Rattle.number_runs.proofs.edit.put.Goals.{After-index_mut}
use Rattle.number_runs.proofs.edit.put.Goals as goal

-- the run that the number comes to
there : (g : Over) (c : After-index_mut g) → slice_get c.args.runs.now.items c.min-at.result ≡ Some c.index_mut.result.now
there g c = slice_get_read c.args.runs.now.items c.args.runs.now.len c.min-at.result c.index_mut.result.now c.args.runs.now.ok.0 (omega arith) c.index_mut.ensures.value

pub put_in-requires-clause-parted : goal.put_in-requires-clause-parted
put_in-requires-clause-parted g c =
    run-parted (g.T.Test.passes c.args.test.now) c.args.runs.now.items c.requires.parted c.min-at.result c.index_mut.result.now (there g c)

pub returns-clause-numbers : goal.returns-clause-numbers
returns-clause-numbers g c =
    let p = g.T.Test.passes c.args.test.now in
    let runs = c.args.runs.now.items in
    let at = there g (goal.at.returns-clause-numbers g c).After-index_mut in
    let n : c.whole_runs.result ≡ whole_runs p runs = c.whole_runs.ensures.count ∙ ap (λ (l : List (Vec ℕ Global)). whole_runs p l) c.deref.ensures.value in
    put-is p runs c.requires.parted c.min-at.result c.index_mut.result.now at
    (put-place p runs c.requires.parted c.min-at.result c.whole_runs.result c.index_mut.result.now at n (let ok = c.args.runs.now.ok.0 in omega (arith, ok)))
    c.put_in.new.run c.args.number c.put_in.ensures.items

pub returns-clause-room : goal.returns-clause-room
returns-clause-room g c = λ spare h.
    let at = there g (goal.at.returns-clause-room g c).After-index_mut in
    let own : HasRoom (spare + 1) c.index_mut.result.now = all-at (HasRoom (spare + 1)) c.args.runs.now.items c.min-at.result c.index_mut.result.now h at in
    all-set (HasRoom spare) c.args.runs.now.items c.min-at.result c.put_in.new.run
    (all-weaker (HasRoom (spare + 1)) (HasRoom spare) (λ r l. omega (arith, l)) c.args.runs.now.items h) (omega (arith, own))
