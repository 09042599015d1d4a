use Rattle.std.proofs.Common.{◌≡◌, ◌∙◌, ap, sym, arith, List, ℕ, length, slice_get, Some}
use Rattle.std.specs.List.{prefix_len}
use Rattle.std.specs.declared.alloc.Global.{Global}
use Rattle.std.specs.declared.vec.Vec.{Vec}
use Rattle.std.proofs.lemmas.Bool.{lt-ltb, le-ltb}
use Rattle.std.proofs.lemmas.Option.{slice_get_read}
use Rattle.list_lemmas.proofs.Alls.{all-at}
use Rattle.number_runs.specs.Runs.{HasRoom, whole_runs, numbers_of}
use Rattle.number_runs.proofs.Lists.{all-set, remove-past}
use Rattle.number_runs.proofs.Flat.{run-parted, run-stops, place-here, here-short, place-within, place-past, cut-is}
use Rattle.number_runs.proofs.edit.cut.Given.{Over}
use Rattle.number_runs.proofs.edit.cut.Goals.{After-whole_runs-at, Then-at-len, After-index_mut}
use Rattle.number_runs.proofs.edit.cut.Goals as goal

whole : (g : Over) (c : After-whole_runs-at g) → c.whole_runs-at.result ≡ whole_runs (g.T.Test.passes c.args.test.now) c.args.runs.now.items
whole g c = c.whole_runs-at.ensures.count ∙ ap (λ (l : List (Vec ℕ Global)). whole_runs (g.T.Test.passes c.args.test.now) l) c.deref.ensures.value

-- where all runs pass
past : (g : Over) (c : Then-at-len g) → c.whole_runs-at.result ≡ whole_runs (g.T.Test.passes c.args.test.now) c.args.runs.now.items
    → prefix_len (g.T.Test.passes c.args.test.now) (numbers_of c.args.runs.now.items) ≡ length (numbers_of c.args.runs.now.items)
past g c n =
    let ok = c.args.runs.now.ok.0 in
    place-past (g.T.Test.passes c.args.test.now) c.args.runs.now.items c.requires.parted (omega (arith, n, ok))

-- the run that the number goes from
there : (g : Over) (c : After-index_mut g) → slice_get c.args.runs.now.items c.whole_runs-at.result ≡ Some c.index_mut.result.now
there g c =
    let ok = c.args.runs.now.ok.0 in
    let l = ap length c.deref.ensures.value in
    slice_get_read c.args.runs.now.items c.args.runs.now.len c.whole_runs-at.result c.index_mut.result.now c.args.runs.now.ok.0 (omega (arith, ok, l)) c.index_mut.ensures.value

pub returns-then-at-len-clause-found : goal.returns-then-at-len-clause-found
returns-then-at-len-clause-found g c =
    let all = past g c (whole g (goal.at.returns-then-at-len-clause-found g c).After-whole_runs-at) in
    sym (le-ltb _ _ (omega (arith, all)))

pub returns-then-at-len-clause-numbers : goal.returns-then-at-len-clause-numbers
returns-then-at-len-clause-numbers g c =
    let all = past g c (whole g (goal.at.returns-then-at-len-clause-numbers g c).After-whole_runs-at) in
    sym (remove-past (numbers_of c.args.runs.now.items) (prefix_len (g.T.Test.passes c.args.test.now) (numbers_of c.args.runs.now.items)) (omega (arith, all)))

pub cut_in-requires-clause-parted : goal.cut_in-requires-clause-parted
cut_in-requires-clause-parted g c =
    run-parted (g.T.Test.passes c.args.test.now) c.args.runs.now.items c.requires.parted c.whole_runs-at.result c.index_mut.result.now (there g c)

pub cut_in-requires-clause-there : goal.cut_in-requires-clause-there
cut_in-requires-clause-there g c =
    run-stops (g.T.Test.passes c.args.test.now) c.args.runs.now.items c.requires.parted c.whole_runs-at.result c.index_mut.result.now (there g c)
    (whole g (goal.at.cut_in-requires-clause-there g c).After-whole_runs-at)

pub returns-clause-found : goal.returns-clause-found
returns-clause-found g c =
    let p = g.T.Test.passes c.args.test.now in
    let runs = c.args.runs.now.items in
    let at = there g (goal.at.returns-clause-found g c).After-index_mut in
    let n = whole g (goal.at.returns-clause-found g c).After-whole_runs-at in
    sym (lt-ltb _ _ (place-within p runs c.requires.parted c.whole_runs-at.result c.index_mut.result.now at
    (place-here p runs c.requires.parted c.whole_runs-at.result c.index_mut.result.now at n) (here-short p runs c.requires.parted c.whole_runs-at.result c.index_mut.result.now at n)))

pub returns-clause-numbers : goal.returns-clause-numbers
returns-clause-numbers g c =
    let p = g.T.Test.passes c.args.test.now in
    let runs = c.args.runs.now.items in
    let at = there g (goal.at.returns-clause-numbers g c).After-index_mut in
    let n = whole g (goal.at.returns-clause-numbers g c).After-whole_runs-at in
    c.close_up.ensures.numbers
    ∙ cut-is p runs c.requires.parted c.whole_runs-at.result c.index_mut.result.now at
    (place-here p runs c.requires.parted c.whole_runs-at.result c.index_mut.result.now at n) (here-short p runs c.requires.parted c.whole_runs-at.result c.index_mut.result.now at n)
    c.cut_in.new.run c.cut_in.ensures.items

pub returns-clause-room : goal.returns-clause-room
returns-clause-room g c = λ spare h.
    let at = there g (goal.at.returns-clause-room g c).After-index_mut in
    let own : HasRoom spare c.index_mut.result.now = all-at (HasRoom spare) c.args.runs.now.items c.whole_runs-at.result c.index_mut.result.now h at in
    c.close_up.ensures.room spare (all-set (HasRoom spare) c.args.runs.now.items c.whole_runs-at.result c.cut_in.new.run h (omega (arith, own)))
