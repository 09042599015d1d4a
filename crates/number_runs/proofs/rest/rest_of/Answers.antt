use Rattle.std.proofs.Common.{◌∙◌, ap, sym, List, ℕ}
use Rattle.std.specs.List.{prefix_len}
use Rattle.number_runs.proofs.Flat.{parted-at, rest-at, rest-none}
use Rattle.number_runs.proofs.rest.rest_of.Goals as goal

pub place_in-requires : goal.place_in-requires
place_in-requires g c =
    parted-at (g.T.Test.passes c.args.test.now) c.args.runs.now c.requires.parted c.whole_runs-at.result c.in-Some.run'.now c.in-Some.later.now c.in-Some.ensures.cases.0 c.deref-in-Some.result.now c.deref-in-Some.ensures.value

pub returns-in-Some : goal.returns-in-Some
returns-in-Some g c =
    rest-at (g.T.Test.passes c.args.test.now) c.args.runs.now c.requires.parted c.whole_runs-at.result c.whole_runs-at.ensures.count c.in-Some.run'.now c.in-Some.later.now c.in-Some.ensures.cases.0 c.deref.result.now c.place_in.result
    c.deref.ensures.value
    (c.place_in.ensures.place ∙ ap (λ (l : List ℕ). prefix_len (g.T.Test.passes c.args.test.now) l) (c.deref-in-Some.ensures.value ∙ sym c.deref.ensures.value))

pub returns-in-None : goal.returns-in-None
returns-in-None g c = rest-none (g.T.Test.passes c.args.test.now) c.args.runs.now c.requires.parted c.whole_runs-at.result c.whole_runs-at.ensures.count c.in-None.ensures.cases
