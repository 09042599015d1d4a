use Rattle.std.proofs.Common.{◌∙◌, sym, ap, subst, drop, List, ℕ}
use Rattle.std.specs.List.{prefix_len}
use Rattle.number_runs.specs.Parted.{IsParted}
use Rattle.number_runs.specs.Runs.{numbers_of}
use Rattle.number_runs.proofs.Heads.{parted-left, parted-right}
use Rattle.number_runs.proofs.Flat.{skip-later, skip-here}
use Rattle.number_runs.proofs.rest.Rest.skip.Goals as goal

pub rest_of-requires-clause-parted : goal.rest_of-requires-clause-parted
rest_of-requires-clause-parted g c =
    let p = g.T.Test.passes c.args.test.now in
    parted-right p c.self.inside.run.now (numbers_of c.self.inside.later.now) (subst (λ (l : List ℕ). IsParted p l) (sym c.self.view_is) c.requires)

pub place_in-requires : goal.place_in-requires
place_in-requires g c =
    let p = g.T.Test.passes c.args.test.now in
    parted-left p c.self.inside.run.now (numbers_of c.self.inside.later.now) (subst (λ (l : List ℕ). IsParted p l) (sym c.self.view_is) c.requires)

pub returns-then-ends : goal.returns-then-ends
returns-then-ends g c =
    let p = g.T.Test.passes c.args.test.now in
    c.self-then-ends.view_is ∙ c.rest_of.ensures
    ∙ skip-later p c.self.inside.run.now (numbers_of c.self.inside.later.now) (subst (λ (l : List ℕ). IsParted p l) (sym c.self.view_is) c.requires) (sym c.if-ends.ensures)
    ∙ ap (λ (l : List ℕ). drop (prefix_len p l) l) c.self.view_is

pub returns-else-ends : goal.returns-else-ends
returns-else-ends g c =
    let p = g.T.Test.passes c.args.test.now in
    skip-here p c.self.inside.run.now (numbers_of c.self.inside.later.now) c.place_in.result (sym c.if-ends.ensures) c.place_in.ensures.place
    ∙ ap (λ (l : List ℕ). drop (prefix_len p l) l) c.self.view_is
