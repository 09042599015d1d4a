use Rattle.std.proofs.Common.{◌≡◌, ◌+◌, ◌∙◌, ℕ, List, length, take, slice_get, ap, subst, sym, arith}
use Rattle.std.specs.declared.alloc.Global.{Global}
use Rattle.std.specs.declared.vec.Vec.{Vec}
use Rattle.std.specs.List.{prefix_len}
use Rattle.std.proofs.lemmas.List.Sums.{prefix_len-le-length}
use Rattle.number_runs.specs.Parted.{IsParted}
use Rattle.number_runs.specs.Runs.{RunsView, numbers_of, whole_runs, place_at}
use Rattle.number_runs.proofs.Flat.{counted-place}
use Rattle.number_runs.proofs.runs.Runs.place_of.Given.{Over}
use Rattle.number_runs.proofs.runs.Runs.place_of.Goals.{After-place_at}
use Rattle.number_runs.proofs.runs.Runs.place_of.Goals as goal

-- the numbers of the runs before, and those in the run
together : (g : Over) (c : After-place_at g) → c.count_of.result + c.place_at.result ≡ prefix_len (g.T.Test.passes c.args.test.now) (numbers_of c.self.inside.runs.items)
together g c =
    let p = g.T.Test.passes c.args.test.now in
    let is = c.whole_runs-run.ensures.count ∙ ap (λ (l : List (Vec ℕ Global)). whole_runs p l) c.deref.ensures.value in
    let parted = subst (λ (v : RunsView). IsParted p v.numbers) (sym c.self.view_is) c.requires in
    let a = c.count_of.ensures ∙ ap (λ (l : List (Vec ℕ Global)). length (numbers_of (take c.whole_runs-run.result l))) c.deref-2.ensures.value in
    let b = c.place_at.ensures ∙ ap (λ (l : List (Vec ℕ Global)). place_at p (slice_get l c.whole_runs-run.result)) c.deref-3.ensures.value in
    (λ i. a i + b i) ∙ sym (counted-place p c.self.inside.runs.items parted c.whole_runs-run.result is)

pub overflow_add-result : goal.overflow_add-result
overflow_add-result g c =
    let all = together g (goal.at.overflow_add-result g c).After-place_at in
    let within = prefix_len-le-length (g.T.Test.passes c.args.test.now) (numbers_of c.self.inside.runs.items) in
    omega (arith, all, within, c.self.invariant.counted, c.self.invariant.bounded)

pub returns : goal.returns
returns g c =
    together g (goal.at.returns g c).After-place_at
    ∙ ap (λ (v : RunsView). prefix_len (g.T.Test.passes c.args.test.now) v.numbers) c.self.view_is
