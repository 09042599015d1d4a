use Rattle.std.proofs.Common.{◌≡◌, ◌≤◌, ◌<◌, ◌-◌, ◌+◌, ◌∙◌, ap, sym, refl, arith, length, drop, slice_get, ℕ, List}
use Rattle.std.proofs.lemmas.Option.{slice_get_read}
use Rattle.number_runs.specs.Runs.{numbers_of}
use Rattle.number_runs.proofs.Flat.{number-here, number-later}
use Rattle.number_runs.proofs.find.number_at.Goals as goal

pub returns-then-left-len : goal.returns-then-left-len
returns-then-left-len c =
    let at = slice_get_read c.args.runs.now (length c.args.runs.now) c.loop-run.run-index c.run-item.result refl c.loop-run-test.true c.run-item.is in
    let ok = c.run-item.result.ok.0 in
    let lt : c.loop-run.left < length c.run-item.result.items = omega (arith, ok) in
    c.number_in.ensures ∙ ap (λ (l : List ℕ). slice_get l c.loop-run.left) c.deref.ensures.value
    ∙ sym (number-here c.args.runs.now c.loop-run.run-index c.run-item.result at c.loop-run.left lt)
    ∙ sym c.loop-run.invariant

pub loop-run-preserved : goal.loop-run-preserved
loop-run-preserved c =
    let at = slice_get_read c.args.runs.now (length c.args.runs.now) c.loop-run.run-index c.run-item.result refl c.loop-run-test.true c.run-item.is in
    let ok = c.run-item.result.ok.0 in
    let le : length c.run-item.result.items ≤ c.loop-run.left = omega (arith, ok) in
    let same : length c.run-item.result.items ≡ c.len-left.result = omega (arith, ok) in
    c.loop-run.invariant
    ∙ number-later c.args.runs.now c.loop-run.run-index c.run-item.result at c.loop-run.left le
    ∙ ap (λ n. slice_get (numbers_of (drop (c.loop-run.run-index + 1) c.args.runs.now)) (c.loop-run.left - n)) same
