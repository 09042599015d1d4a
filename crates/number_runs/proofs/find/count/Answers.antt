use Rattle.std.proofs.Common.{◌+◌, refl, arith, length}
use Rattle.std.proofs.lemmas.Option.{slice_get_read}
use Rattle.number_runs.proofs.Flat.{count-more, count-within}
use Rattle.number_runs.proofs.find.count.Goals as goal

pub overflow_add-count : goal.overflow_add-count
overflow_add-count c =
    let at = slice_get_read c.args.runs.now (length c.args.runs.now) c.loop-run.run-index c.run-item.result refl c.loop-run-test.true c.run-item.is in
    let more = count-more c.args.runs.now c.loop-run.run-index c.run-item.result at in
    let within = count-within (c.loop-run.run-index + 1) c.args.runs.now in
    let ok = c.run-item.result.ok.0 in
    omega (arith, more, within, ok)

pub loop-run-preserved : goal.loop-run-preserved
loop-run-preserved c =
    let at = slice_get_read c.args.runs.now (length c.args.runs.now) c.loop-run.run-index c.run-item.result refl c.loop-run-test.true c.run-item.is in
    let more = count-more c.args.runs.now c.loop-run.run-index c.run-item.result at in
    let ok = c.run-item.result.ok.0 in
    omega (arith, more, ok)
