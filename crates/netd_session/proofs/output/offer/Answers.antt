use Rattle.std.proofs.Common.{◌∙◌, ℕ, List, length, take, drop, arith, ap, refl, sym, subst}
use Rattle.std.proofs.lemmas.List.{length-drop, take_rest}
use Rattle.std.proofs.Math.Seq.{take-add}
use Rattle.std.specs.Io.KnownBytes.{Appends}
use Rattle.std.proofs.KnownBytes.{Appends-trans}
use Rattle.netd_session.proofs.Tellings.{offered_in_part}
use Rattle.netd_session.specs.Telling.{taken_whole}
use Rattle.netd_session.proofs.output.offer.Goals as goal

pub loop-at-preserved : goal.loop-at-preserved
loop-at-preserved g c =
    let at = c.loop-at.at in
    let n = c.in_ok-count.count in
    let piece = c.args.piece.now in
    let step : Appends (g.W.Sink.seen c.loop-at.sink).bytes (g.W.Sink.seen c.write.new.self).bytes (take n (drop at piece)) =
    subst (λ (s : List ℕ). Appends (g.W.Sink.seen c.loop-at.sink).bytes (g.W.Sink.seen c.write.new.self).bytes (take n s)) (take_rest piece at) c.in_ok-count.ensures.bytes in
    record {
      inside = omega (arith, length-drop at piece, ap length (take_rest piece at), c.in_ok-count.ensures.bound);
      no_fault = c.in_ok-count.ensures.kept ∙ c.loop-at.invariant.no_fault;
      taken = subst (Appends (g.W.Sink.seen c.args.sink.now).bytes (g.W.Sink.seen c.write.new.self).bytes) (sym (take-add at n piece))
          (Appends-trans _ _ _ (take at piece) (take n (drop at piece)) c.loop-at.invariant.taken step);
    }

pub returns : goal.returns
returns g c = record {
  taken = c.loop-at.at;
  written = c.loop-at.invariant.taken;
  outcome = taken_whole refl (omega arith) c.loop-at.invariant.no_fault;
}

pub returns-in_err-count : goal.returns-in_err-count
returns-in_err-count g c =
    offered_in_part c.args.piece.now c.loop-at.at (g.W.Sink.seen c.args.sink.now) (g.W.Sink.seen c.loop-at.sink) (g.W.Sink.seen c.write.new.self)
    c.in_err-count.field-0.0 c.from_residual.result c.from_residual.ensures.1 c.loop-at-test.true
    c.loop-at.invariant.taken c.loop-at.invariant.no_fault c.in_err-count.ensures.bytes c.in_err-count.ensures.failed c.in_err-count.ensures.memory
