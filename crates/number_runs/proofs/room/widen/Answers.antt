use Rattle.std.proofs.Common.{◌≡◌, ◌<◌, ◌+◌, ◌-◌, slice_get, Some, drop, set, subst, arith}
use Rattle.std.proofs.lemmas.Option.{slice_get_read}
use Rattle.number_runs.specs.Runs.{HaveRoom}
use Rattle.number_runs.specs.Kept.{Keeps}
use Rattle.number_runs.proofs.Edits.{keeps-trans, widened, room-from}
use Rattle.number_runs.proofs.room.widen.Goals.{After-reserve}
use Rattle.number_runs.proofs.room.widen.Goals as goal

pub returns-in_err-halve_long-clause-keeps : goal.returns-in_err-halve_long-clause-keeps
returns-in_err-halve_long-clause-keeps c =
    keeps-trans c.args.spare c.args.runs.now.items c.loop-at.runs.items c.halve_long.new.runs.items c.loop-at.invariant.keeps c.halve_long.ensures.keeps

-- the run that gets room
within : (c : After-reserve) → c.loop-at.at - 1 < c.halve_long.new.runs.len
within c =
    let more = c.halve_long.ensures.keeps.there in
    let old = c.loop-at.runs.ok.0 in
    let new = c.halve_long.new.runs.ok.0 in
    omega (arith, c.loop-at.invariant.within, more, old, new)

there : (c : After-reserve) → slice_get c.halve_long.new.runs.items (c.loop-at.at - 1) ≡ Some c.index_mut.result.now
there c =
    slice_get_read c.halve_long.new.runs.items c.halve_long.new.runs.len (c.loop-at.at - 1) c.index_mut.result.now c.halve_long.new.runs.ok.0 (within c) c.index_mut.ensures.value

keeps : (c : After-reserve) → Keeps c.args.spare c.args.runs.now.items (set c.halve_long.new.runs.items (c.loop-at.at - 1) c.reserve.new.self)
keeps c =
    keeps-trans c.args.spare c.args.runs.now.items c.halve_long.new.runs.items _
    (keeps-trans c.args.spare c.args.runs.now.items c.loop-at.runs.items c.halve_long.new.runs.items c.loop-at.invariant.keeps c.halve_long.ensures.keeps)
    (widened c.halve_long.new.runs.items (c.loop-at.at - 1) c.index_mut.result.now (there c) c.reserve.new.self c.args.spare c.reserve.ensures.items c.reserve.ensures.len c.reserve.ensures.capacity)

pub loop-at-preserved : goal.loop-at-preserved
loop-at-preserved c =
    let reserved = (goal.at.loop-at-preserved c).After-reserve in
    let next : c.loop-at.at ≡ c.loop-at.at - 1 + 1 = omega arith in
    record {
      keeps = keeps reserved;
      within = omega (arith, within reserved);
      room =
          room-from c.halve_long.new.runs.items (c.loop-at.at - 1) c.index_mut.result.now c.reserve.new.self c.args.spare (there reserved)
          (c.in_ok-halve_long.ensures.room (subst (λ n. HaveRoom c.args.spare (drop n c.loop-at.runs.items)) next c.loop-at.invariant.room)) c.in_ok-reserve.ensures.ok;
    }

pub returns-in_err-reserve-clause-keeps : goal.returns-in_err-reserve-clause-keeps
returns-in_err-reserve-clause-keeps c = keeps (goal.at.returns-in_err-reserve-clause-keeps c).After-reserve
