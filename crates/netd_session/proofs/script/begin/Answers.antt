use Rattle.std.proofs.Common.{◌≡◌, ◌∙◌, List, [], None, refl, subst, ap}
use Rattle.kernel_model.specs.View.{KernelView}
use Rattle.mark_server.specs.Sockets.{Sockets}
use Rattle.net_control.specs.View.{ControllerView}
use Rattle.netd_session.specs.Ends.{HasBegun}
use Rattle.netd_session.specs.EndedView.{EndedView}
use Rattle.netd_session.specs.Stops.{End}
use Rattle.netd_session.specs.declared.turn.Turn.{Turn}
use Rattle.netd_session.specs.Turns.{Standing, standing}
use Rattle.netd_session.specs.declared.watch.Watch.{Watch}
use Rattle.std.specs.Prelude.{Option}
use Rattle.netd_session.proofs.Starting.{no_room, start_failed, with_end}
use Rattle.netd_session.proofs.script.begin.Goals as goal

pub returns-in_default : goal.returns-in_default
returns-in_default g c = with_end c.of.ensures (no_room _ _ _ c.requires.not_ended c.new.ensures.items refl)

pub returns-in-Err : goal.returns-in-Err
returns-in-Err g c = with_end c.of-in-Err.ensures (start_failed _ _ _ c.in-Err.fault c.tell_start.result _ c.requires.not_ended c.new-in-Err.ensures.items c.in-Err.ensures.answer c.in-Err.ensures.moments c.tell_start.ensures)

-- where a session stands that has no socket and no watch
just_begun : (controller same : ControllerView) (kernel : KernelView) (sockets : Sockets) (watch : Option Watch) → same ≡ controller → sockets ≡ [] → watch ≡ None
    → standing controller kernel [] None ≡ standing same kernel sockets watch
just_begun controller same kernel sockets watch is none unwatched = rw (is, none, unwatched) refl

abbrev ended_of : End → List Turn → EndedView
ended_of end turns = record { result = end; turns = turns }

pub returns-in-Ok-start : goal.returns-in-Ok-start
returns-in-Ok-start g c =
    let before = g.K.Kernel.seen c.args.kernel.now in
    let kernel = g.K.Kernel.seen c.start.new.kernel in
    let talk = c.new-talk.result in
    let begun : HasBegun before (standing c.in-Ok-start.controller kernel [] None) = record {
      started = c.in-Ok-start.ensures.answer;
      moments = c.in-Ok-start.ensures.moments;
      sends = c.in-Ok-start.ensures.sends;
      no_socket = refl;
      no_watch = refl;
    } in
    with_end (c.of-in-Ok-start.ensures ∙ ap (ended_of c.answer_lines-end.result) c.into_turns.ensures) (c.answer_lines-end.ensures before
    (subst (λ (s : Standing). HasBegun before s)
    (just_begun c.in-Ok-start.controller talk.controller kernel talk.sockets talk.watch c.new-talk.ensures.controller c.new-talk.ensures.sockets c.new-talk.ensures.watch) begun))
