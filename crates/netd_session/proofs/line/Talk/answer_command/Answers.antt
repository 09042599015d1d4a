use Rattle.std.proofs.Common.{◌∙◌, ℕ, List, [], ◌∷◌, ◌++◌, ap, refl}
use Rattle.turn_text.specs.Texts.{answer_text, numbered}
use Rattle.netd_session.specs.Watches.{requests_text}
use Rattle.netd_session.specs.declared.turn.Said.TheVariants as said
use Rattle.netd_session.specs.declared.turn.Turn.{Turn}
use Rattle.netd_session.proofs.line.Talk.answer_command.Goals as goal

pub returns-clause-answers : goal.returns-clause-answers
returns-clause-answers g c =
    let turn : ℕ → Turn = λ (end : ℕ). record { line = c.args.number; said = said.Answered c.in_ok-answer.answer; journal_end = end } in (
      turn c.entry_count.result ∷ [],
      c.put_turn.ensures ∙ ap (λ (xs : List Turn). xs ++ turn c.entry_count.result ∷ []) c.make_room.ensures.turns,
      record {
        a = c.in_ok-answer.answer;
        answered = c.in_ok-answer.ensures.answer;
        turns_are = ap (λ (end : ℕ). turn end ∷ []) c.entry_count.ensures;
        packet = c.watched_packet-packet.result;
        watched = c.watched_packet-packet.ensures;
        text = c.put_answer.ensures
            ∙ ap (λ (xs : List ℕ). xs ++ numbered c.args.number (answer_text c.in_ok-answer.answer))
            (c.in_ok-answer.ensures.text
            ∙ ap (λ (xs : List ℕ). xs ++ requests_text c.args.number c.apply_watched.new.controller.state c.watched_packet-packet.result (g.K.Kernel.seen c.args.kernel.now) (g.K.Kernel.seen c.apply_watched.new.kernel))
            (c.make_room.ensures.answer ∙ c.requires.empty));
        sockets_stay = refl;
        watch_stays = refl;
        caused = c.in_ok-answer.ensures.caused;
        bounded = c.in_ok-answer.ensures.bounded;
        formed = c.in_ok-answer.ensures.formed;
        moments = c.in_ok-answer.ensures.moments;
        locked = c.in_ok-answer.ensures.locked;
        once = c.in_ok-answer.ensures.once;
        as_before = c.in_ok-answer.ensures.as_before;
      },
    )
