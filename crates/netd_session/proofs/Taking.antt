-- What taking a line does, where no answer is offered.
use Rattle.std.proofs.Common.{◌≡◌, ◌∙◌, ℕ, List, [], ◌∷◌, ◌++◌, Result, Ok, Err, OnOk, OnErr, inl, inr, refl, sym, ap, subst}
use Rattle.std.proofs.lemmas.List.{append-nil}
use Rattle.std.specs.declared.alloc.AllocError.{AllocError}
use Rattle.kernel_model.specs.View.{state_of}
use Rattle.kernel_model.specs.Walk.{trail_of}
use Rattle.policy_meaning.specs.Policy.{policy}
use Rattle.rule_match.specs.declared.packet.Packet.{Packet}
use Rattle.script_reader.specs.BadLines.{IsBadAt}
use Rattle.script_reader.specs.Lines.{Spells}
use Rattle.script_reader.specs.declared.line.Line.{Line}
use Rattle.net_control.specs.Moments.{SendsByPolicy}
use Rattle.net_control.specs.View.{IsKept}
use Rattle.net_io.specs.Streams.{SinkView}
use Rattle.net_names.specs.declared.code.Code.{Code}
use Rattle.turn_text.specs.Texts.{bad_text, numbered, refused_text}
use Rattle.turn_text.specs.declared.answer.Answer.TheVariants as answer
use Rattle.netd_session.specs.Answers.{IsAnsweredLine, IsTraced, went_text}
use Rattle.netd_session.specs.Lines.{Answers, Takes, halt_of, says_answer, says_bad}
use Rattle.netd_session.specs.Stops.{End}
use Rattle.netd_session.specs.Telling.{MakesAndTells, Tells}
use Rattle.netd_session.specs.Told.{IsRefused, IsTold}
use Rattle.netd_session.specs.Turns.{Standing, turn_of}
use Rattle.netd_session.specs.declared.end.Stop.TheVariants as stop
use Rattle.netd_session.specs.declared.turn.Said.{Said}
use Rattle.netd_session.specs.declared.turn.Said.TheVariants as said
use Rattle.netd_session.specs.declared.turn.Turn.{Turn}

-- memory ran out before anything changed
pub left_line : (result : End) (text : List ℕ) (n : ℕ) (s e : Standing) (turns after : List Turn) (sink : SinkView) → result ≡ Err stop.Memory → e ≡ s → after ≡ turns
    → Takes result text n s e turns after sink sink
left_line result text n s e turns after sink is same kept = inr record { no_memory = is; stays = same; no_turn = kept; untold = refl }

-- the same text
pub with_text : {result : End} {text same : List ℕ} {n : ℕ} {s e : Standing} {turns after : List Turn} {old new : SinkView}
    → text ≡ same → Takes result text n s e turns after old new → Takes result same n s e turns after old new
with_text {result} {text} {same} {n} {s} {e} {turns} {after} {old} {new} is takes = subst (λ (t : List ℕ). Takes result t n s e turns after old new) is takes

-- a line was told, after which the session stands like `next`; or memory ran out
pub told_then : (l : Line) (result : Result (Unit {0}) AllocError) (what : Said) (text : List ℕ) (n : ℕ) (s next e : Standing) (turns after : List Turn) (out : List ℕ)
    → ((more : List Turn) → IsTold what text n next e more out → IsAnsweredLine l n s e more out)
    → OnOk result (e ≡ next) → OnErr result (e ≡ s)
    → OnOk result (after ≡ turns ++ turn_of n what next ∷ []) → OnOk result (out ≡ numbered n text) → OnErr result (after ≡ turns)
    → Answers result l n s e turns after out
told_then l (Ok u) what text n s next e turns after out as_line stands same grew says kept = (
  turn_of n what next ∷ [],
  grew,
  as_line (turn_of n what next ∷ []) (stands, ap (λ (x : Standing). turn_of n what x ∷ []) (sym stands), says),
)
told_then l (Err f) what text n s next e turns after out as_line stands same grew says kept = (same, kept)

-- where it holds, it holds where it went well and where it did not
pub on_ok : {P : Type 0} (result : Result (Unit {0}) AllocError) → P → OnOk result P
on_ok (Ok u) holds = holds
on_ok (Err f) holds = tt

pub on_err : {P : Type 0} (result : Result (Unit {0}) AllocError) → P → OnErr result P
on_err (Ok u) holds = tt
on_err (Err f) holds = holds

-- a line that changes nothing was told, or memory ran out
pub told : (l : Line) (result : Result (Unit {0}) AllocError) (what : Said) (text : List ℕ) (n : ℕ) (s e : Standing) (turns after : List Turn) (out : List ℕ)
    → ((more : List Turn) → IsTold what text n s e more out → IsAnsweredLine l n s e more out) → e ≡ s
    → OnOk result (after ≡ turns ++ turn_of n what s ∷ []) → OnOk result (out ≡ numbered n text) → OnErr result (after ≡ turns)
    → Answers result l n s e turns after out
told l result what text n s e turns after out as_line same grew says kept =
    told_then l result what text n s s e turns after out as_line (on_ok result same) (on_err result same) grew says kept

-- a packet's line was answered, or memory ran out
pub packet_told : (l : Line) (result : Result (Unit {0}) AllocError) (packet : Packet) (n : ℕ) (s e : Standing) (turns after : List Turn) (out : List ℕ)
    → ((more : List Turn) → IsTraced packet n s e more out → IsAnsweredLine l n s e more out) → e ≡ s
    → OnOk result (after ≡ turns ++ turn_of n (said.Went packet.mark (policy s.controller.state packet)) s ∷ [])
    → OnOk result (out ≡ numbered n (went_text s.controller.state packet.mark (policy s.controller.state packet) (trail_of (state_of s.kernel) packet)))
    → OnErr result (after ≡ turns) → Answers result l n s e turns after out
packet_told l result packet n s e turns after out as_line same grew says kept =
    told l result (said.Went packet.mark (policy s.controller.state packet))
    (went_text s.controller.state packet.mark (policy s.controller.state packet) (trail_of (state_of s.kernel) packet)) n s e turns after out
    as_line same grew says kept

-- a line was refused, or memory ran out
pub refused : (l : Line) (result : Result (Unit {0}) AllocError) (c : Code) (n : ℕ) (s e : Standing) (turns after : List Turn) (out : List ℕ)
    → ((more : List Turn) → IsRefused c n s e more out → IsAnsweredLine l n s e more out) → e ≡ s
    → OnOk result (after ≡ turns ++ turn_of n (said.Answered (answer.Refused c)) s ∷ [])
    → OnOk result (out ≡ numbered n (refused_text c)) → OnErr result (after ≡ turns) → Answers result l n s e turns after out
refused l result c n s e turns after out as_line same grew says kept =
    told l result (said.Answered (answer.Refused c)) (refused_text c) n s e turns after out as_line same grew says kept

-- a line was answered, and the answer was told, or a prefix of it
pub answered_line : (result : End) (text : List ℕ) (l : Line) (n : ℕ) (s e : Standing) (turns after : List Turn) (out : List ℕ) (old new : SinkView)
    → Spells text l → Answers (Ok tt) l n s e turns after out → IsKept e.controller e.kernel → SendsByPolicy e.controller e.kernel
    → Tells out (halt_of e.controller) result old new → Takes result text n s e turns after old new
answered_line result text l n s e turns after out old new spelled (more, grew, is) kept sends told = inl record {
  more = more;
  turns_grew = grew;
  out = out;
  whole = halt_of e.controller;
  said = says_answer (record { line = l; spelled = spelled; answered = is; kept = kept; sends = sends }) refl;
  told = told;
}

-- a bad line was told, or a prefix of what is said of it; or memory ran out before
pub bad_line : (result : End) (text : List ℕ) (n : ℕ) (s e : Standing) (turns after : List Turn) (column : ℕ) (old new : SinkView)
    → IsBadAt text column → ((line : Line) → Spells text line → ⊥) → e ≡ s → after ≡ turns
    → MakesAndTells (numbered n (bad_text column)) (Err stop.BadLine) result old new → Takes result text n s e turns after old new
bad_line result text n s e turns after column old new place none same kept (inl told) = inl record {
  more = [];
  turns_grew = kept ∙ sym (append-nil turns);
  out = numbered n (bad_text column);
  whole = Err stop.BadLine;
  said = says_bad (record { column = column; place = place; no_line = none; stays = same; no_turn = refl; says = refl }) refl;
  told = told;
}
bad_line result text n s e turns after column old new place none same kept (inr (is, stays)) = inr record { no_memory = is; stays = same; no_turn = kept; untold = stays }
