-- A session goes over its lines one by one, and what it says of each is what is said of a line.
use Rattle.std.proofs.Common.{◌≡◌, ◌∷◌, ℕ, ◌+◌, ◌<◌, ◌≤◌, List, [], ◌++◌, length, Option, None, Some, inl, inr, refl, sym, ap₂, subst, arith}
use Rattle.line_input.specs.Lines.{line_limit}
use Rattle.net_io.specs.Streams.{SinkView}
use Rattle.netd_session.proofs.Passing.{IsByLine, WentOn, long_column}
use Rattle.netd_session.proofs.Tellings.{EndsLine}
use Rattle.netd_session.specs.Ends.{HasBegun, HasEnded, HasRun, IsSession, at_input, at_line, before_line}
use Rattle.netd_session.specs.Lines.{IsBad, IsSaid, Ran, Takes, halt, no_line, one_more, says_answer, says_bad}
use Rattle.netd_session.specs.Passes.{IsPass, Pass, PassEnds, Passed, TakesOne, at_one, before_one, passed_more, passed_none, with_input}
use Rattle.netd_session.specs.Stops.{End, goes_on}
use Rattle.netd_session.specs.Turns.{Standing}
use Rattle.netd_session.specs.World.{World, streams_of}
use Rattle.netd_session.specs.declared.turn.Turn.{Turn}

-- where a session stands, with its turns so far
pub record Stood : Type 0 where
  pub standing : Standing
  pub turns : List Turn

abbrev pub stood : Standing → List Turn → Stood
stood s turns = record { standing = s; turns = turns }

abbrev pub answering : Pass
answering = record {
  Stand = Stood;
  Says = λ text n s e out whole. (more : List Turn) × (e.turns ≡ s.turns ++ more) × IsSaid text n s.standing e.standing more out whole;
}

-- a controller after which it goes on runs
runs_on : (h : Option ℕ) → goes_on ≡ halt h → h ≡ None
runs_on None is = refl
runs_on (Some request) is = absurd cc

said_runs : (text : List ℕ) (n : ℕ) (s e : Standing) (more : List Turn) (out : List ℕ) → IsSaid text n s e more out goes_on → e.controller.halted ≡ None
said_runs text n s e more out (says_bad bad is) = absurd cc
said_runs text n s e more out (says_answer goes is) = runs_on e.controller.halted is

-- a text that is too long is bad whatever follows it, at the same column
long_bad : (text full : List ℕ) (n : ℕ) (s e : Standing) (more : List Turn) (out : List ℕ) → line_limit < length text → line_limit < length full
    → IsBad text n s e more out → IsBad full n s e more out
long_bad text full n s e more out long full_long bad = record {
  column = bad.column;
  place = inl (full_long, long_column text bad.column long bad.place);
  no_line = λ line spelled. absurd (let short = spelled.is_text.short in omega (arith, short));
  stays = bad.stays;
  no_turn = bad.no_turn;
  says = bad.says;
}

-- what is said of a line goes on, or ends as a line does
pub said_ends : (text : List ℕ) (n : ℕ) (s e : Standing) (more : List Turn) (out : List ℕ) (whole : End) → IsSaid text n s e more out whole → EndsLine whole
said_ends text n s e more out whole (says_bad bad is) = inr (inl is)
said_ends text n s e more out whole (says_answer goes is) = by e.controller.halted is
  where
    by : (h : Option ℕ) → whole ≡ halt h → EndsLine whole
    by None goes_on_is = inl goes_on_is
    by (Some request) halts = inr (inr halts)

pub answering_laws : IsByLine answering
answering_laws = record {
  ends = λ text n s e out whole said. said_ends text n s.standing e.standing said.0 out whole said.2;
  short = λ text n s e out whole said on. short text n s.standing e.standing said.0 out whole said.2 on;
  long = λ text full n s e out whole far full_far said. (said.0, said.1, long text full n s.standing e.standing said.0 out whole far full_far said.2);
}
  where
    short : (text : List ℕ) (n : ℕ) (s e : Standing) (more : List Turn) (out : List ℕ) (whole : End) → IsSaid text n s e more out whole → whole ≡ goes_on → length text ≤ line_limit
    short text n s e more out whole (says_bad bad is) on = absurd cc
    short text n s e more out whole (says_answer goes is) on = goes.spelled.is_text.short

    long : (text full : List ℕ) (n : ℕ) (s e : Standing) (more : List Turn) (out : List ℕ) (whole : End) → line_limit < length text → line_limit < length full
        → IsSaid text n s e more out whole → IsSaid full n s e more out whole
    long text full n s e more out whole far full_far (says_bad bad is) = says_bad (long_bad text full n s e more out far full_far bad) is
    long text full n s e more out whole far full_far (says_answer goes is) = absurd (let few = goes.spelled.is_text.short in omega arith)

-- the controller runs after a line after which it goes on
pub went_running : (text : List ℕ) (n : ℕ) (s e : Standing) (turns after : List Turn) (old new : SinkView) → WentOn answering text n (stood s turns) (stood e after) old new → e.controller.halted ≡ None
went_running text n s e turns after old new t = said_runs text n s e t.said.0 t.out t.said.2

-- taking a line
pub takes_one : (result : End) (text : List ℕ) (n : ℕ) (s e : Standing) (turns after : List Turn) (old new : SinkView) → Takes result text n s e turns after old new
    → TakesOne answering result text n (stood s turns) (stood e after) old new
takes_one result text n s e turns after old new (inl t) = inl record { out = t.out; whole = t.whole; said = (t.more, t.turns_grew, t.said); told = t.told }
takes_one result text n s e turns after old new (inr left) = inr record { no_memory = left.no_memory; stays = ap₂ stood left.stays left.no_turn; untold = left.untold }

-- the lines that were passed were answered in turn
ran_of : {begun e : Stood} {lines : List (List ℕ)} {out : List ℕ} → Passed answering begun lines e out → begun.turns ≡ [] → begun.standing.controller.halted ≡ None
    → Ran begun.standing lines e.standing e.turns out × (e.standing.controller.halted ≡ None)
ran_of {begun} passed_none none running = (subst (λ (ts : List Turn). Ran begun.standing [] begun.standing ts []) (sym none) no_line, running)
ran_of {begun} (passed_more texts m out passed text e more said) none running =
    let before = ran_of passed none running in
    by said.0 said.1 before.0 before.1 said.2
  where
    by : (turns : List Turn) → e.turns ≡ m.turns ++ turns → Ran begun.standing texts m.standing m.turns out → m.standing.controller.halted ≡ None
        → IsSaid text (length texts + 1) m.standing e.standing turns more goes_on
        → Ran begun.standing (texts ++ text ∷ []) e.standing e.turns (out ++ more) × (e.standing.controller.halted ≡ None)
    by turns grew ran runs (says_bad bad is) = absurd cc
    by turns grew ran runs (says_answer goes is) = (
      subst (λ (ts : List Turn). Ran begun.standing (texts ++ text ∷ []) e.standing ts (out ++ more)) (sym grew)
          (one_more texts m.standing m.turns out ran runs text e.standing turns more goes),
      runs_on e.standing.controller.halted is,
    )

-- what a session did that went so over its lines
module _ (begun : Standing) (running : begun.controller.halted ≡ None) (first : List Turn) (none : first ≡ []) (old new : World) (began : HasBegun old.kernel begun) where
  has_run : (e : Stood) (lines : List (List ℕ)) (out : List ℕ) → Passed answering (stood begun first) lines e out → HasRun old lines e.standing e.turns out
  has_run e lines out passed = let ran = ran_of passed none running in record { begun = begun; began = began; ran = ran.0; running = ran.1 }

  pub session_of : (e : Stood) (result : End) → new.kernel ≡ e.standing.kernel → IsPass answering (stood begun first) e result (streams_of old) (streams_of new)
      → IsSession old new (record { result = result; turns = e.turns })
  session_of e result kernel_is pass = record {
    given = pass.given;
    read = pass.read;
    lines = pass.lines;
    met = pass.met;
    none_left = pass.none_left;
    out = pass.out;
    written = pass.written;
    ending = ended pass.ending;
    few = pass.few;
    read_fault = pass.read_fault;
    write_fault = pass.write_fault;
  }
    where
      ended : PassEnds answering (stood begun first) e result (streams_of old) (streams_of new) pass.given pass.lines pass.out
          → HasEnded old new (record { result = result; turns = e.turns }) pass.given pass.lines pass.out
      ended (at_one at) = at_line record {
        before = at.before;
        text = at.text;
        behind = at.behind;
        cut = at.cut;
        stood = at.stood.standing;
        turns = at.stood.turns;
        told_before = at.told_before;
        run = has_run at.stood at.before at.told_before at.passed;
        stands = e.standing;
        more = at.said.0;
        last = at.final;
        whole = at.whole;
        said = at.said.2;
        taken = at.taken;
        told = at.told;
        stops = at.stops;
        kernel_is = kernel_is;
        turns_are = at.said.1;
        says = at.says;
      }
      ended (before_one at) = before_line record {
        no_memory = at.no_memory;
        before = at.before;
        behind = at.behind;
        cut = at.cut;
        stands = e.standing;
        run = has_run e at.before pass.out at.passed;
        kernel_is = kernel_is;
      }
      ended (with_input passed ends) = at_input record { stands = e.standing; run = has_run e pass.lines pass.out passed; ends = ends; kernel_is = kernel_is }
