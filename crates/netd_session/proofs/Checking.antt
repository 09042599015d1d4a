-- What a check does, and why it ends as it does.
use Rattle.std.proofs.Common.{◌≡◌, ◌∙◌, ◌⊎◌, ℕ, ◌+◌, ◌<◌, ◌≤◌, List, ◌∷◌, length, map, take, Err, inl, inr, refl, sym, ap, subst, arith, length-append}
use Rattle.std.proofs.lemmas.List.Elements.{Contains-append_right, Contains-push_cases}
use Rattle.std.specs.List.{Contains}
use Rattle.kernel_model.specs.Journal.{entry}
use Rattle.kernel_model.specs.View.{KernelView}
use Rattle.kernel_model.specs.declared.request.EntryKind.TheVariants.{Added}
use Rattle.line_input.specs.Lines.{line_limit}
use Rattle.net_control.specs.Started.{start_adds}
use Rattle.net_io.specs.Streams.{SinkView}
use Rattle.script_reader.specs.BadLines.{IsBadAt}
use Rattle.script_reader.specs.Canonical.{printed}
use Rattle.script_reader.specs.Lines.{Spells}
use Rattle.script_reader.specs.declared.line.Line.{Line}
use Rattle.turn_text.specs.Texts.{bad_text, numbered}
use Rattle.netd_session.proofs.Causing.{Known, has_causes}
use Rattle.netd_session.proofs.Passing.{IsByLine, long_column}
use Rattle.netd_session.specs.Causes.{HasBadLine, InGrammar, RefusedStart}
use Rattle.netd_session.specs.Checks.{IsCausedCheck, IsCheck, IsWrittenThen, Prints, prints_bad, prints_line, printing}
use Rattle.netd_session.specs.Passes.{PassAtLine, PassEnds, Passed, TakesOne, at_one, before_one, passed_more, passed_none, read_failed, read_whole, too_long, with_input}
use Rattle.netd_session.specs.Stops.{End, goes_on, status_of}
use Rattle.netd_session.specs.Telling.{IsTaken, MakesAndTells, Tells, no_memory, sink_failed, taken_whole}
use Rattle.netd_session.specs.World.{Streams, World, world}
use Rattle.netd_session.specs.declared.end.Stop.TheVariants as stop

pub printing_laws : IsByLine printing
printing_laws = record {
  ends = λ text n s e out whole prints. ends text n out whole prints;
  short = λ text n s e out whole prints on. short text n out whole prints on;
  long = λ text full n s e out whole far full_far prints. long text full n out whole far full_far prints;
}
  where
    ends : (text : List ℕ) (n : ℕ) (out : List ℕ) (whole : End) → Prints text n out whole → (whole ≡ goes_on) ⊎ ((whole ≡ Err stop.BadLine) ⊎ (whole ≡ Err stop.Halted))
    ends text n out whole (prints_line line spelled says is) = inl is
    ends text n out whole (prints_bad column place none says is) = inr (inl is)

    short : (text : List ℕ) (n : ℕ) (out : List ℕ) (whole : End) → Prints text n out whole → whole ≡ goes_on → length text ≤ line_limit
    short text n out whole (prints_line line spelled says is) on = spelled.is_text.short
    short text n out whole (prints_bad column place none says is) on = absurd cc

    long : (text full : List ℕ) (n : ℕ) (out : List ℕ) (whole : End) → line_limit < length text → line_limit < length full → Prints text n out whole → Prints full n out whole
    long text full n out whole far full_far (prints_line line spelled says is) = absurd (let few = spelled.is_text.short in omega arith)
    long text full n out whole far full_far (prints_bad column place none says is) =
        prints_bad column (inl (full_far, long_column text column far place)) (λ line spelled. absurd (let few = spelled.is_text.short in omega (arith, few))) says is

-- a line of the grammar was printed, or a prefix of its text
pub line_printed : (result : End) (text : List ℕ) (line : Line) (n : ℕ) (old new : SinkView) → Spells text line → Tells (printed line) goes_on result old new
    → TakesOne printing result text n tt tt old new
line_printed result text line n old new spelled told = inl record { out = printed line; whole = goes_on; said = prints_line line spelled refl refl; told = told }

-- a bad line was told, or a prefix of what is said of it; or memory ran out before
pub bad_printed : (result : End) (text : List ℕ) (column n : ℕ) (old new : SinkView) → IsBadAt text column → ((line : Line) → Spells text line → ⊥)
    → MakesAndTells (numbered n (bad_text column)) (Err stop.BadLine) result old new → TakesOne printing result text n tt tt old new
bad_printed result text column n old new place none (inl told) =
    inl record { out = numbered n (bad_text column); whole = Err stop.BadLine; said = prints_bad column place none refl refl; told = told }
bad_printed result text column n old new place none (inr (is, stays)) = inr record { no_memory = is; stays = refl; untold = stays }

-- the same line
pub of_line : {result : End} {text same : List ℕ} {n : ℕ} {old new : SinkView} → text ≡ same → TakesOne printing result text n tt tt old new → TakesOne printing result same n tt tt old new
of_line {result} {text} {same} {n} {old} {new} is takes = subst (λ (t : List ℕ). TakesOne printing result t n tt tt old new) is takes

pub left_unprinted : (result : End) (text : List ℕ) (n : ℕ) (sink : SinkView) → result ≡ Err stop.Memory → TakesOne printing result text n tt tt sink sink
left_unprinted result text n sink is = inr record { no_memory = is; stays = refl; untold = refl }

-- lines that were printed in turn are in the grammar
printed_in_grammar : {lines : List (List ℕ)} {out : List ℕ} → Passed printing tt lines tt out → (text : List ℕ) → Contains lines text → InGrammar text
printed_in_grammar passed_none text (k, within, is) = absurd (omega (arith, within))
printed_in_grammar (passed_more texts m out passed last e more prints) text there =
    elim (Contains-push_cases texts last text there) as (λ _. InGrammar text) [
      | inl before ↦ printed_in_grammar passed text before
      | inr same ↦ subst (λ (t : List ℕ). InGrammar t) same (spelled prints)
    ]
  where
    spelled : Prints last (length texts + 1) more goes_on → InGrammar last
    spelled (prints_line line spells says is) = (line, spells)
    spelled (prints_bad column place none says is) = absurd cc

-- a start that was refused asked something
asked_some : (kernel : KernelView) → RefusedStart kernel kernel → ⊥
asked_some kernel (request, (k, entries, undone_at, refused, number)) =
    let longer : length kernel.journal ≡ length kernel.journal + length entries =
    ap (λ (v : KernelView). length v.journal) refused ∙ length-append kernel.journal entries in
    let some = ap length undone_at.all ∙ length-append (map (entry Added) (take k start_adds)) _ in
    omega (arith, longer, some)

module _ (old new : Streams) (result : End) (kernel : KernelView) (c : IsCheck old new result) where
  abbrev before : World
  before = world old.source old.sink kernel

  abbrev after : World
  after = world new.source new.sink kernel

  record Ended (e : End) : Type 0 where
    known : Known before after c.lines e
    written : IsWrittenThen (status_of e) old new result c.lines c.out

  same_end : (e f : End) → e ≡ f → Ended f → Ended e
  same_end e f is ended = subst Ended (sym is) ended

  ended_at : (at : PassAtLine printing tt tt result c.lines c.out old.sink.faults new.sink.faults) → Prints at.text (length at.before + 1) at.final at.whole
      → IsTaken at.whole result at.taken (length at.final) old.sink.faults new.sink.faults → Ended result
  ended_at at prints (sink_failed is few more) = same_end result (Err stop.WriteFault) is record { known = tt; written = (at, few) }
  ended_at at prints (no_memory is few kept) = same_end result (Err stop.Memory) is record { known = tt; written = inl (at, few) }
  ended_at at (prints_line line spelled says goes) (taken_whole is full kept) = absurd (at.stops (is ∙ goes))
  ended_at at (prints_bad column place none says bad) (taken_whole is full kept) =
      same_end result (Err stop.BadLine) (is ∙ bad) record { known = (has_bad, refl, asked_some kernel); written = (at, full) }
    where
      has_bad : HasBadLine c.lines
      has_bad = (
        at.text,
        subst (λ (l : List (List ℕ)). Contains l at.text) (sym at.cut) (Contains-append_right at.before (at.text ∷ at.behind) at.text (0, omega arith, refl)),
        λ spelled. none spelled.0 spelled.1,
      )

  known_and_written : PassEnds printing tt tt result old new c.given c.lines c.out → Ended result
  known_and_written (at_one at) = ended_at at at.said at.told
  known_and_written (before_one at) = same_end result (Err stop.Memory) at.no_memory record { known = tt; written = inr at }
  known_and_written (with_input passed (read_whole is ended few same)) =
      same_end result goes_on is record { known = (ended, printed_in_grammar passed, refl, asked_some kernel); written = passed }
  known_and_written (with_input passed (read_failed is few more)) =
      same_end result (Err stop.ReadFault) is record { known = (printed_in_grammar passed, refl, asked_some kernel); written = passed }
  known_and_written (with_input passed (too_long is count same)) =
      same_end result (Err stop.TooLong) is record { known = (printed_in_grammar passed, refl, asked_some kernel); written = passed }

-- the causes of a check
pub caused_check : (old new : Streams) (result : End) → IsCausedCheck old new result
caused_check old new result kernel c =
    let both = known_and_written old new result kernel c c.ending in
    (has_causes (world old.source old.sink kernel) (world new.source new.sink kernel) c.given c.lines result both.known c.few c.none_left c.read_fault c.write_fault, both.written)
