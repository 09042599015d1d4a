use Rattle.std.proofs.Common.{◌≡◌, ◌∙◌, ◌≤◌, ap, length, max, subst, take, arith}
use Rattle.std.proofs.lemmas.List.{take_all}
use Rattle.std.specs.List.{AllByRecursion}
use Rattle.script_reader.specs.Finds.{StopsBy}
use Rattle.script_reader.specs.Lines.{script}
use Rattle.script_reader.specs.Rows.{forms}
use Rattle.script_reader.specs.declared.form.TheConstants.{FORMS}
use Rattle.script_reader.proofs.Farthest.{all_tried}
use Rattle.script_reader.proofs.Neighbours.{entry_at, known_fit, tried_alike, tried_more}
use Rattle.script_reader.proofs.find.find.Goals as goal

pub loop-entry-preserved-then-entry-reached : goal.loop-entry-preserved-then-entry-reached
loop-entry-preserved-then-entry-reached c =
    tried_alike c.args.words c.loop-entry.entry-index c.loop-entry.reached c.loop-entry.farthest (rw c.entries-entry-items.ensures at c.loop-entry-test.true) c.loop-entry.invariant
    (rw c.entries-entry-items.ensures at c.if-entry-reached.true)

pub stop-requires-clause-fit : goal.stop-requires-clause-fit
stop-requires-clause-fit c =
    let fewer : (entry_at c.loop-entry.entry-index).shared ≤ c.loop-entry.reached.count = rw c.entries-entry-items.ensures at c.if-entry-reached.false in
    rw (c.kinds.ensures, c.entries-entry-items.ensures) (known_fit c.args.words c.loop-entry.entry-index c.loop-entry.reached c.loop-entry.farthest c.loop-entry.invariant fewer)

pub returns-in-None : goal.returns-in-None
returns-in-None c = rw c.kinds.ensures at c.in-None.ensures

pub loop-entry-preserved : goal.loop-entry-preserved
loop-entry-preserved c =
    tried_more c.args.words c.loop-entry.entry-index c.loop-entry.reached c.in-Some.stopped c.loop-entry.farthest _ (rw c.entries-entry-items.ensures at c.loop-entry-test.true)
    c.loop-entry.invariant (c.max-farthest.ensures ∙ ap (max c.loop-entry.farthest) c.column.ensures) (rw (c.kinds.ensures, c.entries-entry-items.ensures) at c.in-Some.ensures)

pub returns : goal.returns
returns c =
    let past : length FORMS ≤ c.loop-entry.entry-index = rw c.entries-entry-items.ensures at c.loop-entry-test.false in
    let all : take c.loop-entry.entry-index forms ≡ forms = take_all c.loop-entry.entry-index forms past in
    all_tried script c.args.words _ (omega arith) (subst (AllByRecursion (StopsBy script c.args.words c.loop-entry.farthest)) all c.loop-entry.invariant.each) c.loop-entry.invariant.one
