use Rattle.std.proofs.Common.{◌≡◌, true, List, sym, subst}
use Rattle.uid_ranges.specs.declared.range.UidRange.{UidRange}
use Rattle.word_text.specs.Grammar.{AreOf, Kind, has_list}
use Rattle.word_text.specs.Kinds.{kinds_in}
use Rattle.word_text.specs.declared.kind.Kind.TheVariants as coded
use Rattle.script_reader.specs.Cursor.{words_left}
use Rattle.script_reader.specs.Lines.{SaysSo}
use Rattle.script_reader.specs.Words.{texts}
use Rattle.script_reader.specs.declared.line.Line.{Line}
use Rattle.script_reader.proofs.Steps.{AreFilled, fills_more, fills_next, fills_whole, form_fault, has_list-at, says_so}
use Rattle.script_reader.proofs.read.read_form.Goals as goal

pub unreachable-requires : goal.unreachable-requires
unreachable-requires c =
    let of : AreOf (kinds_in c.kinds-kinds.result.now) (texts (words_left c.args.words)) =
    subst (λ (ks : List Kind). AreOf ks (texts (words_left c.args.words))) (sym c.kinds-kinds.ensures) c.requires in
    fills_more _ c.loop-kind.kind-index coded.Name c.args.words _ _ _ c.loop-kind-test.true c.loop-kind.invariant of c.in_default.ensures

pub returns-in_err-take_word : goal.returns-in_err-take_word
returns-in_err-take_word c = form_fault c.args.form c.args.words c.from_residual.result c.from_residual.ensures.0
    (subst (λ (ks : List Kind). has_list ks ≡ true) c.kinds-kinds.ensures (has_list-at _ c.loop-kind.kind-index _ c.loop-kind-test.true c.in_err-take_word.ensures))

pub loop-kind-preserved : goal.loop-kind-preserved
loop-kind-preserved c = fills_next _ c.loop-kind.kind-index _ _ _ _ _ _ _ _ _ c.in_ok-take_word.field-0 c.loop-kind-test.true c.loop-kind.invariant c.in-Some.ensures c.in_ok-take_word.ensures c.advance.ensures

pub returns : goal.returns
returns c =
    let words = texts (words_left c.args.words) in
    let filled : AreFilled (kinds_in c.kinds-kinds.result.now) words c.loop-kind.values c.of.result =
    subst (λ (list : List UidRange). AreFilled (kinds_in c.kinds-kinds.result.now) words c.loop-kind.values list) (sym c.of.ensures)
    (fills_whole c.kinds-kinds.result.now c.loop-kind.kind-index c.args.words _ _ _ c.loop-kind-test.false c.loop-kind.invariant) in
    subst (λ (l : Line). SaysSo l words) (sym c.say.ensures) (says_so c.args.form words _ _ c.of.result c.kinds-kinds.ensures c.requires filled)
