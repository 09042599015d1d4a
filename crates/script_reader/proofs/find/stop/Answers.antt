use Rattle.std.proofs.Common.{◌≡◌, ◌∙◌, true, false, sym}
use Rattle.word_text.specs.declared.kind.Kind.TheVariants as coded
use Rattle.script_reader.proofs.Neighbours.{reaches_next, reaches_whole, stops_missing, stops_more, stops_other}
use Rattle.script_reader.proofs.find.stop.Goals as goal

pub loop-count-preserved : goal.loop-count-preserved
loop-count-preserved c = reaches_next c.args.kinds.now _ _ _ _ _ _ c.loop-count-test.true c.loop-count.invariant c.in-Some.ensures (c.fits.ensures.0 c.if-not-fits.false) c.advance.ensures

pub returns-in_default : goal.returns-in_default
returns-in_default c = stops_missing c.args.kinds.now _ coded.Name _ _ c.loop-count-test.true c.loop-count.invariant c.in_default.ensures

pub returns-then-not-fits : goal.returns-then-not-fits
returns-then-not-fits c = stops_other c.args.kinds.now _ _ _ _ _ c.loop-count-test.true c.loop-count.invariant c.in-Some.ensures
    (λ fits. let no : false ≡ true = sym c.if-not-fits.true ∙ c.fits.ensures.1 fits in cc)

pub returns-in-None : goal.returns-in-None
returns-in-None c = reaches_whole c.args.kinds.now _ _ _ c.loop-count-test.false c.loop-count.invariant c.in-None.ensures

pub returns-in-Some-first : goal.returns-in-Some-first
returns-in-Some-first c = stops_more c.args.kinds.now _ _ _ _ c.loop-count-test.false c.loop-count.invariant c.in-Some-first.ensures
