use Rattle.std.proofs.Common.{refl, sym, subst}
use Rattle.command_words.specs.Forms.{wordless}
use Rattle.command_words.specs.View.{view_of}
use Rattle.command_words.specs.declared.form.Form.{Form}
use Rattle.command_words.specs.declared.form.Wordless.{Wordless}
use Rattle.command_words.specs.declared.form.Wordless.TheVariants.{Check}
use Rattle.netd_session.specs.World.{World, world}
use Rattle.netd_session.specs.declared.end.Status.{Status}
use Rattle.netd_top.specs.Run.{DoesForm}
use Rattle.netd_top.proofs.top.carry_out.Goals as goal

-- there is no other form of one word
does_wordless : (only : Wordless) (old new : World) (s : Status) → DoesForm (wordless Check) old new s → DoesForm (wordless only) old new s
does_wordless Check old new s does = does

pub returns-in-Wordless-Check : goal.returns-in-Wordless-Check
returns-in-Wordless-Check g c =
    let old : World = world (g.S.Source.seen c.args.source.now) (g.W.Sink.seen c.args.sink.now) (g.K.Kernel.seen c.args.kernel.now) in
    let new : World = world (g.S.Source.seen c.check.new.source) (g.W.Sink.seen c.check.new.sink) (g.K.Kernel.seen c.args.kernel.now) in
    subst (λ (form : Form). DoesForm (view_of form) old new c.of.result) (sym c.in-Wordless-Check.is)
    (does_wordless c.in-Wordless-Check.field-0 old new c.of.result (c.check.result, c.check.ensures.check, c.of.ensures, refl))
