use Rattle.std.proofs.Common.{◌∙◌, ap, ap₂, fold, sym}
use Rattle.std.proofs.lemmas.List.{take_all}
use Rattle.std.proofs.lemmas.List.Sums.{fold_more}
use Rattle.clap.specs.Simple.{with_subcommand}
use Rattle.command_words.specs.App.{first_app, named_app, with_wordless}
use Rattle.command_words.specs.Forms.{Text}
use Rattle.command_words.specs.declared.form.TheConstants.{ALL_WORDLESS}
use Rattle.command_words.specs.declared.form.Wordless.TheVariants.{Check}
use Rattle.command_words.proofs.command.netd_command.Goals as goal

pub loop-form-preserved : goal.loop-form-preserved
loop-form-preserved c =
    c.in_ok-command-2.ensures
    ∙ ap₂ with_subcommand c.loop-form.invariant (ap (λ (t : Text). (named_app t).top) c.name.ensures)
    ∙ sym (fold_more with_wordless first_app ALL_WORDLESS c.loop-form.form-index Check c.loop-form-test.true)

pub returns : goal.returns
returns c = c.loop-form.invariant ∙ ap (fold with_wordless first_app) (take_all c.loop-form.form-index ALL_WORDLESS c.loop-form-test.false)
