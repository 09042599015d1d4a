use Rattle.std.proofs.Common.{◌≡◌, fold, take}
use Rattle.clap.specs.Simple.{app_of}
use Rattle.command_words.specs.App.{first_app, with_wordless}
use Rattle.command_words.specs.declared.form.TheConstants.{ALL_WORDLESS}
use Rattle.command_words.proofs.command.netd_command.Given as goal

abbrev pub invariant-loop-form : goal.invariant-loop-form
invariant-loop-form l = app_of l.command ≡ fold with_wordless first_app (take l.form-index ALL_WORDLESS)
