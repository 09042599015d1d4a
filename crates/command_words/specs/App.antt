-- The command that `clap` is given.
use Rattle.std.specs.Prelude.{true, Some, codes, fold}
use Rattle.clap.specs.Walk.{Rule}
use Rattle.clap.specs.Simple.{App, Shape, new_app, new_rule, with_rule, with_subcommand, on_top}
use Rattle.command_words.specs.Forms.{Text, name_of}
use Rattle.command_words.specs.declared.form.TheConstants.{ALL_WORDLESS}
use Rattle.command_words.specs.declared.form.Wordless.{Wordless}

abbrev pub refuse_rule : Rule
refuse_rule = record (new_rule (codes "refuse")) { long = Some (codes "refuse") }

abbrev pub break_rule : Rule
break_rule = record (new_rule (codes "break")) { long = Some (codes "break") }

abbrev pub run_app : App
run_app = with_rule (with_rule (new_app (codes "run")) refuse_rule) break_rule

abbrev pub plain_shape : Shape → Shape
plain_shape s = record s {
  no_binary_name = true;
  disable_help_flag = true;
  disable_version_flag = true;
  disable_help_subcommand = true;
  subcommand_required = true;
}

-- up to 4 words after the name
abbrev pub words_rule : Rule
words_rule = record (new_rule (codes "words")) { range = Some (record { start_inclusive = 0; end_inclusive = 4 }) }

-- a subcommand of this name, whose words are handed on as they are
abbrev pub named_app : Text → App
named_app name = with_rule (new_app name) words_rule

abbrev pub with_wordless : App → Wordless → App
with_wordless app form = with_subcommand app (named_app (name_of form)).top

-- the command with the forms that have words of their own
abbrev pub first_app : App
first_app = with_subcommand (with_subcommand (on_top plain_shape (new_app (codes "netd_run"))) run_app.top) (named_app (codes "soak")).top

-- the whole command
abbrev pub netd_app : App
netd_app = fold with_wordless first_app ALL_WORDLESS
