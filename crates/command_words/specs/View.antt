-- What a `Form` of the code says.
use Rattle.command_words.specs.Forms.{FormView, run, soak, wordless}
use Rattle.command_words.specs.declared.form.Form.{Form}
use Rattle.command_words.specs.declared.form.Form.TheVariants.{Run, Soak, Wordless}

abbrev pub view_of : Form → FormView
view_of (Run refuse breaks) = run refuse.items breaks.items
view_of (Wordless form) = wordless form
view_of (Soak seed count) = soak seed count
