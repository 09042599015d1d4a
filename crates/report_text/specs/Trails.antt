-- The rules that a walk looked at, as they are printed.
use Rattle.std.specs.Prelude.{ℕ, List, [], ◌∷◌, ◌++◌, codes, flat_map}
use Rattle.std.specs.Fmt.{decimal}
use Rattle.kernel_model.specs.declared.step.Step.{Step}
use Rattle.word_text.specs.Texts.{line_feed}
use Rattle.report_text.specs.Actions.{action_text}

-- a line of a rule: two spaces, its priority, and what it does
abbrev pub step_text : Step → List ℕ
step_text step = codes "  " ++ decimal step.priority ++ codes " " ++ action_text step.action ++ line_feed ∷ []

abbrev pub trail_text : List Step → List ℕ
trail_text steps = flat_map step_text steps
