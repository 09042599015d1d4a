use Rattle.std.proofs.Common.{◌≡◌, ◌∙◌, ap, codes, subst, sym, List, [], Option, None, IfOk, unwrap_or}
use Rattle.clap.specs.Matches.{found_of}
use Rattle.clap.proofs.WalkLemmas.{raw_values-rows}
use Rattle.command_words.specs.Forms.{FormView, Text}
use Rattle.command_words.specs.Read.{SaysSome, soak_given}
use Rattle.command_words.specs.View.{view_of}
use Rattle.command_words.proofs.matched.soak_in.Goals as goal

-- the words of the matches
words_are : Option (List Text) → List Text
words_are o = unwrap_or o []

pub returns-in-None-clause-no_form : goal.returns-in-None-clause-no_form
unfolding words_are
returns-in-None-clause-no_form c = λ _ form says.
    subst (λ (ws : List Text). SaysSome (soak_given ws) form) (sym (ap words_are (c.in-None.ensures ∙ raw_values-rows (found_of c.args.inner.now) (codes "words")))) says

pub returns-in-Some-clause-ok : goal.returns-in-Some-clause-ok
unfolding words_are
returns-in-Some-clause-ok c =
    subst (λ (ws : List Text). IfOk c.soak_by.result (λ form. SaysSome (soak_given ws) (view_of form)))
    (ap words_are (c.in-Some.ensures ∙ raw_values-rows (found_of c.args.inner.now) (codes "words"))) c.soak_by.ensures.ok

pub returns-in-Some-clause-no_form : goal.returns-in-Some-clause-no_form
unfolding words_are
returns-in-Some-clause-no_form c = λ fault form says.
    c.soak_by.ensures.no_form fault form
    (subst (λ (ws : List Text). SaysSome (soak_given ws) form) (sym (ap words_are (c.in-Some.ensures ∙ raw_values-rows (found_of c.args.inner.now) (codes "words")))) says)
