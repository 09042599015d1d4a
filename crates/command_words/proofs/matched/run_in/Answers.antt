use Rattle.std.proofs.Common.{◌≡◌, ◌∙◌, ap₂, codes, subst, sym, Option, IfOk, option_map}
use Rattle.clap.specs.Matches.{found_of}
use Rattle.clap.specs.Walk.{rows_of}
use Rattle.clap.proofs.WalkLemmas.{first_value-rows}
use Rattle.command_words.specs.Forms.{Text}
use Rattle.command_words.specs.Read.{Given, Says, given_in}
use Rattle.command_words.specs.View.{view_of}
use Rattle.command_words.proofs.matched.run_in.Goals as goal

given_by : Option Text → Option Text → Given
given_by refuses breaks = record { refuses = refuses; breaks = breaks }

pub returns-clause-ok : goal.returns-clause-ok
unfolding given_by
returns-clause-ok c =
    let found = found_of c.args.inner.now in
    let same : given_by (option_map (λ text. text.now) c.get_str.result) (option_map (λ text. text.now) c.get_str-2.result) ≡ given_in (rows_of found) =
    ap₂ given_by (c.get_str.ensures ∙ first_value-rows found (codes "refuse")) (c.get_str-2.ensures ∙ first_value-rows found (codes "break")) in
    subst (λ (g : Given). IfOk c.run_by.result (λ form. Says g (view_of form))) same c.run_by.ensures.ok

pub returns-clause-no_form : goal.returns-clause-no_form
unfolding given_by
returns-clause-no_form c = λ fault form says.
    let found = found_of c.args.inner.now in
    let same : given_by (option_map (λ text. text.now) c.get_str.result) (option_map (λ text. text.now) c.get_str-2.result) ≡ given_in (rows_of found) =
    ap₂ given_by (c.get_str.ensures ∙ first_value-rows found (codes "refuse")) (c.get_str-2.ensures ∙ first_value-rows found (codes "break")) in
    c.run_by.ensures.no_form fault form (subst (λ (g : Given). Says g form) (sym same) says)
