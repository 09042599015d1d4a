use Rattle.std.proofs.Common.{◌≡◌, ◌∙◌, ap, codes, subst, List, [], ◌∷◌, Option, Some, map, unwrap_or, refl, rules, Bor, true, false, eq-eqb, length, arith}
use Rattle.clap.specs.Matches.{found_of}
use Rattle.clap.proofs.WalkLemmas.{raw_values-rows}
use Rattle.command_words.specs.Forms.{FormView, Text, wordless}
use Rattle.command_words.specs.Read.{SaysSome, alone_given}
use Rattle.command_words.specs.declared.form.Wordless.{Wordless}
use Rattle.command_words.proofs.matched.form_alone.Goals as goal

-- the words of the matches
words_are : Option (List Text) → List Text
words_are o = unwrap_or o []

none_alone : (form : Wordless) (words : List (Bor Text)) → length words ≡ 0 → SaysSome (alone_given (Some form) (map (λ v. v.now) words)) (wordless form)
none_alone form [] none = refl
none_alone form (x ∷ xs) none = absurd (omega arith)

some_none : (form : Wordless) (words : List (Bor Text)) (said : FormView) → (length words ≡ 0 → ⊥) → SaysSome (alone_given (Some form) (map (λ v. v.now) words)) said → ⊥
some_none form [] said some says = some refl
some_none form (x ∷ xs) said some says = says

pub returns-in-None-clause-ok : goal.returns-in-None-clause-ok
unfolding words_are
returns-in-None-clause-ok c =
    subst (λ (ws : List Text). SaysSome (alone_given (Some c.args.form) ws) (wordless c.args.form)) (ap words_are (c.in-None.ensures ∙ raw_values-rows (found_of c.args.inner.now) (codes "words"))) refl

pub returns-then-is_empty-clause-ok : goal.returns-then-is_empty-clause-ok
unfolding words_are
returns-then-is_empty-clause-ok c =
    let none : length c.in-Some.words.now ≡ 0 = search rules in
    subst (λ (ws : List Text). SaysSome (alone_given (Some c.args.form) ws) (wordless c.args.form)) (ap words_are (c.in-Some.ensures ∙ raw_values-rows (found_of c.args.inner.now) (codes "words")))
    (none_alone c.args.form c.in-Some.words.now none)

pub returns-else-is_empty-clause-no_form : goal.returns-else-is_empty-clause-no_form
unfolding words_are
returns-else-is_empty-clause-no_form c = λ fault said.
    let some : length c.in-Some.words.now ≡ 0 → ⊥ = λ e. absurd (let no : false ≡ true = c.if-is_empty.ensures ∙ eq-eqb (length c.in-Some.words.now) 0 e in cc) in
    subst (λ (ws : List Text). SaysSome (alone_given (Some c.args.form) ws) said → ⊥) (ap words_are (c.in-Some.ensures ∙ raw_values-rows (found_of c.args.inner.now) (codes "words")))
    (some_none c.args.form c.in-Some.words.now said some)
