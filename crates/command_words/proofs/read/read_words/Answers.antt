use Rattle.std.proofs.Common.{◌∙◌, ap, sym, subst, map, Bool, List, Option, None, refl, string_bytes, String, true, false, ◌≡◌, inl, inr}
use Rattle.std.specs.List.{list_any}
use Rattle.std.specs.declared.alloc.Global.{Global}
use Rattle.std.proofs.lemmas.Result.{IfOk-weaker}
use Rattle.clap.specs.Simple.{is_simple}
use Rattle.clap.specs.Faults.{is_simple_and_free}
use Rattle.clap.specs.Values.{kind_of}
use Rattle.clap.proofs.WalkLemmas.{list_any-map}
use Rattle.command_words.specs.Forms.{Text, FormView, IsForm}
use Rattle.command_words.specs.Refused.{is_refused}
use Rattle.command_words.specs.Read.{Reading, read_found, SaysSome}
use Rattle.command_words.specs.View.{view_of}
use Rattle.command_words.proofs.Accepted.{is_usable}
use Rattle.command_words.proofs.Agrees.{refused_none, refused_given, taken_given}
use Rattle.command_words.proofs.Walk.{words_given}
use Rattle.command_words.proofs.Whole.{form_from_given, given_from_form}
use Rattle.command_words.proofs.read.read_words.Goals as goal

-- where the walk gives nothing, the words have no form
no_form : (words : List Text) → words_given words ≡ None → (form : FormView) → IsForm words form → ⊥
no_form words none form has = subst (λ (o : Option Reading). SaysSome o form) none (given_from_form words form has)

-- what was found of the words holds of their bytes
refused_is : (words : List (String Global)) (found said : Bool) → found ≡ list_any (λ word. is_refused (string_bytes word)) words → found ≡ said
    → list_any is_refused (map string_bytes words) ≡ said
refused_is words found said is told = sym (list_any-map is_refused string_bytes words) ∙ sym is ∙ told

pub returns-then-has_refused-clause-no_form : goal.returns-then-has_refused-clause-no_form
returns-then-has_refused-clause-no_form c = λ _ form has.
    let any = refused_is c.args.words.now _ _ c.has_refused.ensures c.if-has_refused.true in
    no_form (map string_bytes c.args.words.now) (refused_none (map string_bytes c.args.words.now) any) form has

-- a word is refused, by the words' bytes, and none is, by the words
not_both : (words : List (String Global)) → list_any is_refused (map string_bytes words) ≡ true → list_any (λ word. is_refused (string_bytes word)) words ≡ false → ⊥
not_both words some none = let both : true ≡ false = sym some ∙ sym (list_any-map is_refused string_bytes words) ∙ none in cc

pub returns-in-Ok-try_get_matches_from-clause-refused : goal.returns-in-Ok-try_get_matches_from-clause-refused
returns-in-Ok-try_get_matches_from-clause-refused c = λ any.
    absurd (not_both c.args.words.now any (sym c.has_refused.ensures ∙ c.if-has_refused.false))

pub returns-in-OutOfMemory-clause-refused : goal.returns-in-OutOfMemory-clause-refused
returns-in-OutOfMemory-clause-refused c = λ any.
    absurd (not_both c.args.words.now any (sym c.has_refused.ensures ∙ c.if-has_refused.false))

pub returns-in_default-clause-refused : goal.returns-in_default-clause-refused
returns-in_default-clause-refused c = λ any.
    absurd (not_both c.args.words.now any (sym c.has_refused.ensures ∙ c.if-has_refused.false))

pub returns-in-Ok-try_get_matches_from-clause-ok : goal.returns-in-Ok-try_get_matches_from-clause-ok
returns-in-Ok-try_get_matches_from-clause-ok c =
    let words : List Text = map string_bytes c.args.words.now in
    let clean = refused_is c.args.words.now _ _ c.has_refused.ensures c.if-has_refused.false in
    let app = c.in-Ok.ensures in
    let parsed = c.in-Ok-try_get_matches_from.ensures in
    let reads = ap read_found (parsed.matches (ap is_simple app ∙ refl)).1 ∙ taken_given _ words app clean (parsed.kinds (ap is_simple_and_free app ∙ is_usable)) in
    IfOk-weaker c.form_in.result _ _ (λ form says. form_from_given words (view_of form) (subst (λ (o : Option Reading). SaysSome o (view_of form)) reads says)) c.form_in.ensures.ok

pub returns-in-Ok-try_get_matches_from-clause-no_form : goal.returns-in-Ok-try_get_matches_from-clause-no_form
returns-in-Ok-try_get_matches_from-clause-no_form c = λ fault form has.
    let words : List Text = map string_bytes c.args.words.now in
    let clean = refused_is c.args.words.now _ _ c.has_refused.ensures c.if-has_refused.false in
    let app = c.in-Ok.ensures in
    let parsed = c.in-Ok-try_get_matches_from.ensures in
    let reads = ap read_found (parsed.matches (ap is_simple app ∙ refl)).1 ∙ taken_given _ words app clean (parsed.kinds (ap is_simple_and_free app ∙ is_usable)) in
    c.form_in.ensures.no_form fault form (subst (λ (o : Option Reading). SaysSome o form) (sym reads) (given_from_form words form has))

pub returns : goal.returns
returns c = record {
  ok = tt;
  no_form = λ _ form has.
      let words : List Text = map string_bytes c.args.words.now in
      let clean = refused_is c.args.words.now _ _ c.has_refused.ensures c.if-has_refused.false in
      let app = c.in-Ok.ensures in
      elim (c.in-Err.ensures.kinds (ap is_simple_and_free app ∙ is_usable)) [
        | inl memory ↦ absurd (c.in_default-kind.not-OutOfMemory (c.kind.ensures ∙ memory))
        | inr among ↦ no_form words (refused_given _ words (kind_of c.in-Err.error) app clean among) form has
      ];
  refused = λ any. absurd (not_both c.args.words.now any (sym c.has_refused.ensures ∙ c.if-has_refused.false));
}
