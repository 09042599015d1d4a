-- A text spells one line.
use Rattle.std.proofs.Common.{◌≡◌, ℕ, true, List, refl, sym, ap, ◌∙◌, subst, inl, inr}
use Rattle.std.specs.List.{list_all}
use Rattle.word_text.proofs.OneValue.{same_values}
use Rattle.word_text.specs.Grammar.{Values, AreSpelled}
use Rattle.script_reader.specs.Lines.{IsBlank, Says, SaysSo, script}
use Rattle.script_reader.specs.Rows.{forms, kinds_of, line_with}
use Rattle.script_reader.specs.declared.form.Form.{Form}
use Rattle.script_reader.specs.declared.line.Line.{Line}
use Rattle.script_reader.proofs.OneForm.{are_apart, begins_plainly, one_form, passes_at, plain_not_blank}
use Rattle.script_reader.proofs.Places.{at_place, place_of}

all_apart : list_all (λ one. list_all (λ other. are_apart script place_of one other) forms) forms ≡ true
all_apart = refl

all_plain : list_all (λ form. begins_plainly (kinds_of form)) forms ≡ true
all_plain = refl

-- the words of a form are no comment
not_blank : (l : Line) (words : List (List ℕ)) → SaysSo l words → IsBlank words → ⊥
not_blank l words so blank =
    plain_not_blank (kinds_of so.form) so.values words so.spelled blank (passes_at (λ f. begins_plainly (kinds_of f)) forms (place_of so.form) so.form all_plain (at_place so.form))

same_line : (one other : Form) (a : Values (kinds_of one)) (b : Values (kinds_of other)) (words : List (List ℕ)) →
    AreSpelled (kinds_of one) a words → AreSpelled (kinds_of other) b words → line_with one a ≡ line_with other b
same_line one other a b words p q =
    (subst (λ (form : Form). (c : Values (kinds_of form)) → AreSpelled (kinds_of form) c words → line_with one a ≡ line_with form c)
    (one_form script place_of at_place all_apart one other a b words p q)
    (λ c r. ap (line_with one) (same_values (kinds_of one) a c words p r))) b q

pub one_line_says : (a b : Line) (words : List (List ℕ)) → Says a words → Says b words → a ≡ b
one_line_says a b words (inl one) (inl other) = one.0 ∙ sym other.0
one_line_says a b words (inl one) (inr other) = absurd (not_blank b words other one.1)
one_line_says a b words (inr one) (inl other) = absurd (not_blank a words one other.1)
one_line_says a b words (inr one) (inr other) = one.same ∙ same_line one.form other.form one.values other.values words one.spelled other.spelled ∙ sym other.same
