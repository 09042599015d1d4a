-- Where a form stands in the list of all forms.
use Rattle.std.proofs.Common.{◌≡◌, ℕ, ◌+◌, ◌<◌, ◌==◌, ◌&&◌, Bool, true, false, zero, suc, List, [], ◌∷◌, length, slice_get, Some, refl, sym, ap, ◌∙◌, inl, inr, arith}
use Rattle.std.proofs.lemmas.Bool.Decides.{eqb_tells}
use denote.Struct.Field.{Field}
use denote.Enum.Bare.{tag_one}
use denote.Enum.Declared.{rowss, tag_of}
use denote.Enum.Enum.{Sum, tag}
use Rattle.script_reader.specs.contracts.form.Form.{the_type}
use Rattle.script_reader.specs.declared.form.Form.{Form}
use Rattle.script_reader.specs.Rows.{forms}
use Rattle.word_text.proofs.Tests.{both_true}

abbrev pub place_of : Form → ℕ
place_of form = tag_of the_type form

below_count : (fields : List (List Field)) (variant : Sum (rowss fields)) → tag (rowss fields) variant < length fields
below_count [] variant = absurd variant
below_count (one ∷ fields) (inl value) = omega arith
below_count (one ∷ fields) (inr variant) = let below = below_count fields variant in omega arith

-- these forms stand at these places
abbrev are_numbered : List Form → ℕ → Bool
are_numbered [] place = true
are_numbered (form ∷ forms) place = (place_of form == place) && are_numbered forms (suc place)

equal_numbers : (a b : ℕ) → (a == b) ≡ true → a ≡ b
equal_numbers a b e = elim (eqb_tells a b) [ inl told ↦ told.1 | inr told ↦ absurd (let no : true ≡ false = sym e ∙ told.0 in cc) ]

at_number : (forms : List Form) (from place : ℕ) → are_numbered forms from ≡ true → place < length forms →
    (form : Form) × (slice_get forms place ≡ Some form) × (place_of form ≡ from + place)
at_number [] from place all below = absurd (omega arith)
at_number (form ∷ forms) from zero all below =
    let here = equal_numbers (place_of form) from (both_true (place_of form == from) (are_numbered forms (suc from)) all).0 in
    (form, refl, omega (arith, here))
at_number (form ∷ forms) from (suc place) all below =
    let rest = at_number forms (suc from) place (both_true (place_of form == from) (are_numbered forms (suc from)) all).1 (omega arith) in
    (rest.0, rest.1, omega (arith, rest.2))

same_form : (one other : Form) → place_of one ≡ place_of other → one ≡ other
same_form one other e = tag_one the_type tt one other e

pub at_place : (form : Form) → slice_get forms (place_of form) ≡ Some form
at_place form =
    let found = at_number forms 0 (place_of form) refl (below_count the_type.parts (the_type.to form)) in
    found.1 ∙ ap Some (same_form found.0 form (omega (arith, found.2)))
