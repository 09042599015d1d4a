-- What is printed of a line.
use Rattle.std.proofs.Common.{◌≡◌, ◌⊎◌, ℕ, List, [], ◌∷◌, ◌++◌, None, Some, refl, ap, ◌∙◌, inl, inr, Bor}
use Rattle.uid_ranges.specs.declared.range.UidRange.{UidRange}
use Rattle.script_reader.specs.Canonical.{line_text, printed_of, words_text}
use Rattle.word_text.specs.Texts.{value_text}
use Rattle.word_text.specs.Grammar.{Kind}
use Rattle.word_text.specs.Kinds.{kind_of, kinds_in}
use Rattle.script_reader.specs.Parts.{AreParts, Parts}
use Rattle.script_reader.specs.Rows.{kinds_of}
use Rattle.word_text.specs.Slots.{filled, nothing, picked, slot}
use Rattle.script_reader.specs.declared.form.Form.{Form}
use Rattle.word_text.specs.declared.kind.Kind.{Kind as Coded}
use Rattle.script_reader.specs.declared.line.Line.{Line}
use Rattle.script_reader.specs.declared.line.Line.TheVariants as line
use Rattle.word_text.specs.declared.values.Values.{Values as Slots}

words_picked : (kinds : List Coded) (v : Slots) (list : List UidRange) → words_text kinds v list ≡ line_text (kinds_in kinds) (picked (kinds_in kinds) v list)
words_picked [] v list = refl
words_picked (kind ∷ []) v list = refl
words_picked (kind ∷ next ∷ more) v list =
    ap (λ (text : List ℕ). value_text (kind_of kind) (slot (kind_of kind) v list) ++ 32 ∷ text) (words_picked (next ∷ more) v list)

pub printed_is : {l : Line} (of : (l ≡ line.Blank) ⊎ Parts l) (form : Form) (v : Slots) (list : Bor (List UidRange)) (kinds : List Coded) → AreParts of (Some (form, v, list)) →
    kinds_in kinds ≡ kinds_of form → words_text kinds v list.now ++ 10 ∷ [] ≡ printed_of of
printed_is (inl blank) form v list kinds got same = absurd (let no : Some (form, v, list) ≡ None = got in cc)
printed_is (inr parts) form v list kinds got same =
    ap (λ (text : List ℕ). text ++ 10 ∷ []) (
    words_picked kinds v list.now
    ∙ ap (λ (ks : List Kind). line_text ks (picked ks v list.now)) (same ∙ ap kinds_of got.0)
    ∙ ap (λ (x : Slots). line_text (kinds_of parts.form) (picked (kinds_of parts.form) x list.now)) got.1
    ∙ ap (λ (xs : List UidRange). line_text (kinds_of parts.form) (picked (kinds_of parts.form) (filled (kinds_of parts.form) parts.values nothing) xs)) got.2
    ∙ ap (line_text (kinds_of parts.form)) parts.kept
    )
