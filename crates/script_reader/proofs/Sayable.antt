-- The canonical text of a line.
use Rattle.std.proofs.Common.{◌≡◌, ◌⊎◌, ℕ, ◌≤◌, true, List, [], ◌∷◌, length, refl, sym, subst, inl, inr}
use Rattle.std.specs.List.{list_all}
use Rattle.word_text.proofs.Graphic.{is_plain, spelled_graphic}
use Rattle.word_text.proofs.Tests.{both_true}
use Rattle.word_text.proofs.Written.{text_spelled}
use Rattle.word_text.specs.Grammar.{Kind, Values, AreSpelled}
use Rattle.script_reader.specs.Canonical.{AreWithin, IsSayable, IsWithinLine, canonical, text_of, values_text}
use Rattle.script_reader.specs.Lines.{Says, Spells}
use Rattle.script_reader.specs.Parts.{Parts, parts_of}
use Rattle.script_reader.specs.Rows.{forms, kinds_of}
use Rattle.script_reader.specs.declared.line.Line.{Line}
use Rattle.script_reader.specs.declared.line.Line.TheVariants as line
use Rattle.script_reader.proofs.Joined.{AreGraphic, printed_joined, words_joined}
use Rattle.script_reader.proofs.OneForm.{passes_at}
use Rattle.script_reader.proofs.Places.{at_place, place_of}

texts_spelled : (kinds : List Kind) (values : Values kinds) → AreWithin kinds values → AreSpelled kinds values (values_text kinds values)
texts_spelled [] values within = tt
texts_spelled (kind ∷ kinds) values within = (text_spelled kind values.0 within.0, texts_spelled kinds values.1 within.1)

spelled_all_graphic : (kinds : List Kind) (values : Values kinds) (words : List (List ℕ)) → list_all is_plain kinds ≡ true → AreSpelled kinds values words → AreGraphic words
spelled_all_graphic [] values [] plain spelled = tt
spelled_all_graphic [] values (text ∷ words) plain spelled = absurd spelled
spelled_all_graphic (kind ∷ kinds) values [] plain spelled = absurd spelled
spelled_all_graphic (kind ∷ kinds) values (text ∷ words) plain spelled =
    let parts = both_true (is_plain kind) (list_all is_plain kinds) plain in
    (spelled_graphic kind values.0 text parts.0 spelled.0, spelled_all_graphic kinds values.1 words parts.1 spelled.1)

all_plain : list_all (λ form. list_all is_plain (kinds_of form)) forms ≡ true
all_plain = refl

by_parts : (l : Line) (of : (l ≡ line.Blank) ⊎ Parts l) → (l ≡ line.Blank → ⊥) → IsWithinLine of → length (text_of of) ≤ 512 → Spells (text_of of) l
by_parts l (inl blank) filled within short = absurd (filled blank)
by_parts l (inr parts) filled within short =
    let words : List (List ℕ) = values_text (kinds_of parts.form) parts.values in
    let spelled : AreSpelled (kinds_of parts.form) parts.values words = texts_spelled (kinds_of parts.form) parts.values within in
    let plain : list_all is_plain (kinds_of parts.form) ≡ true = passes_at (λ f. list_all is_plain (kinds_of f)) forms (place_of parts.form) parts.form all_plain (at_place parts.form) in
    let graphic : AreGraphic words = spelled_all_graphic (kinds_of parts.form) parts.values words plain spelled in
    let said : Says l words = inr (record { form = parts.form; values = parts.values; spelled = spelled; same = parts.same }) in
    record {
      is_text = record { short = short; printable = printed_joined words graphic };
      says = subst (Says l) (sym (words_joined 1 words graphic)) said;
    }

pub canonical_spells : (l : Line) → IsSayable l → Spells (canonical l) l
canonical_spells l sayable = by_parts l (parts_of l) sayable.filled sayable.within sayable.short
