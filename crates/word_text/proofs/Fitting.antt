-- Words of a kind.
use Rattle.std.proofs.Common.{◌≡◌, ◌↔◌, ℕ, IsTrue, Bool, true, false, List, Option, None, Some, sym, ◌∙◌}
use Rattle.std.specs.Option.{is_some}
use Rattle.word_text.specs.Grammar.{Meant, SpellsOut, What}
use Rattle.word_text.specs.Kinds.{Gives}

-- the word is one of this kind where reading it gives a value
pub fits_where : (what : What) (text : List ℕ) (read : Option (Meant what)) (some : Bool) → Gives what text read → some ≡ is_some read →
    IsTrue some ↔ ((value : Meant what) × SpellsOut what value text)
fits_where what text None some gives is = (λ yes. absurd (let no : false ≡ true = sym is ∙ yes in cc), λ fits. absurd (gives fits.0 fits.1))
fits_where what text (Some value) some gives is = (λ yes. (value, gives), λ fits. is)
