-- Languages of lines, each by the list of its forms.
use Rattle.std.specs.Prelude.{ℕ, List}
use Rattle.word_text.specs.Grammar.{Kind, AreOf}

-- its forms, in the order in which they are tried, and the kinds of the words of each
pub record Language : Type 1 where
  pub Form : Type 0
  pub forms : List Form
  pub kinds_of : Form → List Kind

-- the words are of some form
abbrev pub AreOfSome : Language → List (List ℕ) → Type 0
AreOfSome l words = (form : l.Form) × AreOf (l.kinds_of form) words
