-- The two kinds of rows that addresses are made of: octets with dots, groups with colons.
use Rattle.std.specs.Prelude.{ℕ, ◌==◌, Bool, List}
use Rattle.std.specs.Fmt.{decimal}
use Rattle.std.specs.List.{list_any}
use Rattle.number_text.specs.Numbers.{hexadecimal}
use Rattle.addr_text.specs.Canonical.{row_text}
use Rattle.addr_text.specs.Grammar.{colon, dot, SpellsGroup, SpellsOctet, SpellsRow}
use Rattle.addr_text.specs.declared.form.Form.{Form}
use Rattle.addr_text.specs.declared.form.Form.TheVariants as form

abbrev pub base_of : Form → ℕ
base_of form.Octets = 256
base_of form.Groups = 65536

abbrev pub count_of : Form → ℕ
count_of form.Octets = 4
count_of form.Groups = 8

abbrev pub separator_of : Form → ℕ
separator_of form.Octets = dot
separator_of form.Groups = colon

abbrev pub SpellsPart : Form → List ℕ → ℕ → Type 0
SpellsPart form.Octets = SpellsOctet
SpellsPart form.Groups = SpellsGroup

abbrev pub part_text : Form → ℕ → List ℕ
part_text form.Octets = decimal
part_text form.Groups = hexadecimal

abbrev pub SpellsParts : Form → List ℕ → List ℕ → Type 0
SpellsParts form = SpellsRow (SpellsPart form) (separator_of form)

abbrev pub parts_text : Form → List ℕ → List ℕ
parts_text form = row_text (part_text form) (separator_of form)

-- the byte stands in the text
abbrev pub has_byte : ℕ → List ℕ → Bool
has_byte byte text = list_any (λ b. b == byte) text
