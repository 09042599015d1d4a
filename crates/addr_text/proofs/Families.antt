-- What tells the families apart, and an address from the length after it.
use Rattle.std.proofs.Common.{◌≡◌, ℕ, ◌≤◌, inl, inr, true, false, eqb, List, [], ◌∷◌, sym, ap, ◌∙◌, refl, arith}
use Rattle.std.specs.Char.{digit_value}
use Rattle.addr_text.specs.Forms.{has_byte, separator_of, SpellsParts}
use Rattle.addr_text.specs.Grammar.{Spells, SpellsFull, SpellsGroups, SpellsV4, SpellsV6}
use Rattle.addr_text.specs.declared.form.Form.{Form}
use Rattle.addr_text.specs.declared.form.Form.TheVariants as form
use Rattle.prefixes.specs.declared.addr.Addr.{Addr}
use Rattle.prefixes.specs.declared.addr.Addr.TheVariants as addr
use Rattle.addr_text.proofs.Bytes.{has_byte-append, has_byte-here, has_byte-other}
use Rattle.addr_text.proofs.Parts.{SpellsPart-clean}
use Rattle.addr_text.proofs.Values.{one_v4, one_v6}

-- a row has no byte but digits and separators
row_lacks : (f : Form) (byte : ℕ) (text : List ℕ) (xs : List ℕ) → 16 ≤ digit_value byte → eqb (separator_of f) byte ≡ false → SpellsParts f text xs → has_byte byte text ≡ false
row_lacks f byte text [] above other spells = ap (has_byte byte) spells
row_lacks f byte text (x ∷ []) above other spells = SpellsPart-clean f byte text x above spells
row_lacks f byte text (x ∷ y ∷ ys) above other spells =
    ap (has_byte byte) spells.2
    ∙ has_byte-append byte spells.0 (separator_of f ∷ spells.1) (SpellsPart-clean f byte spells.0 x above spells.3)
    (has_byte-other byte (separator_of f) spells.1 other (row_lacks f byte spells.1 (y ∷ ys) above other spells.4))

groups_lack : (byte : ℕ) (text groups : List ℕ) → 16 ≤ digit_value byte → eqb 58 byte ≡ false → SpellsGroups text groups → has_byte byte text ≡ false
groups_lack byte text groups above other (inl full) = row_lacks form.Groups byte text groups above other full.1
groups_lack byte text groups above other (inr short) =
    ap (has_byte byte) short.cut
    ∙ has_byte-append byte short.left_text (58 ∷ 58 ∷ short.right_text) (row_lacks form.Groups byte short.left_text short.left above other short.left_row)
    (has_byte-other byte 58 (58 ∷ short.right_text) other
    (has_byte-other byte 58 short.right_text other (row_lacks form.Groups byte short.right_text short.right above other short.right_row)))

-- an address has no slash
pub no_slash : (text : List ℕ) (a : Addr) → Spells text a → has_byte 47 text ≡ false
no_slash text (addr.V4 value) spells = row_lacks form.Octets 47 text spells.octets (omega arith) refl spells.row
no_slash text (addr.V6 value) spells = groups_lack 47 text spells.groups (omega arith) refl spells.form

-- an IPv4 address has no colon, an IPv6 address has one
v4_colon : (text : List ℕ) (value : ℕ) → SpellsV4 text value → has_byte 58 text ≡ false
v4_colon text value spells = row_lacks form.Octets 58 text spells.octets (omega arith) refl spells.row

full_colon : (text groups : List ℕ) → SpellsFull text groups → has_byte 58 text ≡ true
full_colon text [] full = absurd (let eight = full.0 in omega arith)
full_colon text (x ∷ []) full = absurd (let eight = full.0 in omega arith)
full_colon text (x ∷ y ∷ ys) full = ap (has_byte 58) full.1.2 ∙ has_byte-here 58 full.1.0 full.1.1

groups_colon : (text groups : List ℕ) → SpellsGroups text groups → has_byte 58 text ≡ true
groups_colon text groups (inl full) = full_colon text groups full
groups_colon text groups (inr short) = ap (has_byte 58) short.cut ∙ has_byte-here 58 short.left_text (58 ∷ short.right_text)

v6_colon : (text : List ℕ) (value : ℕ) → SpellsV6 text value → has_byte 58 text ≡ true
v6_colon text value spells = groups_colon text spells.groups spells.form

pub no_v4 : (text : List ℕ) → has_byte 58 text ≡ true → ((value : ℕ) → SpellsV6 text value → ⊥) → (a : Addr) → Spells text a → ⊥
no_v4 text colon none (addr.V4 value) spells = let no : true ≡ false = sym colon ∙ v4_colon text value spells in cc
no_v4 text colon none (addr.V6 value) spells = none value spells

pub no_v6 : (text : List ℕ) → has_byte 58 text ≡ false → ((value : ℕ) → SpellsV4 text value → ⊥) → (a : Addr) → Spells text a → ⊥
no_v6 text colon none (addr.V4 value) spells = none value spells
no_v6 text colon none (addr.V6 value) spells = let no : true ≡ false = sym (v6_colon text value spells) ∙ colon in cc

-- no text spells two addresses
pub one_addr : (text : List ℕ) (a b : Addr) → Spells text a → Spells text b → a ≡ b
one_addr text (addr.V4 m) (addr.V4 n) a b = ap addr.V4 (one_v4 text m n a b)
one_addr text (addr.V4 m) (addr.V6 n) a b = absurd (let no : true ≡ false = sym (v6_colon text n b) ∙ v4_colon text m a in cc)
one_addr text (addr.V6 m) (addr.V4 n) a b = absurd (let no : true ≡ false = sym (v6_colon text m a) ∙ v4_colon text n b in cc)
one_addr text (addr.V6 m) (addr.V6 n) a b = ap addr.V6 (one_v6 text m n a b)
