-- The values of what is spelled.
use Rattle.std.proofs.Common.{◌≡◌, ℕ, ◌+◌, ◌-◌, ◌^◌, ◌<◌, inl, inr, List, [], ◌∷◌, ◌++◌, length, replicate, zero, suc, sym, subst, ap, ◌∙◌, length-append, arith}
use Rattle.std.specs.Int.Digits.{AllBelowBase, number_from_digits}
use Rattle.std.proofs.lemmas.Int.Digits.{number_lt}
use Rattle.std.proofs.lemmas.List.{length-replicate}
use Rattle.addr_text.specs.Forms.{base_of, SpellsPart, SpellsParts}
use Rattle.addr_text.specs.Grammar.{SpellsGroups, SpellsV4, SpellsV6}
use Rattle.addr_text.specs.declared.form.Form.{Form}
use Rattle.addr_text.specs.declared.form.Form.TheVariants as form
use Rattle.addr_text.proofs.Parts.{SpellsGroup-small}
use Rattle.addr_text.proofs.Rows.{one_row}
use Rattle.addr_text.proofs.GroupForms.{one_list}

part_below : (f : Form) (text : List ℕ) (x : ℕ) → SpellsPart f text x → x < base_of f
part_below form.Octets text x spells = spells.1
part_below form.Groups text x spells = let small = SpellsGroup-small text x spells in let is = spells.2 in omega arith

pub parts_below : (f : Form) (text : List ℕ) (xs : List ℕ) → SpellsParts f text xs → AllBelowBase (base_of f) xs
parts_below f text [] spells = tt
parts_below f text (x ∷ []) spells = (part_below f text x spells, tt)
parts_below f text (x ∷ y ∷ ys) spells = (part_below f spells.0 x spells.3, parts_below f spells.1 (y ∷ ys) spells.4)

pub below-append : (base : ℕ) (xs ys : List ℕ) → AllBelowBase base xs → AllBelowBase base ys → AllBelowBase base (xs ++ ys)
below-append base [] ys a b = b
below-append base (x ∷ xs) ys a b = (a.0, below-append base xs ys a.1 b)

below-zeros : (base n : ℕ) → 0 < base → AllBelowBase base (replicate n 0)
below-zeros base zero some = tt
below-zeros base (suc n) some = (some, below-zeros base n some)

-- eight groups
pub groups_eight : (text groups : List ℕ) → SpellsGroups text groups → length groups ≡ 8
groups_eight text groups (inl full) = full.0
groups_eight text groups (inr short) =
    let few = short.few in
    let zeros : ℕ = 8 - (length short.left + length short.right) in
    ap length short.all ∙ length-append short.left (replicate (8 - (length short.left + length short.right)) 0 ++ short.right)
    ∙ ap (λ (n : ℕ). length short.left + n) (length-append (replicate (8 - (length short.left + length short.right)) 0) short.right)
    ∙ ap (λ (n : ℕ). length short.left + (n + length short.right)) (length-replicate (8 - (length short.left + length short.right)) 0)
    ∙ omega arith

pub groups_below : (text groups : List ℕ) → SpellsGroups text groups → AllBelowBase 65536 groups
groups_below text groups (inl full) = parts_below form.Groups text groups full.1
groups_below text groups (inr short) = subst (λ (gs : List ℕ). AllBelowBase 65536 gs) (sym short.all)
    (below-append 65536 short.left (replicate (8 - (length short.left + length short.right)) 0 ++ short.right) (parts_below form.Groups short.left_text short.left short.left_row)
    (below-append 65536 (replicate (8 - (length short.left + length short.right)) 0) short.right (below-zeros 65536 _ (omega arith)) (parts_below form.Groups short.right_text short.right short.right_row)))

pub groups_fit : (groups : List ℕ) → length groups ≡ 8 → AllBelowBase 65536 groups → number_from_digits 65536 groups < 2 ^ 128
groups_fit groups eight below = let less : number_from_digits 65536 groups < 65536 ^ length groups = number_lt 65536 groups below in
    let most : 65536 ^ length groups ≡ 65536 ^ 8 = ap (λ (n : ℕ). 65536 ^ n) eight in omega arith

pub list_fits : (text groups : List ℕ) → SpellsGroups text groups → number_from_digits 65536 groups < 2 ^ 128
list_fits text groups spells = groups_fit groups (groups_eight text groups spells) (groups_below text groups spells)

-- no text spells two addresses of one family
pub one_v4 : (text : List ℕ) (m n : ℕ) → SpellsV4 text m → SpellsV4 text n → m ≡ n
one_v4 text m n a b = sym a.number ∙ ap (number_from_digits 256) (one_row form.Octets text a.octets b.octets a.row b.row) ∙ b.number

pub one_v6 : (text : List ℕ) (m n : ℕ) → SpellsV6 text m → SpellsV6 text n → m ≡ n
one_v6 text m n a b = sym a.number ∙ ap (number_from_digits 65536) (one_list text a.groups b.groups a.form b.form) ∙ b.number

pub none_four : (text octets : List ℕ) → SpellsParts form.Octets text octets → (length octets ≡ 4 → ⊥) → (value : ℕ) → SpellsV4 text value → ⊥
none_four text octets row count value spells = count (ap length (one_row form.Octets text octets spells.octets row spells.row) ∙ spells.four)
