-- The two forms of eight groups, at a text that is cut at a gap or has none.
use Rattle.std.proofs.Common.{◌≡◌, ℕ, ◌+◌, ◌-◌, ◌<◌, ◌≤◌, inl, inr, true, false, List, ◌∷◌, ◌++◌, length, replicate, sym, subst, ap, ◌∙◌, arith}
use Rattle.addr_text.specs.Forms.{SpellsParts}
use Rattle.addr_text.specs.Grammar.{SpellsFull, SpellsGroups, SpellsShort}
use Rattle.addr_text.specs.declared.form.Form.TheVariants as form
use Rattle.addr_text.proofs.Gaps.{colon-row, cut_gap, has_gap, has_gap-here, row-colon, row-gap}
use Rattle.addr_text.proofs.Rows.{one_row}

-- form 1 has no gap
pub full_lacks_gap : (text left right groups : List ℕ) → text ≡ left ++ 58 ∷ 58 ∷ right → SpellsFull text groups → ⊥
full_lacks_gap text left right groups cut full =
    let no : true ≡ false = sym (ap has_gap cut ∙ has_gap-here left right) ∙ row-gap text groups full.1 in cc

-- form 2 is cut where the gap is
pub short_cut : (text left right groups : List ℕ) → text ≡ left ++ 58 ∷ 58 ∷ right → (short : SpellsShort text groups) →
    SpellsParts form.Groups left short.left × SpellsParts form.Groups right short.right
short_cut text left right groups cut short =
    let same = cut_gap left short.left_text right short.right_text (sym cut ∙ short.cut) (row-colon short.left_text short.left short.left_row) (colon-row short.right_text short.right short.right_row) in (
      subst (λ (t : List ℕ). SpellsParts form.Groups t short.left) (sym same.0) short.left_row,
      subst (λ (t : List ℕ). SpellsParts form.Groups t short.right) (sym same.1) short.right_row,
    )

pub none_left : (text left right : List ℕ) → text ≡ left ++ 58 ∷ 58 ∷ right → ((parts : List ℕ) → length parts ≤ 8 → SpellsParts form.Groups left parts → ⊥) →
    (groups : List ℕ) → SpellsGroups text groups → ⊥
none_left text left right cut none groups (inl full) = full_lacks_gap text left right groups cut full
none_left text left right cut none groups (inr short) = none short.left (let few = short.few in omega arith) (short_cut text left right groups cut short).0

pub none_right : (text left right : List ℕ) → text ≡ left ++ 58 ∷ 58 ∷ right → ((parts : List ℕ) → length parts ≤ 8 → SpellsParts form.Groups right parts → ⊥) →
    (groups : List ℕ) → SpellsGroups text groups → ⊥
none_right text left right cut none groups (inl full) = full_lacks_gap text left right groups cut full
none_right text left right cut none groups (inr short) = none short.right (let few = short.few in omega arith) (short_cut text left right groups cut short).1

-- more than seven groups beside the gap
pub none_many : (text left right ls rs : List ℕ) → text ≡ left ++ 58 ∷ 58 ∷ right → SpellsParts form.Groups left ls → SpellsParts form.Groups right rs → 7 < length ls + length rs →
    (groups : List ℕ) → SpellsGroups text groups → ⊥
none_many text left right ls rs cut l r many groups (inl full) = full_lacks_gap text left right groups cut full
none_many text left right ls rs cut l r many groups (inr short) =
    let spelled = short_cut text left right groups cut short in
    let few = short.few in
    let same_left : length short.left ≡ length ls = ap length (one_row form.Groups left short.left ls spelled.0 l) in
    let same_right : length short.right ≡ length rs = ap length (one_row form.Groups right short.right rs spelled.1 r) in
    omega arith

-- no gap, and a row of another length
pub none_count : (text parts : List ℕ) → ((left right : List ℕ) → text ≡ left ++ 58 ∷ 58 ∷ right → ⊥) → SpellsParts form.Groups text parts → (length parts ≡ 8 → ⊥) →
    (groups : List ℕ) → SpellsGroups text groups → ⊥
none_count text parts whole row count groups (inl full) = count (ap length (one_row form.Groups text parts groups row full.1) ∙ full.0)
none_count text parts whole row count groups (inr short) = whole short.left_text short.right_text short.cut

-- no text spells two lists of eight groups
pub one_list : (text xs ys : List ℕ) → SpellsGroups text xs → SpellsGroups text ys → xs ≡ ys
one_list text xs ys (inl a) (inl b) = one_row form.Groups text xs ys a.1 b.1
one_list text xs ys (inl a) (inr b) = absurd (full_lacks_gap text b.left_text b.right_text xs b.cut a)
one_list text xs ys (inr a) (inl b) = absurd (full_lacks_gap text a.left_text a.right_text ys a.cut b)
one_list text xs ys (inr a) (inr b) =
    let spelled = short_cut text b.left_text b.right_text xs b.cut a in
    let same_left : a.left ≡ b.left = one_row form.Groups b.left_text a.left b.left spelled.0 b.left_row in
    let same_right : a.right ≡ b.right = one_row form.Groups b.right_text a.right b.right spelled.1 b.right_row in
    a.all ∙ ap (λ (l : List ℕ). l ++ (replicate (8 - (length l + length a.right)) 0 ++ a.right)) same_left
    ∙ ap (λ (r : List ℕ). b.left ++ (replicate (8 - (length b.left + length r)) 0 ++ r)) same_right ∙ sym b.all
