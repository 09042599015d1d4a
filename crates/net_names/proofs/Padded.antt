-- A name in its buffer.
use Rattle.std.proofs.Common.{◌≡◌, ◌∙◌, ◌≤◌, ◌-◌, ◌++◌, ℕ, true, List, length, take, drop, ap, arith, length-append, length-drop, nat_le}
use Rattle.std.proofs.lemmas.List.{take_at, drop_at, drop-replicate, length-replicate}
use Rattle.std.proofs.lemmas.Bool.Decides.{nat_tests}
use Rattle.std.specs.Prelude.{replicate}
use Rattle.std.specs.List.{list_all}
use Rattle.net_names.specs.Name.{is_name, is_name_byte}

pub is_name-from : (bytes : List ℕ) → 1 ≤ length bytes → length bytes ≤ 15 → list_all is_name_byte bytes ≡ true → is_name bytes ≡ true
is_name-from bytes some fits all =
    let one : nat_le 1 (length bytes) ≡ true = grind (arith, nat_tests) in
    let two : nat_le (length bytes) 15 ≡ true = grind (arith, nat_tests) in
    rw (one, two) all

-- the bytes, copied over the front of 15 zeros
pub name_padded : (bytes copied zeros : List ℕ) → copied ≡ bytes → zeros ≡ replicate 15 0 → is_name bytes ≡ true → length bytes ≤ 15
    → (length (copied ++ drop (length bytes) zeros) ≡ 15) × (length bytes ≤ 15) × (is_name (take (length bytes) (copied ++ drop (length bytes) zeros)) ≡ true)
    × (drop (length bytes) (copied ++ drop (length bytes) zeros) ≡ replicate (15 - length bytes) 0)
name_padded bytes copied zeros same zeros_is name fits =
    let len : length copied ≡ length bytes = ap length same in
    let whole : length zeros ≡ 15 = ap length zeros_is ∙ length-replicate {A = ℕ} 15 0 in (
      length-append copied (drop (length bytes) zeros) ∙ omega (arith, length-drop (length bytes) zeros),
      fits,
      ap is_name (take_at copied (drop (length bytes) zeros) (length bytes) len ∙ same) ∙ name,
      drop_at copied (drop (length bytes) zeros) (length bytes) len ∙ ap (drop (length bytes)) zeros_is ∙ drop-replicate {X = ℕ} (length bytes) 15 0,
    )
