-- The form of a name: as short as the kernel's names of links, and of bytes that no text needs to escape.
use Rattle.std.specs.Prelude.{◌≡◌, ℕ, ◌==◌, ◌≤◌, ◌-◌, ◌++◌, ◌&&◌, ◌||◌, Bool, List, nat_le, length, take, drop, replicate, codes}
use Rattle.std.specs.Char.{is_ascii_alphanumeric}
use Rattle.std.specs.List.{list_all, list_any}
use Rattle.std.proofs.Common.{ap, sym, ◌∙◌, arith}
use Rattle.std.proofs.lemmas.List.{length-take-le, take-append-drop}

-- a letter, a digit, `_`, `.` or `-`
abbrev pub is_name_byte : ℕ → Bool
is_name_byte byte = is_ascii_alphanumeric byte || list_any (λ mark. byte == mark) (codes "_.-")

-- 1 to 15 such bytes
abbrev pub is_name : List ℕ → Bool
is_name bytes = nat_le 1 (length bytes) && nat_le (length bytes) 15 && list_all is_name_byte bytes

-- a buffer of 15 bytes with zeros after its first bytes is given back by those
pub padded_back : (buffer : List ℕ) (len : ℕ) → length buffer ≡ 15 → len ≤ 15 → drop len buffer ≡ replicate (15 - len) 0
    → (take len buffer ++ replicate (15 - length (take len buffer)) 0 ≡ buffer) × (length (take len buffer) ≡ len)
padded_back buffer len whole fits zeros =
    let same_len : length (take len buffer) ≡ len = length-take-le len buffer (omega arith) in (
      ap (λ n. take len buffer ++ replicate (15 - n) 0) same_len ∙ ap (λ l. take len buffer ++ l) (sym zeros) ∙ take-append-drop len buffer,
      same_len,
    )
