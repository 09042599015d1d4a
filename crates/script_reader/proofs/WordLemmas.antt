-- Going over the words of bytes from the left.
use Rattle.std.proofs.Common.{◌≡◌, ◌≢◌, ℕ, ◌+◌, ◌<◌, ◌==◌, suc, Bool, true, false, not, List, [], ◌∷◌, length, drop, take, get_or, cond, sym, ◌∙◌, ap, refl, arith, one-add, inl, inr, ◌-◌, subst, length-drop}
use Rattle.std.proofs.lemmas.List.{drop-drop}
use Rattle.std.proofs.Math.Seq.{take-length}
use Rattle.std.proofs.lemmas.Bool.Decides.{eqb_tells}
use Rattle.std.specs.List.{prefix_len}
use Rattle.script_reader.specs.Words.{Word, is_space, is_no_space, word_at, words_from}

-- a space in front
pub words_from-space : (column : ℕ) (in_word : Bool) (byte : ℕ) (bytes : List ℕ) → (byte == 32) ≡ true →
    words_from column in_word (byte ∷ bytes) ≡ words_from (suc column) false bytes
words_from-space column in_word byte bytes e = rw e refl

-- a byte of the word that was begun
pub words_from-within : (column : ℕ) (byte : ℕ) (bytes : List ℕ) → (byte == 32) ≡ false →
    words_from column true (byte ∷ bytes) ≡ words_from (suc column) true bytes
words_from-within column byte bytes e = rw e refl

-- the first byte of a word
pub words_from-begins : (column : ℕ) (byte : ℕ) (bytes : List ℕ) → (byte == 32) ≡ false →
    words_from column false (byte ∷ bytes) ≡ record { column = column; text = word_at (byte ∷ bytes) } ∷ words_from (suc column) true bytes
words_from-begins column byte bytes e = rw e refl

-- so many bytes on
moved : (column n : ℕ) (byte : ℕ) (bytes : List ℕ) →
    words_from (column + (1 + n)) false (drop (1 + n) (byte ∷ bytes)) ≡ words_from (suc column + n) false (drop n bytes)
moved column n byte bytes = ap (λ (m : ℕ). words_from (column + m) false (drop m (byte ∷ bytes))) {x = 1 + n} {y = suc n} (omega arith) ∙ ap (λ (m : ℕ). words_from m false (drop n bytes)) (omega arith)

stays : (column : ℕ) (bytes : List ℕ) → words_from (column + 0) false (drop 0 bytes) ≡ words_from column false bytes
stays column bytes = ap (λ (m : ℕ). words_from m false bytes) (omega arith)

-- in the midst of a word: the next one begins after its rest
pub behind_word : (column : ℕ) (bytes : List ℕ) →
    words_from (column + prefix_len is_no_space bytes) false (drop (prefix_len is_no_space bytes) bytes) ≡ words_from column true bytes
behind_word column [] = refl
behind_word column (byte ∷ bytes) = by (byte == 32) refl (behind_word (suc column) bytes)
  where
    by : (t : Bool) → (byte == 32) ≡ t →
        words_from (suc column + prefix_len is_no_space bytes) false (drop (prefix_len is_no_space bytes) bytes) ≡ words_from (suc column) true bytes →
        words_from (column + cond (not t) (1 + prefix_len is_no_space bytes) 0) false (drop (cond (not t) (1 + prefix_len is_no_space bytes) 0) (byte ∷ bytes)) ≡ words_from column true (byte ∷ bytes)
    by true e rest = stays column (byte ∷ bytes) ∙ words_from-space column false byte bytes e ∙ sym (words_from-space column true byte bytes e)
    by false e rest = moved column (prefix_len is_no_space bytes) byte bytes ∙ rest ∙ sym (words_from-within column byte bytes e)

-- spaces in front
pub behind_spaces : (column : ℕ) (bytes : List ℕ) →
    words_from (column + prefix_len is_space bytes) false (drop (prefix_len is_space bytes) bytes) ≡ words_from column false bytes
behind_spaces column [] = refl
behind_spaces column (byte ∷ bytes) = by (byte == 32) refl (behind_spaces (suc column) bytes)
  where
    by : (t : Bool) → (byte == 32) ≡ t →
        words_from (suc column + prefix_len is_space bytes) false (drop (prefix_len is_space bytes) bytes) ≡ words_from (suc column) false bytes →
        words_from (column + cond t (1 + prefix_len is_space bytes) 0) false (drop (cond t (1 + prefix_len is_space bytes) 0) (byte ∷ bytes)) ≡ words_from column false (byte ∷ bytes)
    by true e rest = moved column (prefix_len is_space bytes) byte bytes ∙ rest ∙ sym (words_from-space column false byte bytes e)
    by false e rest = stays column (byte ∷ bytes)

-- no space is after the spaces in front
pub no_space_first : (bytes : List ℕ) → get_or (drop (prefix_len is_space bytes) bytes) 0 0 ≢ 32
no_space_first [] = λ e. absurd (omega (arith, e))
no_space_first (byte ∷ bytes) = by (byte == 32) refl (no_space_first bytes)
  where
    by : (t : Bool) → (byte == 32) ≡ t → get_or (drop (prefix_len is_space bytes) bytes) 0 0 ≢ 32 →
        get_or (drop (cond t (1 + prefix_len is_space bytes) 0) (byte ∷ bytes)) 0 0 ≢ 32
    by true e rest = rw one-add rest
    by false e rest = elim (eqb_tells byte 32) [ inl told ↦ λ _. absurd (let no : true ≡ false = sym told.0 ∙ e in cc) | inr told ↦ told.1 ]

-- at a word: the words after the first one
pub others_from : (column : ℕ) (bytes : List ℕ) → get_or bytes 0 0 ≢ 32 →
    drop 1 (words_from column false bytes) ≡ words_from column true bytes
others_from column [] apart = refl
others_from column (byte ∷ bytes) apart = elim (eqb_tells byte 32) [
  | inl told ↦ absurd (apart told.1)
  | inr told ↦ ap (drop 1) (words_from-begins column byte bytes told.0) ∙ sym (words_from-within column byte bytes told.0)
]

-- at a word: it, and the words after it
pub first_and_others : (column : ℕ) (bytes : List ℕ) → get_or bytes 0 0 ≢ 32 → 0 < prefix_len is_no_space bytes →
    words_from column false bytes ≡ record { column = column; text = take (prefix_len is_no_space bytes) bytes } ∷ drop 1 (words_from column false bytes)
first_and_others column [] apart some = absurd (omega arith)
first_and_others column (byte ∷ bytes) apart some = elim (eqb_tells byte 32) [
  | inl told ↦ absurd (apart told.1)
  | inr told ↦ let is = words_from-begins column byte bytes told.0 in is ∙ ap (λ (words : List Word). record { column = column; text = word_at (byte ∷ bytes) } ∷ words) (sym (ap (drop 1) is))
]

-- the rest of the bytes, as a slice has it
rest_whole : (n : ℕ) (bytes : List ℕ) → take (length bytes - n) (drop n bytes) ≡ drop n bytes
rest_whole n bytes = ap (λ (m : ℕ). take m (drop n bytes)) (sym (length-drop n bytes)) ∙ take-length (drop n bytes)

-- at a word: after it and the spaces after it
pub behind_both : (column len spaces : ℕ) (bytes : List ℕ) → get_or bytes 0 0 ≢ 32 →
    len ≡ prefix_len is_no_space bytes → spaces ≡ prefix_len is_space (take (length bytes - len) (drop len bytes)) →
    words_from (column + (len + spaces)) false (drop (len + spaces) bytes) ≡ drop 1 (words_from column false bytes)
behind_both column len spaces bytes apart word more =
    let space_is : spaces ≡ prefix_len is_space (drop len bytes) = more ∙ ap (prefix_len is_space) (rest_whole len bytes) in
    ap (λ (xs : List ℕ). words_from (column + (len + spaces)) false xs) (sym (drop-drop spaces len bytes))
    ∙ ap (λ (m : ℕ). words_from m false (drop spaces (drop len bytes))) (omega arith)
    ∙ ap (λ (m : ℕ). words_from (column + len + m) false (drop m (drop len bytes))) space_is
    ∙ behind_spaces (column + len) (drop len bytes)
    ∙ ap (λ (m : ℕ). words_from (column + m) false (drop m bytes)) word
    ∙ behind_word column bytes
    ∙ sym (others_from column bytes apart)

pub at_word_behind : (len spaces : ℕ) (bytes : List ℕ) → spaces ≡ prefix_len is_space (take (length bytes - len) (drop len bytes)) →
    get_or (drop (len + spaces) bytes) 0 0 ≢ 32
at_word_behind len spaces bytes more =
    let space_is : spaces ≡ prefix_len is_space (drop len bytes) = more ∙ ap (prefix_len is_space) (rest_whole len bytes) in
    subst (λ (xs : List ℕ). get_or xs 0 0 ≢ 32) (ap (λ (m : ℕ). drop m (drop len bytes)) (sym space_is) ∙ drop-drop spaces len bytes) (no_space_first (drop len bytes))

-- at a word of no bytes nothing is left
pub no_bytes : (bytes : List ℕ) → get_or bytes 0 0 ≢ 32 → prefix_len is_no_space bytes ≡ 0 → bytes ≡ []
no_bytes [] apart none = refl
no_bytes (byte ∷ bytes) apart none = elim (eqb_tells byte 32) [
  | inl told ↦ absurd (apart told.1)
  | inr told ↦ absurd (some (byte == 32) told.0 none)
]
  where
    some : (t : Bool) → t ≡ false → cond (not t) (1 + prefix_len is_no_space bytes) 0 ≡ 0 → ⊥
    some true is e = cc
    some false _ e = omega arith
