-- Words with one space between each two.
use Rattle.std.proofs.Common.{◌≡◌, ℕ, ◌+◌, ◌<◌, ◌==◌, Bool, true, false, not, cond, suc, List, [], ◌∷◌, ◌++◌, length, refl, sym, ap, ◌∙◌, subst, arith}
use Rattle.std.proofs.lemmas.Bool.Decides.{nat_tests}
use Rattle.std.proofs.lemmas.List.{append-nil}
use Rattle.std.proofs.lemmas.List.Folds.{list_all-append}
use Rattle.std.proofs.lemmas.List.Sums.{take_while-cons}
use Rattle.std.specs.List.{join_with_byte, list_all}
use Rattle.script_reader.specs.Lines.{is_printable}
use Rattle.script_reader.specs.Words.{Word, is_no_space, texts, word_at, words_from}
use Rattle.word_text.proofs.Graphic.{IsGraphic, is_graphic}
use Rattle.word_text.proofs.Tests.{both, both_true}
use Rattle.script_reader.proofs.WordLemmas.{words_from-begins, words_from-space, words_from-within}

graphic_printed : (byte : ℕ) → is_graphic byte ≡ true → is_printable byte ≡ true
graphic_printed byte e = grind (arith, nat_tests)

graphic_no_space : (byte : ℕ) → is_graphic byte ≡ true → is_no_space byte ≡ true
graphic_no_space byte e = grind (arith, nat_tests)

abbrev pub AreGraphic : List (List ℕ) → Type 0
AreGraphic [] = Unit {0}
AreGraphic (text ∷ others) = IsGraphic text × AreGraphic others

-- nothing, or a space first
abbrev EndsWord : List ℕ → Type 0
EndsWord [] = Unit {0}
EndsWord (byte ∷ bytes) = byte ≡ 32

no_space : (byte : ℕ) → is_graphic byte ≡ true → (byte == 32) ≡ false
no_space byte e = by (byte == 32) (graphic_no_space byte e)
  where
    by : (b : Bool) → not b ≡ true → b ≡ false
    by true h = cc
    by false h = refl

-- the rest of a word, and what stands after it
rest_of_word : (column : ℕ) (word rest : List ℕ) → list_all is_graphic word ≡ true → words_from column true (word ++ rest) ≡ words_from (column + length word) true rest
rest_of_word column [] rest all = ap (λ (c : ℕ). words_from c true rest) (omega arith)
rest_of_word column (byte ∷ word) rest all =
    let parts = both_true (is_graphic byte) (list_all is_graphic word) all in
    words_from-within column byte (word ++ rest) (no_space byte parts.0)
    ∙ rest_of_word (suc column) word rest parts.1
    ∙ ap (λ (c : ℕ). words_from c true rest) (omega arith)

word_at-front : (word rest : List ℕ) → list_all is_graphic word ≡ true → EndsWord rest → word_at (word ++ rest) ≡ word
word_at-front [] [] all ends = refl
word_at-front [] (byte ∷ rest) all ends = subst (λ (b : ℕ). word_at (b ∷ rest) ≡ []) (sym ends) refl
word_at-front (byte ∷ word) rest all ends =
    let parts = both_true (is_graphic byte) (list_all is_graphic word) all in
    take_while-cons is_no_space byte (word ++ rest)
    ∙ ap (λ (b : Bool). cond b (byte ∷ word_at (word ++ rest)) []) (graphic_no_space byte parts.0)
    ∙ ap (λ (w : List ℕ). byte ∷ w) (word_at-front word rest parts.1 ends)

first_word : (column : ℕ) (word rest : List ℕ) → IsGraphic word → EndsWord rest →
    texts (words_from column false (word ++ rest)) ≡ word ∷ texts (words_from (column + length word) true rest)
first_word column [] rest graphic ends = absurd (let some : 0 < length {A = ℕ} [] = graphic.some in omega arith)
first_word column (byte ∷ word) rest graphic ends =
    let parts = both_true (is_graphic byte) (list_all is_graphic word) graphic.all in
    ap texts (words_from-begins column byte (word ++ rest) (no_space byte parts.0))
    ∙ ap (λ (w : List ℕ). w ∷ texts (words_from (suc column) true (word ++ rest))) (word_at-front (byte ∷ word) rest graphic.all ends)
    ∙ ap (λ (ws : List Word). (byte ∷ word) ∷ texts ws) (rest_of_word (suc column) word rest parts.1)
    ∙ ap (λ (c : ℕ). (byte ∷ word) ∷ texts (words_from c true rest)) (omega arith)

-- the words are those that were joined
pub words_joined : (column : ℕ) (words : List (List ℕ)) → AreGraphic words → texts (words_from column false (join_with_byte 32 words)) ≡ words
words_joined column [] graphic = refl
words_joined column (word ∷ []) graphic =
    ap (λ (t : List ℕ). texts (words_from column false t)) (sym (append-nil word)) ∙ first_word column word [] graphic.0 tt
words_joined column (word ∷ next ∷ words) graphic =
    first_word column word (32 ∷ join_with_byte 32 (next ∷ words)) graphic.0 refl
    ∙ ap (λ (ws : List Word). word ∷ texts ws) (words_from-space (column + length word) true 32 (join_with_byte 32 (next ∷ words)) refl)
    ∙ ap (λ (ts : List (List ℕ)). word ∷ ts) (words_joined (suc (column + length word)) (next ∷ words) graphic.1)

printed_word : (word : List ℕ) → list_all is_graphic word ≡ true → list_all is_printable word ≡ true
printed_word [] all = refl
printed_word (byte ∷ word) all =
    let parts = both_true (is_graphic byte) (list_all is_graphic word) all in
    both (is_printable byte) (list_all is_printable word) (graphic_printed byte parts.0) (printed_word word parts.1)

-- the bytes of the joined words are printed
pub printed_joined : (words : List (List ℕ)) → AreGraphic words → list_all is_printable (join_with_byte 32 words) ≡ true
printed_joined [] graphic = refl
printed_joined (word ∷ []) graphic = printed_word word graphic.0.all
printed_joined (word ∷ next ∷ words) graphic =
    list_all-append is_printable word (32 ∷ join_with_byte 32 (next ∷ words))
    ∙ both (list_all is_printable word) (list_all is_printable (32 ∷ join_with_byte 32 (next ∷ words))) (printed_word word graphic.0.all) (printed_joined (next ∷ words) graphic.1)
