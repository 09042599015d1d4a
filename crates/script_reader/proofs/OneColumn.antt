-- A bad line goes wrong in one column.
use Rattle.std.proofs.Common.{◌≡◌, ℕ, ◌<◌, ◌≤◌, true, false, List, [], ◌∷◌, ◌++◌, length, refl, sym, ap, ◌∙◌, subst, inl, inr, arith, append_assoc}
use Rattle.std.specs.List.{list_all}
use Rattle.word_text.proofs.Tests.{both_true}
use Rattle.script_reader.specs.BadLines.{Begins, GoesWrong, HasBadByte, HasBadWord, IsTooLong, IsUnfinished}
use Rattle.script_reader.specs.Lines.{IsText, is_printable}
use Rattle.script_reader.specs.Words.{Word, texts}
use Rattle.script_reader.proofs.LineOutcomes.{not_all, texts_cut}

-- two first bytes that aren't printed
first_bad : (before behind before' behind' : List ℕ) (byte byte' : ℕ) → before ++ byte ∷ behind ≡ before' ++ byte' ∷ behind' →
    list_all is_printable before ≡ true → is_printable byte ≡ false → list_all is_printable before' ≡ true → is_printable byte' ≡ false → length before ≡ length before'
first_bad [] behind [] behind' byte byte' e p b p' b' = refl
first_bad [] behind (x ∷ before') behind' byte byte' e p b p' b' =
    let same : byte ≡ x = cc in
    absurd (let told : true ≡ false = sym (both_true (is_printable x) (list_all is_printable before') p').0 ∙ ap is_printable (sym same) ∙ b in cc)
first_bad (x ∷ before) behind [] behind' byte byte' e p b p' b' =
    let same : x ≡ byte' = cc in
    absurd (let told : true ≡ false = sym (both_true (is_printable x) (list_all is_printable before) p).0 ∙ ap is_printable same ∙ b' in cc)
first_bad (x ∷ before) behind (y ∷ before') behind' byte byte' e p b p' b' =
    let rest : before ++ byte ∷ behind ≡ before' ++ byte' ∷ behind' = cc in
    let same : length before ≡ length before' =
    first_bad before behind before' behind' byte byte' rest (both_true (is_printable x) (list_all is_printable before) p).1 b (both_true (is_printable y) (list_all is_printable before') p').1 b' in
    omega arith

-- what holds of words holds of the first ones of them
abbrev IsClosed : (List (List ℕ) → Type 0) → Type 0
IsClosed Fact = (first others : List (List ℕ)) → Fact (first ++ others) → Fact first

begins_closed : (IsLine : List (List ℕ) → Type 0) → IsClosed (Begins IsLine)
begins_closed IsLine first others begins = (others ++ begins.0, subst IsLine (append_assoc first others begins.0) begins.1)

-- two words up to which it doesn't hold, and before which it does
one_place : (Fact : List (List ℕ) → Type 0) → IsClosed Fact → (before behind before' behind' : List Word) (word word' : Word) →
    before ++ word ∷ behind ≡ before' ++ word' ∷ behind' → Fact (texts before) → (Fact (texts (before ++ word ∷ [])) → ⊥) →
    Fact (texts before') → (Fact (texts (before' ++ word' ∷ [])) → ⊥) → word.column ≡ word'.column
one_place Fact closed [] behind [] behind' word word' e f n f' n' = let same : word ≡ word' = cc in ap (λ (w : Word). w.column) same
one_place Fact closed [] behind (x ∷ before') behind' word word' e f n f' n' =
    let same : word ≡ x = cc in
    absurd (n (subst (λ (w : Word). Fact (w.text ∷ [])) (sym same) (closed (x.text ∷ []) (texts before') f')))
one_place Fact closed (x ∷ before) behind [] behind' word word' e f n f' n' =
    let same : x ≡ word' = cc in
    absurd (n' (subst (λ (w : Word). Fact (w.text ∷ [])) same (closed (x.text ∷ []) (texts before) f)))
one_place Fact closed (x ∷ before) behind (y ∷ before') behind' word word' e f n f' n' =
    let same : x ≡ y = cc in
    let rest : before ++ word ∷ behind ≡ before' ++ word' ∷ behind' = cc in
    one_place (λ words. Fact (x.text ∷ words)) (λ first others h. closed (x.text ∷ first) others h) before behind before' behind' word word' rest f n
    (subst (λ (w : Word). Fact (w.text ∷ texts before')) (sym same) f')
    (λ h. n' (subst (λ (w : Word). Fact (w.text ∷ texts (before' ++ word' ∷ []))) same h))

byte_and_text : (text : List ℕ) (a : ℕ) → HasBadByte text a → IsText text → ⊥
byte_and_text text a byte is_text = not_all byte.before byte.byte byte.behind byte.bad (ap (list_all is_printable) (sym byte.cut) ∙ is_text.printable)

word_and_end : (IsLine : List (List ℕ) → Type 0) (text : List ℕ) (a b : ℕ) → HasBadWord IsLine text a → IsUnfinished IsLine text b → ⊥
word_and_end IsLine text a b word short =
    word.ends (begins_closed IsLine (texts (word.before ++ word.word ∷ [])) (texts word.behind)
    (subst (Begins IsLine) (ap texts word.cut ∙ texts_cut word.before word.word word.behind) short.begins))

long_and_short : (text : List ℕ) (a : ℕ) → IsTooLong text a → length text ≤ 512 → ⊥
long_and_short text a long short = let over : 512 < length text = long.0 in omega arith

pub one_column : (IsLine : List (List ℕ) → Type 0) (text : List ℕ) (a b : ℕ) → GoesWrong IsLine text a → GoesWrong IsLine text b → a ≡ b
one_column IsLine text a b (inl long) (inl long') = long.1 ∙ sym long'.1
one_column IsLine text a b (inl long) (inr (inl byte)) = absurd (long_and_short text a long byte.short)
one_column IsLine text a b (inl long) (inr (inr (inl word))) = absurd (long_and_short text a long word.is_text.short)
one_column IsLine text a b (inl long) (inr (inr (inr short))) = absurd (long_and_short text a long short.is_text.short)
one_column IsLine text a b (inr (inl byte)) (inl long) = absurd (long_and_short text b long byte.short)
one_column IsLine text a b (inr (inl byte)) (inr (inl byte')) =
    let same : length byte.before ≡ length byte'.before =
    first_bad byte.before byte.behind byte'.before byte'.behind byte.byte byte'.byte (sym byte.cut ∙ byte'.cut) byte.printable byte.bad byte'.printable byte'.bad in
    omega (arith, byte.place, byte'.place)
one_column IsLine text a b (inr (inl byte)) (inr (inr (inl word))) = absurd (byte_and_text text a byte word.is_text)
one_column IsLine text a b (inr (inl byte)) (inr (inr (inr short))) = absurd (byte_and_text text a byte short.is_text)
one_column IsLine text a b (inr (inr (inl word))) (inl long) = absurd (long_and_short text b long word.is_text.short)
one_column IsLine text a b (inr (inr (inl word))) (inr (inl byte)) = absurd (byte_and_text text b byte word.is_text)
one_column IsLine text a b (inr (inr (inl word))) (inr (inr (inl word'))) =
    word.place
    ∙ one_place (Begins IsLine) (begins_closed IsLine) word.before word.behind word'.before word'.behind word.word word'.word (sym word.cut ∙ word'.cut) word.begins word.ends word'.begins word'.ends
    ∙ sym word'.place
one_column IsLine text a b (inr (inr (inl word))) (inr (inr (inr short))) = absurd (word_and_end IsLine text a b word short)
one_column IsLine text a b (inr (inr (inr short))) (inl long) = absurd (long_and_short text b long short.is_text.short)
one_column IsLine text a b (inr (inr (inr short))) (inr (inl byte)) = absurd (byte_and_text text b byte short.is_text)
one_column IsLine text a b (inr (inr (inr short))) (inr (inr (inl word))) = absurd (word_and_end IsLine text b a word short)
one_column IsLine text a b (inr (inr (inr short))) (inr (inr (inr short'))) = short.place ∙ sym short'.place
