-- What a word looks like, as `clap` and as the forms see it.
use Rattle.std.proofs.Common.{◌≡◌, ◌∙◌, ◌==◌, ◌++◌, ◌+◌, ℕ, suc, Bool, true, false, [], ◌∷◌, Option, Some, None, codes, refl, sym, ap, if◌then◌else◌, take, drop, length, option_and_then, not, ◌||◌, arith, ap₂}
use Rattle.std.proofs.lemmas.Slice.Eq.{bytes_eq-Decides}
use Rattle.std.proofs.lemmas.Bool.{eqb-true, or_parts}
use Rattle.std.specs.Str.{bytes_eq}
use Rattle.std.specs.List.{position_or_len}
use Rattle.clap.specs.Lexer.{long_of, long_of_rest, short_of, short_of_rest, strip_byte, has_byte, name_and_value}
use Rattle.command_words.specs.Forms.{Text}
use Rattle.command_words.specs.Refused.{is_dashed, is_dashed_rest, is_help, is_refused}
use Rattle.command_words.proofs.Walk.{after_prefix, text_word, other_word, Which, refuse, broken}
use Rattle.command_words.proofs.Walk.{plain as plain_word, stranger as stranger_word, bare as bare_word, attached as attached_as}
use Rattle.command_words.proofs.Accepted.{name_of}

strip_text : (c : ℕ) (w r : Text) → strip_byte c w ≡ Some r → w ≡ c ∷ r
strip_text c [] r e = cc
strip_text c (x ∷ xs) r e = by (x == c) refl e
  where
    by : (b : Bool) → (x == c) ≡ b → (if b then Some xs else None) ≡ Some r → x ∷ xs ≡ c ∷ r
    by true t h = let same : x ≡ c = eqb-true x c t in cc
    by false t h = cc

-- `=` and what follows it
abbrev pub tail : Option Text → Text
tail None = []
tail (Some t) = 61 ∷ t

shifted : (k m n : ℕ) (x : ℕ) (xs : Text) (b : Bool) → k ≡ suc n → m ≡ suc (n + 1) → xs ≡ take n xs ++ tail (if b then Some (drop (n + 1) xs) else None)
    → x ∷ xs ≡ take k (x ∷ xs) ++ tail (if b then Some (drop m (x ∷ xs)) else None)
shifted k m n x xs b one two ih = rw (one, two) (ap (λ l. x ∷ l) ih)

pub split_text : (r : Text) → r ≡ (name_and_value r).0 ++ tail ((name_and_value r).1)
split_text [] = refl
split_text (x ∷ xs) = by (x == 61) refl (split_text xs)
  where
    by : (b : Bool) → (x == 61) ≡ b → xs ≡ (name_and_value xs).0 ++ tail ((name_and_value xs).1)
        → x ∷ xs ≡ take (if not b then 1 + position_or_len (λ y. y == 61) xs else 0) (x ∷ xs)
        ++ tail (if b || has_byte 61 xs then Some (drop ((if not b then 1 + position_or_len (λ y. y == 61) xs else 0) + 1) (x ∷ xs)) else None)
    by true t ih = ap (λ y. y ∷ xs) (eqb-true x 61 t)
    by false t ih = let n = position_or_len (λ y. y == 61) xs in shifted (1 + n) (1 + n + 1) n x xs (has_byte 61 xs) (omega arith) (omega arith) ih

two_dashes : (w r : Text) → option_and_then (strip_byte 45) (strip_byte 45 w) ≡ Some r → w ≡ 45 ∷ 45 ∷ r
two_dashes w r e = by (strip_byte 45 w) refl e
  where
    by : (o : Option Text) → strip_byte 45 w ≡ o → option_and_then (strip_byte 45) o ≡ Some r → w ≡ 45 ∷ 45 ∷ r
    by None s h = cc
    by (Some v) s h = strip_text 45 w v s ∙ ap (λ l. 45 ∷ l) (strip_text 45 v r h)

-- a word that is a long option, by its name and its value
pub long_text : (w n : Text) (v : Option Text) → long_of w ≡ Some (n, v) → w ≡ 45 ∷ 45 ∷ (n ++ tail v)
long_text w n v e = by (option_and_then (strip_byte 45) (strip_byte 45 w)) refl e
  where
    by : (o : Option Text) → option_and_then (strip_byte 45) (strip_byte 45 w) ≡ o → option_and_then long_of_rest o ≡ Some (n, v) → w ≡ 45 ∷ 45 ∷ (n ++ tail v)
    by None s h = cc
    by (Some []) s h = cc
    by (Some (x ∷ xs)) s h =
        let pair : name_and_value (x ∷ xs) ≡ (n, v) = cc in
        two_dashes w (x ∷ xs) s ∙ ap (λ l. 45 ∷ 45 ∷ l) (split_text (x ∷ xs) ∙ ap (λ (p : Text × Option Text). p.0 ++ tail p.1) pair)

pub prefix_text : (p w t : Text) → after_prefix p w ≡ Some t → w ≡ p ++ t
prefix_text [] w t e = cc
prefix_text (p ∷ ps) [] t e = cc
prefix_text (p ∷ ps) (x ∷ xs) t e = by (x == p) refl (prefix_text ps xs t) e
  where
    by : (b : Bool) → (x == p) ≡ b → (after_prefix ps xs ≡ Some t → xs ≡ ps ++ t) → (if b then after_prefix ps xs else None) ≡ Some t → x ∷ xs ≡ p ∷ (ps ++ t)
    by true s ih h = ap₂ (λ (y : ℕ) (l : Text). y ∷ l) (eqb-true x p s) (ih h)
    by false s ih h = cc

-- a word is not `--NAME`, where `clap` sees no such option
not_bare : (name w : Text) → (name ≡ w → ⊥) → bytes_eq name w ≡ false
not_bare name w not = by (bytes_eq name w) refl
  where
    by : (b : Bool) → bytes_eq name w ≡ b → b ≡ false
    by true e = absurd (not ((bytes_eq-Decides name w).0 e))
    by false e = refl

not_prefixed : (p w : Text) → ((t : Text) → w ≡ p ++ t → ⊥) → after_prefix p w ≡ None
not_prefixed p w not = by (after_prefix p w) refl
  where
    by : (o : Option Text) → after_prefix p w ≡ o → o ≡ None
    by None e = refl
    by (Some t) e = absurd (not t (prefix_text p w t e))

-- the word of the forms where the word is neither option
neither_word : (w : Text) → (codes "--refuse" ≡ w → ⊥) → (codes "--break" ≡ w → ⊥) → ((t : Text) → w ≡ codes "--refuse=" ++ t → ⊥) → ((t : Text) → w ≡ codes "--break=" ++ t → ⊥)
    → text_word w ≡ other_word (after_prefix (codes "--") w)
neither_word w nr nb pr pb =
    rw (not_bare (codes "--refuse") w nr, not_bare (codes "--break") w nb, not_prefixed (codes "--refuse=") w pr, not_prefixed (codes "--break=") w pb) refl

abbrev Long : Type 0
Long = Option (Text × Option Text)

named_in : Long → Text
named_in None = []
named_in (Some p) = p.0

-- a plain word of `clap`
pub text_plain : (w : Text) → long_of w ≡ None → text_word w ≡ plain_word
text_plain w l = neither_word w
    (λ e. no_option (ap long_of e) l)
    (λ e. no_option (ap long_of e) l)
    (λ t e. no_option (sym (ap long_of e)) l)
    (λ t e. no_option (sym (ap long_of e)) l)
    ∙ by (after_prefix (codes "--") w) refl
  where
    no_option : {o : Text × Option Text} → ◌≡◌ {A = Long} (Some o) (long_of w) → long_of w ≡ None → ⊥
    no_option {o} e n = let bad : ◌≡◌ {A = Long} (Some o) None = e ∙ n in cc

    by : (o : Option Text) → after_prefix (codes "--") w ≡ o → other_word o ≡ plain_word
    by None e = refl
    by (Some []) e = refl
    by (Some (x ∷ xs)) e = absurd (no_option (sym (ap long_of (prefix_text (codes "--") w (x ∷ xs) e))) l)

-- another option
pub text_stranger : (w n : Text) (v : Option Text) → long_of w ≡ Some (n, v) → bytes_eq (codes "refuse") n ≡ false → bytes_eq (codes "break") n ≡ false → text_word w ≡ stranger_word
unfolding named_in
text_stranger w n v l nr nb = neither_word w
    (λ e. other (codes "refuse") nr (ap named_in (ap long_of e ∙ l)))
    (λ e. other (codes "break") nb (ap named_in (ap long_of e ∙ l)))
    (λ t e. other (codes "refuse") nr (ap named_in (sym (ap long_of e) ∙ l)))
    (λ t e. other (codes "break") nb (ap named_in (sym (ap long_of e) ∙ l)))
    ∙ by (after_prefix (codes "--") w) refl
  where
    other : (name : Text) → bytes_eq name n ≡ false → name ≡ n → ⊥
    other name ne e = let bad : true ≡ false = sym ((bytes_eq-Decides name n).1 e) ∙ ne in cc

    by : (o : Option Text) → after_prefix (codes "--") w ≡ o → other_word o ≡ stranger_word
    by None e = let bad : ◌≡◌ {A = Option Text} None (Some (n ++ tail v)) = sym e ∙ ap (after_prefix (codes "--")) (long_text w n v l) in cc
    by (Some []) e = let bad : ◌≡◌ {A = Long} None (Some (n, v)) = sym (ap long_of (prefix_text (codes "--") w [] e)) ∙ l in cc
    by (Some (x ∷ xs)) e = refl

pub text_bare : (w : Text) (o : Which) → long_of w ≡ Some (name_of o, None) → text_word w ≡ bare_word o
text_bare w refuse l = ap text_word (long_text w (codes "refuse") None l)
text_bare w broken l = ap text_word (long_text w (codes "break") None l)

pub text_attached : (w t : Text) (o : Which) → long_of w ≡ Some (name_of o, Some t) → text_word w ≡ attached_as o t
text_attached w t refuse l = ap text_word (long_text w (codes "refuse") (Some t) l)
text_attached w t broken l = ap text_word (long_text w (codes "break") (Some t) l)

-- ---- words with one hyphen

rest_clean : (xs : Text) → is_dashed_rest xs ≡ false → (bytes_eq xs (45 ∷ []) ≡ false) × (short_of_rest xs ≡ None)
rest_clean [] e = (refl, refl)
rest_clean (y ∷ ys) e = by (y == 45) refl ys e
  where
    by : (b : Bool) → (y == 45) ≡ b → (zs : Text) → (if b then length zs == 0 else true) ≡ false → (bytes_eq (y ∷ zs) (45 ∷ []) ≡ false) × (short_of_rest (y ∷ zs) ≡ None)
    by false t zs h = cc
    by true t [] h = cc
    by true t (z ∷ zs) h = (rw t refl, rw t refl)

-- a word that is not dashed is no `--`, and has no short flag
clean_dashed : (w : Text) → is_dashed w ≡ false → (bytes_eq w (codes "--") ≡ false) × (short_of w ≡ None)
clean_dashed [] e = (refl, refl)
clean_dashed (x ∷ xs) e = by (x == 45) refl e
  where
    by : (b : Bool) → (x == 45) ≡ b → (if b then is_dashed_rest xs else false) ≡ false → (bytes_eq (x ∷ xs) (codes "--") ≡ false) × (short_of (x ∷ xs) ≡ None)
    by false t h = (rw t refl, rw t refl)
    by true t h = let clean = rest_clean xs h in (rw t clean.0, rw t clean.1)

-- the same of a word that is not refused
pub clean_from : (w : Text) → is_refused w ≡ false → (bytes_eq w (codes "--") ≡ false) × (short_of w ≡ None)
clean_from w e = clean_dashed w (or_parts (is_dashed w) (is_help w) e).0
