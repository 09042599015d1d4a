-- The words of numbers.
use Rattle.std.proofs.Common.{◌≡◌, ◌∙◌, ◌==◌, ◌||◌, ◌&&◌, ◌<◌, ◌≤◌, ◌^◌, ℕ, Bool, true, false, List, [], ◌∷◌, codes, refl, sym, ap, ap₂, subst, arith, is_none, not}
use Rattle.std.specs.Fmt.{decimal}
use Rattle.std.proofs.lemmas.Bool.{ne_eqb}
use Rattle.clap.specs.Lexer.{long_of}
use Rattle.number_text.specs.Numbers.{SpellsDecimal}
use Rattle.number_text.proofs.Spelled.{SpellsDecimal-decimal, digits-of_spelled, decimal-lower}
use Rattle.command_words.specs.Forms.{Text, IsSoak}
use Rattle.command_words.specs.Read.{is_value}
use Rattle.command_words.specs.Refused.{is_dashed, is_help, is_refused}
use Rattle.command_words.proofs.Lists.{digit_low, digit_high, no_dash, no_help, no_long}

-- a word that begins with a digit may be a value
digit_is_value : (d : ℕ) (ds : Text) → 48 ≤ d → d ≤ 57 → is_value (d ∷ ds) ≡ true
digit_is_value d ds low high =
    let dash : (d == 45) ≡ false = ne_eqb d 45 (λ e. omega (arith, e, low)) in
    let other : (d == 104) ≡ false = ne_eqb d 104 (λ e. omega (arith, e, high)) in
    ap₂ (λ (o : Bool) (r : Bool). o && not r) (ap is_none (no_long d ds dash)) (ap₂ (λ (x y : Bool). x || y) (no_dash d ds dash) (no_help d ds dash other))

pub spelled_is_value : (text : Text) (n : ℕ) → SpellsDecimal text n → is_value text ≡ true
spelled_is_value [] n s = absurd (omega (arith, s.numeral.0))
spelled_is_value (d ∷ ds) n s = digit_is_value d ds (digit_low d s.numeral.1.0) (digit_high d s.numeral.1.0)

pub number_is_value : (n : ℕ) → n < 2 ^ 64 → is_value (decimal n) ≡ true
number_is_value n fits = spelled_is_value (decimal n) n (SpellsDecimal-decimal n fits)

-- the text of a number is the one that spells it
pub spelled_is : (text : Text) (n : ℕ) → SpellsDecimal text n → n < 2 ^ 64 → text ≡ decimal n
spelled_is text n spells fits = digits-of_spelled 10 n text (omega arith) (omega arith) (omega (arith, fits)) (decimal-lower text spells.numeral.1) spells

decimal_alike : (m n : ℕ) → m < 2 ^ 64 → n < 2 ^ 64 → decimal m ≡ decimal n → m ≡ n
decimal_alike m n one two same =
    sym (SpellsDecimal-decimal m one).value ∙ (subst (λ (t : Text). SpellsDecimal t n) (sym same) (SpellsDecimal-decimal n two)).value

pub first_of_two : (a b c d e f : Text) → a ∷ b ∷ c ∷ [] ≡ d ∷ e ∷ f ∷ [] → (b ≡ e) × (c ≡ f)
first_of_two a b c d e f same = (let x : b ≡ e = cc in x, let y : c ≡ f = cc in y)

-- words are those of one seed and one count
pub soak_one : (words : List Text) (s n t m : ℕ) → IsSoak words s n → IsSoak words t m → (s ≡ t) × (n ≡ m)
soak_one words s n t m a b =
    let same = first_of_two (codes "soak") (decimal s) (decimal n) (codes "soak") (decimal t) (decimal m) (sym a.whole ∙ b.whole) in
    (decimal_alike s t a.fits b.fits same.0, decimal_alike n m (omega (arith, a.few)) (omega (arith, b.few)) same.1)
