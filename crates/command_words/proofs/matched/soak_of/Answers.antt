use Rattle.std.proofs.Common.{◌≡◌, ◌<◌, ◌≤◌, ◌^◌, ◌&&◌, ℕ, Bool, true, false, List, [], ◌∷◌, Some, None, arith, ap₂, codes, refl, subst, sym, if◌then◌else◌}
use Rattle.std.specs.Fmt.{decimal}
use Rattle.number_text.specs.Numbers.{SpellsDecimal}
use Rattle.number_text.proofs.Spelled.{SpellsDecimal-decimal}
use Rattle.command_words.specs.Forms.{FormView, IsSoak, Text, run, soak, wordless}
use Rattle.command_words.specs.Read.{SaysSome, SaysSoak, is_value, soak_given, soaking}
use Rattle.command_words.proofs.Numbers.{first_of_two, spelled_is, spelled_is_value}
use Rattle.command_words.proofs.matched.soak_of.Goals as goal

-- two numbers are a form
says_both : (first second : Text) (seed count : ℕ) → SpellsDecimal first seed → seed < 2 ^ 64 → SpellsDecimal second count → count ≤ 100000
    → SaysSome (soak_given (first ∷ second ∷ [])) (soak seed count)
says_both first second seed count one fits two few =
    rw (spelled_is_value first seed one, spelled_is_value second count two)
    (record { whole = ap₂ (λ (a b : Text). codes "soak" ∷ a ∷ b ∷ []) (spelled_is first seed one fits) (spelled_is second count two (omega (arith, few))); fits = fits; few = few })

-- two words spell a seed and a count
record SpellBoth (first second : Text) : Type 0 where
  seed : ℕ
  count : ℕ
  one : SpellsDecimal first seed
  fits : seed < 2 ^ 64
  two : SpellsDecimal second count
  few : count ≤ 100000

spell_both : (first second : Text) (form : FormView) (b : Bool) → SaysSome (if b then Some (soaking first second) else None) form → SpellBoth first second
spell_both first second form false says = absurd says
spell_both first second (run refuse breaks) true says = absurd says
spell_both first second (wordless only) true says = absurd says
spell_both first second (soak seed count) true says =
    let same = first_of_two (codes "soak") first second (codes "soak") (decimal seed) (decimal count) says.whole in
    record {
      seed = seed;
      count = count;
      one = subst (λ (t : Text). SpellsDecimal t seed) (sym same.0) (SpellsDecimal-decimal seed says.fits);
      fits = says.fits;
      two = subst (λ (t : Text). SpellsDecimal t count) (sym same.1) (SpellsDecimal-decimal count (omega (arith, says.few)));
      few = says.few;
    }

pub returns-in_default-clause-no_form : goal.returns-in_default-clause-no_form
returns-in_default-clause-no_form c = λ _ form says.
    let both : SpellBoth c.args.first.now c.args.second.now = spell_both c.args.first.now c.args.second.now form (is_value c.args.first.now && is_value c.args.second.now) says in
    c.in_default.ensures.none both.seed (omega (arith, both.fits)) (subst (λ (t : Text). SpellsDecimal t both.seed) (sym c.as_bytes.ensures.value) both.one)

pub returns-in_default-read_decimal-clause-no_form : goal.returns-in_default-read_decimal-clause-no_form
returns-in_default-read_decimal-clause-no_form c = λ _ form says.
    let both : SpellBoth c.args.first.now c.args.second.now = spell_both c.args.first.now c.args.second.now form (is_value c.args.first.now && is_value c.args.second.now) says in
    c.in_default-read_decimal.ensures.none both.count both.few (subst (λ (t : Text). SpellsDecimal t both.count) (sym c.as_bytes-2.ensures.value) both.two)

pub returns-clause-ok : goal.returns-clause-ok
returns-clause-ok c =
    says_both c.args.first.now c.args.second.now c.in-Some.seed c.in-Some-read_decimal.count
    (subst (λ (t : Text). SpellsDecimal t c.in-Some.seed) c.as_bytes.ensures.value c.in-Some.ensures.some.0) (omega (arith, c.in-Some.ensures.some.1))
    (subst (λ (t : Text). SpellsDecimal t c.in-Some-read_decimal.count) c.as_bytes-2.ensures.value c.in-Some-read_decimal.ensures.some.0) c.in-Some-read_decimal.ensures.some.1
