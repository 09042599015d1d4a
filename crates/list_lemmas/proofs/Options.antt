-- What an option holds, and options that a test compares.
use Rattle.std.proofs.Common.{◌≡◌, Bool, true, false, Option, Some, None, is_none, refl, ap}
use Rattle.std.specs.Option.{option_eq}
use Rattle.std.proofs.lemmas.Bool.{both_ways, false≢true}

pub some_there : {X : Type 0} (o : Option X) → is_none o ≡ false → (x : X) × (o ≡ Some x)
some_there None there = absurd (both_ways true there refl)
some_there (Some x) there = (x, refl)

module _ {X : Type 0} (e : X → X → Bool) where
  pub option_eq-true : ((x y : X) → e x y ≡ true → x ≡ y) → (a b : Option X) → option_eq e a b ≡ true → a ≡ b
  option_eq-true exact None None h = refl
  option_eq-true exact None (Some y) h = absurd (false≢true h)
  option_eq-true exact (Some x) None h = absurd (false≢true h)
  option_eq-true exact (Some x) (Some y) h = ap Some (exact x y h)

  pub option_eq-refl : ((x : X) → e x x ≡ true) → (a : Option X) → option_eq e a a ≡ true
  option_eq-refl same None = refl
  option_eq-refl same (Some x) = same x
