-- The entries of a map by name.
use Rattle.std.proofs.Common.{◌≡◌, Bool, false, List, [], ◌∷◌, Option, Some, None, is_some, refl, sym, ap, inl, inr}
use Rattle.std.specs.Map.{lookup, set_value}
use Rattle.std.proofs.lemmas.Bool.{cases_Bool, false≢true}
use Rattle.std.proofs.lemmas.Option.{none-some}

module _ {K X : Type 0} (test : K → Bool) where
  -- where no key passes, no value is changed
  pub set-none : (es : List (K × X)) (w : X) → lookup test es ≡ None → es ≡ set_value test es w
  set-none [] w none = refl
  set-none (e ∷ es) w none = elim (cases_Bool (test e.0)) as (λ _. (e ∷ es) ≡ set_value test (e ∷ es) w) [
    | inl b ↦ absurd (none-some e.1 (sym (rw b at none)))
    | inr b ↦ rw b (ap (λ rest. e ∷ rest) (set-none es w (rw b at none)))
  ]

pub none-there : {X : Type 0} (o : Option X) → is_some o ≡ false → o ≡ None
none-there None is = refl
none-there (Some x) is = absurd (false≢true (sym is))
