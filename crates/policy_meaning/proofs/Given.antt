-- What the first item of a list that gives something gives.
use Rattle.std.proofs.Common.{◌≡◌, ◌∙◌, ◌==◌, ◌∷◌, [], ◌++◌, ℕ, suc, List, Bool, true, false, filter, map, slice_get, Option, Some, None, unwrap_or, refl, sym, ap, ap₂, inl, inr}
use Rattle.std.specs.Prelude.{flat_map, find, if◌then◌else◌}
use Rattle.std.specs.List.{list_any}
use Rattle.std.specs.Option.{option_or, option_and_then}
use Rattle.std.proofs.lemmas.Bool.{cases_Bool, false≢true, eqb-true}
use Rattle.policy_state.proofs.Owners.{Has}
use Rattle.policy_meaning.specs.Policy.{only_if, first_given}
use Rattle.rule_law.specs.Rules.{walk}

or-assoc : {V : Type 0} (a b c : Option V) → option_or (option_or a b) c ≡ option_or a (option_or b c)
or-assoc None b c = refl
or-assoc (Some v) b c = refl

pub or-none : {V : Type 0} (o : Option V) → option_or o None ≡ o
or-none None = refl
or-none (Some v) = refl

or-self : {V : Type 0} (o : Option V) → option_or o o ≡ o
or-self None = refl
or-self (Some v) = refl

pub walk-given : {R V : Type 0} (g : R → Option V) (none : V) (xs ys : List R) → walk g none (xs ++ ys) ≡ unwrap_or (first_given g xs) (walk g none ys)
walk-given g none [] ys = refl
walk-given {V = V} g none (x ∷ xs) ys = step (g x) (walk-given g none xs ys)
  where
    step : (o : Option V) → walk g none (xs ++ ys) ≡ unwrap_or (first_given g xs) (walk g none ys)
        → (elim o [ Some v ↦ v | None ↦ walk g none (xs ++ ys) ]) ≡ unwrap_or (option_or o (first_given g xs)) (walk g none ys)
    step None rest = rest
    step (Some v) rest = refl

pub given-one : {N V : Type 0} (g : N → Option V) (x : N) → first_given g (x ∷ []) ≡ g x
given-one g x = or-none (g x)

pub given-append : {N V : Type 0} (g : N → Option V) (xs ys : List N) → first_given g (xs ++ ys) ≡ option_or (first_given g xs) (first_given g ys)
given-append g [] ys = refl
given-append g (x ∷ xs) ys = ap (option_or (g x)) (given-append g xs ys) ∙ sym (or-assoc (g x) (first_given g xs) (first_given g ys))

pub given-map : {M N V : Type 0} (g : N → Option V) (f : M → N) (xs : List M) → first_given g (map f xs) ≡ first_given (λ x. g (f x)) xs
given-map g f [] = refl
given-map g f (x ∷ xs) = ap (option_or (g (f x))) (given-map g f xs)

pub given-flat : {M N V : Type 0} (g : N → Option V) (f : M → List N) (xs : List M) → first_given g (flat_map f xs) ≡ first_given (λ x. first_given g (f x)) xs
given-flat g f [] = refl
given-flat g f (x ∷ xs) = given-append g (f x) (flat_map f xs) ∙ ap (option_or (first_given g (f x))) (given-flat g f xs)

pub given-filter : {N V : Type 0} (g : N → Option V) (t : N → Bool) (xs : List N) → first_given g (filter t xs) ≡ first_given (λ x. only_if (g x) (t x)) xs
given-filter g t [] = refl
given-filter {N = N} {V = V} g t (x ∷ xs) = step (t x) (given-filter g t xs)
  where
    step : (b : Bool) → first_given g (filter t xs) ≡ first_given (λ y. only_if (g y) (t y)) xs
        → first_given g (if b then x ∷ filter t xs else filter t xs) ≡ option_or (only_if (g x) b) (first_given (λ y. only_if (g y) (t y)) xs)
    step true rest = ap (option_or (g x)) rest
    step false rest = rest

-- items that give the same
pub given-same : {N V : Type 0} (g h : N → Option V) (xs : List N) → ((place : ℕ) (x : N) → slice_get xs place ≡ Some x → g x ≡ h x) → first_given g xs ≡ first_given h xs
given-same g h [] same = refl
given-same g h (x ∷ xs) same = ap₂ option_or (same 0 x refl) (given-same g h xs (λ place y at. same (suc place) y at))

-- a test that isn't of the item
pub given-if : {N V : Type 0} (g : N → Option V) (b : Bool) (xs : List N) → first_given (λ x. only_if (g x) b) xs ≡ only_if (first_given g xs) b
given-if g true xs = refl
given-if g false [] = refl
given-if g false (x ∷ xs) = given-if g false xs

-- items of which one passes the test

abbrev pub HasAtMostOne : {N : Type 0} → (N → Bool) → List N → Type 0
HasAtMostOne t [] = Unit {0}
HasAtMostOne t (x ∷ xs) = (t x ≡ true → list_any t xs ≡ false) × HasAtMostOne t xs

none_passes : {N V : Type 0} (g : N → Option V) (t : N → Bool) (xs : List N) → list_any t xs ≡ false → first_given (λ x. only_if (g x) (t x)) xs ≡ None
none_passes g t [] h = refl
none_passes g t (x ∷ xs) h = elim (cases_Bool (t x)) [
  | inl e ↦ absurd (false≢true (sym (rw e at h)))
  | inr e ↦ rw e (none_passes g t xs (rw e at h))
]

-- what the one that passes gives
pub given-found : {N V : Type 0} (g : N → Option V) (t : N → Bool) (xs : List N) → HasAtMostOne t xs → first_given (λ x. only_if (g x) (t x)) xs ≡ option_and_then g (find t xs)
given-found g t [] one = refl
given-found g t (x ∷ xs) one = elim (cases_Bool (t x)) [
  | inl e ↦ rw e (ap (option_or (g x)) (none_passes g t xs (one.0 e)) ∙ or-none (g x))
  | inr e ↦ rw e (given-found g t xs one.1)
]

-- what a number gives that stands in the list
pub given-number : {V : Type 0} (g : ℕ → Option V) (number : ℕ) (ns : List ℕ) → first_given (λ n. only_if (g n) (n == number)) ns ≡ only_if (g number) (list_any (λ n. n == number) ns)
given-number g number [] = refl
given-number {V = V} g number (n ∷ ns) = elim (cases_Bool (n == number)) [
  | inl e ↦
      let same : g n ≡ g number = ap g (eqb-true n number e) in
      rw (e, same) (ap (option_or (g number)) (given-number g number ns) ∙ again (list_any (λ m. m == number) ns))
  | inr e ↦ rw e (given-number g number ns)
]
  where
    again : (b : Bool) → option_or (g number) (only_if (g number) b) ≡ g number
    again true = or-self (g number)
    again false = or-none (g number)

-- a test outside of what is looked up
pub then-if : {N V : Type 0} (g : N → Option V) (b : Bool) (o : Option N) → option_and_then (λ x. only_if (g x) b) o ≡ only_if (option_and_then g o) b
then-if g true o = refl
then-if g false None = refl
then-if g false (Some x) = refl

-- the same, by what stands in the list
pub given-has : {N V : Type 0} (g h : N → Option V) (xs : List N) → ((x : N) → Has xs x → g x ≡ h x) → first_given g xs ≡ first_given h xs
given-has g h [] same = refl
given-has g h (x ∷ xs) same = ap₂ option_or (same x (inl refl)) (given-has g h xs (λ y there. same y (inr there)))
