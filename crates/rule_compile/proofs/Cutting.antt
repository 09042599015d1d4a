-- A list cut in two: what stays of it, and what a change touches. What stays in two lists cancels in their difference.
use Rattle.std.proofs.Common.{◌≡◌, ◌||◌, Bool, true, false, cond, not, List, [], ◌∷◌, ◌++◌, refl, sym, ◌∙◌, ap, subst, inl, inr, arith, filter, map, leb}
use Rattle.std.specs.Prelude.{flat_map, if◌then◌else◌}
use Rattle.std.proofs.lemmas.Bool.{cases_Bool, false≢true, false_from_ne_true, leb-true, le-leb}
use Rattle.rule_law.specs.Rules.{Kind, has, HasEachOnce, NoneBelow, Rises}
use Rattle.rule_law.specs.Plans.{beyond}
use Rattle.rule_law.proofs.Membership.{filter-same}
use Rattle.rule_law.proofs.Orders.{NoneBelow-filter, NoneBelow-lower}
use Rattle.policy_state.specs.Table.{put, in_order}
use Rattle.policy_state.proofs.Owners.{Has}
use Rattle.policy_state.proofs.Sorted.{has_in_order, Rises-in_order}

-- the whole list has what stays and what turns, each in its order
pub data Cut {A : Type 0} : List A → List A → List A → Type 0 where
  Ends : Cut [] [] []
  Stays : (x : A) (stay part whole : List A) → Cut stay part whole → Cut (x ∷ stay) part (x ∷ whole)
  Turns : (x : A) (stay part whole : List A) → Cut stay part whole → Cut stay (x ∷ part) (x ∷ whole)

pub all-stay : {A : Type 0} (xs : List A) → Cut xs [] xs
all-stay [] = Ends
all-stay (x ∷ xs) = Stays x xs [] xs (all-stay xs)

pub all-turn : {A : Type 0} (xs : List A) → Cut [] xs xs
all-turn [] = Ends
all-turn (x ∷ xs) = Turns x [] xs xs (all-turn xs)

pub cut-append : {A : Type 0} (stay part whole more turn both : List A) → Cut stay part whole → Cut more turn both → Cut (stay ++ more) (part ++ turn) (whole ++ both)
cut-append _ _ _ more turn both Ends other = other
cut-append _ _ _ more turn both (Stays x stay part whole h) other = Stays x (stay ++ more) (part ++ turn) (whole ++ both) (cut-append stay part whole more turn both h other)
cut-append _ _ _ more turn both (Turns x stay part whole h) other = Turns x (stay ++ more) (part ++ turn) (whole ++ both) (cut-append stay part whole more turn both h other)

pub cut-map : {A B : Type 0} (f : A → B) (stay part whole : List A) → Cut stay part whole → Cut (map f stay) (map f part) (map f whole)
cut-map f _ _ _ Ends = Ends
cut-map f _ _ _ (Stays x stay part whole h) = Stays (f x) (map f stay) (map f part) (map f whole) (cut-map f stay part whole h)
cut-map f _ _ _ (Turns x stay part whole h) = Turns (f x) (map f stay) (map f part) (map f whole) (cut-map f stay part whole h)

-- each part of a list of parts is cut
pub cut-each : {A B : Type 0} (stay part whole : A → List B) (xs : List A) → ((x : A) → Has xs x → Cut (stay x) (part x) (whole x)) → Cut (flat_map stay xs) (flat_map part xs) (flat_map whole xs)
cut-each stay part whole [] h = Ends
cut-each stay part whole (x ∷ xs) h =
    cut-append (stay x) (part x) (whole x) (flat_map stay xs) (flat_map part xs) (flat_map whole xs) (h x (inl refl)) (cut-each stay part whole xs (λ y t. h y (inr t)))

-- the list of parts is cut
pub cut-over : {A B : Type 0} (f : A → List B) (stay part whole : List A) → Cut stay part whole → Cut (flat_map f stay) (flat_map f part) (flat_map f whole)
cut-over f _ _ _ Ends = Ends
cut-over f _ _ _ (Stays x stay part whole h) = cut-append (f x) [] (f x) (flat_map f stay) (flat_map f part) (flat_map f whole) (all-stay (f x)) (cut-over f stay part whole h)
cut-over f _ _ _ (Turns x stay part whole h) = cut-append [] (f x) (f x) (flat_map f stay) (flat_map f part) (flat_map f whole) (all-turn (f x)) (cut-over f stay part whole h)

pub cut-filter : {A : Type 0} (p : A → Bool) (xs : List A) → Cut (filter (λ x. not (p x)) xs) (filter p xs) xs
cut-filter p [] = Ends
cut-filter {A = A} p (x ∷ xs) = by (p x) (cut-filter p xs)
  where
    by : (b : Bool) → Cut (filter (λ x. not (p x)) xs) (filter p xs) xs
        → Cut (if not b then x ∷ filter (λ x. not (p x)) xs else filter (λ x. not (p x)) xs) (if b then x ∷ filter p xs else filter p xs) (x ∷ xs)
    by true h = Turns x (filter (λ x. not (p x)) xs) (filter p xs) xs h
    by false h = Stays x (filter (λ x. not (p x)) xs) (filter p xs) xs h

pub cut-test : {A : Type 0} (b : Bool) (stay part whole : List A) → Cut stay part whole → Cut (if b then stay else []) (if b then part else []) (if b then whole else [])
cut-test true stay part whole h = h
cut-test false stay part whole h = Ends

module _ {R : Type 0} (k : Kind R) where
  cut-has : (stay part whole : List R) → Cut stay part whole → (x : R) → has k whole x ≡ (has k stay x || has k part x)
  cut-has _ _ _ Ends x = refl
  cut-has _ _ _ (Stays y stay part whole h) x = grind (arith, cut-has stay part whole h x)
  cut-has _ _ _ (Turns y stay part whole h) x = grind (arith, cut-has stay part whole h x)

  -- where no rule stands twice, none both stays and turns
  cut-apart : (stay part whole : List R) → Cut stay part whole → HasEachOnce k whole → (x : R) → has k part x ≡ true → has k stay x ≡ false
  cut-apart _ _ _ Ends once x h = refl
  cut-apart _ _ _ (Stays y stay part whole c) once x h =
      let rest : has k stay x ≡ false = cut-apart stay part whole c once.1 x h in
      let there : has k whole x ≡ true = cut-has stay part whole c x ∙ rw (rest, h) refl in
      let other : k.same x y ≡ false = false_from_ne_true (k.same x y) (λ e. false≢true (sym once.0 ∙ subst (λ z. has k whole z ≡ true) (k.same_is x y e) there)) in
      rw other rest
  cut-apart _ _ _ (Turns y stay part whole c) once x h = elim (cases_Bool (k.same x y)) [
    | inl e ↦ subst (λ z. has k stay z ≡ false) (sym (k.same_is x y e)) (grind (arith, cut-has stay part whole c y, once.0))
    | inr e ↦ cut-apart stay part whole c once.1 x (rw e at h)
  ]

  filter-cut : (p : R → Bool) (stay part whole : List R) → Cut stay part whole → ((x : R) → has k stay x ≡ true → p x ≡ false) → filter p whole ≡ filter p part
  filter-cut p _ _ _ Ends none = refl
  filter-cut p _ _ _ (Stays x stay part whole c) none =
      let here : p x ≡ false = none x (rw (k.same_self x) refl) in
      rw here (filter-cut p stay part whole c (λ y t. none y (grind arith)))
  filter-cut p _ _ _ (Turns x stay part whole c) none = ap (λ ys. cond (p x) (x ∷ ys) ys) (filter-cut p stay part whole c none)

  -- what stays in both lists cancels
  pub beyond-cut : (old new stay gone come : List R) → Cut stay gone old → Cut stay come new → HasEachOnce k new → beyond k old new ≡ beyond k gone come
  beyond-cut old new stay gone come cut cut' once =
      filter-cut (λ x. not (has k old x)) stay come new cut' (λ x t. let here : has k old x ≡ true = cut-has stay gone old cut x ∙ rw t refl in ap not here)
      ∙ filter-same k (λ x. not (has k old x)) (λ x. not (has k gone x)) come (λ x t.
      let alone : has k old x ≡ has k gone x = cut-has stay gone old cut x ∙ rw (cut-apart stay come new cut' once x t) refl in
      ap not alone)

  pub put-first : (x : R) (xs : List R) → NoneBelow k (k.priority x) xs → put k x xs ≡ x ∷ xs
  put-first x [] h = refl
  put-first x (y ∷ ys) h = elim (cases_Bool (leb (k.priority x) (k.priority y))) [
    | inl e ↦ rw e refl
    | inr e ↦ absurd (false≢true (sym e ∙ le-leb (k.priority x) (k.priority y) h.0))
  ]

  filter-put : (p : R → Bool) (x : R) (xs : List R) → Rises k xs → filter p (put k x xs) ≡ cond (p x) (put k x (filter p xs)) (filter p xs)
  filter-put p x [] rises = refl
  filter-put p x (y ∷ ys) rises = elim (cases_Bool (leb (k.priority x) (k.priority y))) [
    | inl e ↦
        let low : NoneBelow k (k.priority x) (y ∷ ys) = (leb-true _ _ e, NoneBelow-lower k (k.priority x) (k.priority y) ys (leb-true _ _ e) rises.0) in
        rw e (ap (λ zs. cond (p x) zs (filter p (y ∷ ys))) (sym (put-first x (filter p (y ∷ ys)) (NoneBelow-filter k (k.priority x) p (y ∷ ys) low))))
    | inr e ↦
        let rest : filter p (put k x ys) ≡ cond (p x) (put k x (filter p ys)) (filter p ys) = filter-put p x ys rises.1 in
        rw e (elim (cases_Bool (p x)) [
          | inl t ↦ elim (cases_Bool (p y)) [
            | inl u ↦ rw (t, u, e) (ap (λ zs. y ∷ zs) (rest ∙ rw t refl))
            | inr u ↦ rw (t, u) (rest ∙ rw t refl)
          ]
          | inr t ↦ rw t (ap (λ zs. cond (p y) (y ∷ zs) zs) (rest ∙ rw t refl))
        ])
  ]

  filter-in_order : (p : R → Bool) (xs : List R) → filter p (in_order k xs) ≡ in_order k (filter p xs)
  filter-in_order p [] = refl
  filter-in_order p (x ∷ xs) =
      filter-put p x (in_order k xs) (Rises-in_order k xs)
      ∙ (ap (λ zs. cond (p x) (put k x zs) zs) (filter-in_order p xs) ∙ by (p x))
    where
      by : (b : Bool) → cond b (put k x (in_order k (filter p xs))) (in_order k (filter p xs)) ≡ in_order k (cond b (x ∷ filter p xs) (filter p xs))
      by true = refl
      by false = refl

  -- putting in order doesn't matter to what is lacking
  pub beyond-in_order : (old new : List R) → beyond k (in_order k old) (in_order k new) ≡ in_order k (beyond k old new)
  beyond-in_order old new =
      filter-same k (λ x. not (has k (in_order k old) x)) (λ x. not (has k old x)) (in_order k new) (λ x t. ap not (has_in_order k x old))
      ∙ filter-in_order (λ x. not (has k old x)) new

  pub beyond-none : (old : List R) → beyond k old [] ≡ []
  beyond-none old = refl

  pub beyond-nothing : (new : List R) → beyond k [] new ≡ new
  beyond-nothing [] = refl
  beyond-nothing (x ∷ xs) = ap (λ ys. x ∷ ys) (beyond-nothing xs)
