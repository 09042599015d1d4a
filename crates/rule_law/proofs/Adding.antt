-- While rules are added in walk order, the leading rule changes at most once.
use Rattle.std.proofs.Common.{◌≡◌, ◌<◌, ◌≤◌, Bool, List, [], ◌∷◌, refl, ◌∙◌, inl, inr, arith, map, Option, Some}
use Rattle.std.specs.Prelude.{◌⊎◌}
use Rattle.std.proofs.lemmas.Bool.{cases_Bool}
use Rattle.std.specs.List.{find}
use Rattle.rule_law.specs.Rules.{Kind, placed, NoneBelow, Rises}
use Rattle.rule_law.specs.Plans.{Add, after}
use Rattle.rule_law.proofs.Membership.{has_placed}
use Rattle.rule_law.proofs.Orders.{NoneBelow-has, Rises-placed}
use Rattle.rule_law.proofs.Leading.{Beats, find-has, find-placed, find-speaks}
use Rattle.rule_law.proofs.Moments.{Along, Along-end, Along-map, Over, Over-map, Over-right}

-- the first rule that gives something is this one
abbrev pub Leads : {R : Type 0} → (R → Bool) → Option R → List R → Type 0
Leads s o xs = find s xs ≡ o

module _ {R : Type 0} (k : Kind R) (s : R → Bool) where
  -- a rule that leads goes on to lead while others are put after it
  pub adding-keeps : (x : R) (rs xs : List R) → Rises k xs → NoneBelow k (k.priority x) rs → find s xs ≡ Some x
      → Along k (Leads s (Some x)) (map Add rs) xs
  adding-keeps x [] xs o f e = e
  adding-keeps x (r ∷ rs) xs o f e =
      let e' : find s (placed k r xs) ≡ Some x = elim (find-placed k s r xs o) [
        | inl q ↦ q ∙ e
        | inr q ↦ let b : k.priority r < k.priority x = q.2 x (find-has k s x xs e) (find-speaks k s x xs e) in absurd (omega (arith, b, f.0))
      ] in
      (e, adding-keeps x rs (placed k r xs) (Rises-placed k r xs o) f.1 e')

  pub Beats-before : (r x : R) (xs : List R) → Beats k s x (placed k r xs) → Beats k s x xs
  Beats-before r x xs b = λ y h t. b y (has_placed k r y xs ∙ grind arith) t

  pub later-first : (r x : R) (rs xs : List R) → NoneBelow k (k.priority r) rs → find s rs ≡ Some x → Beats k s x (placed k r xs) → find s (r ∷ rs) ≡ Some x
  later-first r x rs xs f e b =
      elim (cases_Bool (s r)) [
        | inl t ↦
            let less : k.priority x < k.priority r = b r (has_placed k r r xs ∙ rw (k.same_self r) refl) t in
            let more : k.priority r ≤ k.priority x = NoneBelow-has k (k.priority r) rs x f (find-has k s x rs e) in
            absurd (omega arith)
        | inr t ↦ rw t e
      ]

  -- While rules are added in their order, the first one is what it was; or it is that until the first of the added ones comes, which leads from then on.
  pub adding : (rs xs : List R) → Rises k xs → Rises k rs
      → Along k (Leads s (find s xs)) (map Add rs) xs
      ⊎ ((r : R) × (find s rs ≡ Some r) × Beats k s r xs × Over k (Leads s (find s xs)) (Leads s (Some r)) (map Add rs) xs × (find s (after k (map Add rs) xs) ≡ Some r))
  adding [] xs o n = inl refl
  adding (r ∷ rs) xs o n =
      let ys : List R = placed k r xs in
      elim (find-placed k s r xs o) [
        | inl q ↦ elim (adding rs ys (Rises-placed k r xs o) n.1) [
          | inl al ↦ inl (refl, Along-map k (Leads s (find s ys)) (Leads s (find s xs)) (λ zs e. e ∙ q) (map Add rs) ys al)
          | inr t ↦ inr (
            t.0,
            later-first r t.0 rs xs n.0 t.1 t.2,
            Beats-before r t.0 xs t.2,
            inl (refl, Over-map k (Leads s (find s ys)) (Leads s (Some t.0)) (Leads s (find s xs)) (Leads s (Some t.0)) (λ zs e. e ∙ q) (λ zs e. e) (map Add rs) ys t.3),
            t.4,
          )
        ]
        | inr q ↦
            let al : Along k (Leads s (Some r)) (map Add rs) ys = adding-keeps r rs ys (Rises-placed k r xs o) n.0 q.0 in
            inr (r, rw q.1 refl, q.2, inl (refl, Over-right k (Leads s (find s xs)) (Leads s (Some r)) (map Add rs) ys al), Along-end k (Leads s (Some r)) (map Add rs) ys al)
      ]
