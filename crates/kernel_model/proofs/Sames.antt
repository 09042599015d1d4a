-- The test of equal requests is exact.
use Rattle.std.proofs.Common.{◌≡◌, true, false, ◌==◌, inl, inr, ap, ◌∙◌}
use Rattle.std.proofs.lemmas.Bool.{and_parts, and_from, eqb-true, false≢true, both_ways, cases_Bool}
use Rattle.list_lemmas.proofs.Numbers.{eqb-refl}
use Rattle.prefixes.specs.Addr.{same_family}
use Rattle.prefixes.specs.Route.{same_route}
use Rattle.prefixes.proofs.Sames.{same_family-true, same_family-refl, same_route-true, same_route-refl}
use Rattle.rule_match.specs.Rule.{same_rule}
use Rattle.rule_match.proofs.Sames.{same_rule-true, same_rule-refl}
use Rattle.kernel_model.specs.Same.{same_request}
use Rattle.kernel_model.specs.declared.request.Request.{Request}
use Rattle.kernel_model.specs.declared.request.Request.TheVariants as req

pub same_request-true : (p q : Request) → same_request p q ≡ true → p ≡ q
same_request-true (req.Rule f a) (req.Rule g b) h =
    let parts = and_parts (same_family f g) (same_rule a b) h in
    let family : f ≡ g = same_family-true f g parts.0 in
    let rule : a ≡ b = same_rule-true a b parts.1 in
    cc
same_request-true (req.Route m a) (req.Route n b) h =
    let parts = and_parts (m == n) (same_route a b) h in
    let table : m ≡ n = eqb-true m n parts.0 in
    let route : a ≡ b = same_route-true a b parts.1 in
    cc
same_request-true (req.Rule f a) (req.Route n b) h = absurd (false≢true h)
same_request-true (req.Route m a) (req.Rule g b) h = absurd (false≢true h)

pub same_request-refl : (q : Request) → same_request q q ≡ true
same_request-refl (req.Rule f a) = and_from _ _ (same_family-refl f) (same_rule-refl a)
same_request-refl (req.Route n a) = and_from _ _ (eqb-refl n) (same_route-refl a)

pub same_request-sym : (p q : Request) → same_request p q ≡ false → same_request q p ≡ false
same_request-sym p q h = elim (cases_Bool (same_request q p)) as (λ _. same_request q p ≡ false) [
  | inl same ↦
      let eq : q ≡ p = same_request-true q p same in
      absurd (both_ways (same_request p q) h (ap (same_request p) eq ∙ same_request-refl p))
  | inr other ↦ other
]
