-- When two requests are equal, as a test that computes, and lists in which none stands twice.
use Rattle.std.specs.Prelude.{◌≡◌, Bool, false, ◌&&◌, ◌==◌, ⊤, List, [], ◌∷◌}
use Rattle.std.specs.List.{AllByRecursion}
use Rattle.prefixes.specs.Addr.{same_family}
use Rattle.prefixes.specs.Route.{same_route}
use Rattle.rule_match.specs.Rule.{same_rule}
use Rattle.kernel_model.specs.declared.request.Request.{Request}
use Rattle.kernel_model.specs.declared.request.Request.TheVariants as req

abbrev pub same_request : Request → Request → Bool
same_request (req.Rule f a) (req.Rule g b) = same_family f g && same_rule a b
same_request (req.Route m a) (req.Route n b) = (m == n) && same_route a b
same_request (req.Rule f a) (req.Route n b) = false
same_request (req.Route m a) (req.Rule g b) = false

-- none stands twice
abbrev pub Distinct : List Request → Type 0
Distinct [] = ⊤
Distinct (q ∷ qs) = AllByRecursion (λ p. same_request q p ≡ false) qs × Distinct qs
