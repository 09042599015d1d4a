-- Lists of requests that ask each rule for IPv4 and then for IPv6.
use Rattle.std.proofs.Common.{◌≡◌, ◌∷◌, ◌++◌, [], List, refl, ap}
use Rattle.prefixes.specs.declared.addr.Family.TheVariants as family
use Rattle.rule_match.specs.declared.rule.Rule.{Rule}
use Rattle.kernel_model.specs.declared.request.Request.TheVariants as req
use Rattle.kernel_model.specs.Switch.{twins}

pub twins-append : (rules more : List Rule) → twins (rules ++ more) ≡ twins rules ++ twins more
twins-append [] more = refl
twins-append (rule ∷ rules) more = ap (λ rest. req.Rule family.V4 rule ∷ req.Rule family.V6 rule ∷ rest) (twins-append rules more)
