use Rattle.std.proofs.Common.{◌∙◌, ap, refl}
use Rattle.policy_meaning.specs.Policy.{asks_routes}
use Rattle.policy_meaning.proofs.Bests.{routes_at-all}
use Rattle.policy_meaning.proofs.asking.ask.Goals as goal

pub returns-in-Local : goal.returns-in-Local
returns-in-Local c =
    let p = c.args.packet.now in
    c.ask_routes.ensures ∙ (ap (λ routes. asks_routes routes p) (routes_at-all c.args.network.now.routes.routes) ∙ rw c.in-Local.is refl)
