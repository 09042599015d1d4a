-- The rules of a part, by the part without routes and by the part of a network.
use Rattle.std.proofs.Common.{◌≡◌, ◌∙◌, sym, ap}
use Rattle.networks.specs.declared.network.Network.{Network}
use Rattle.policy_state.specs.View.{StateView}
use Rattle.rule_compile.specs.PartOf.{net_part, unrouted_part}
use Rattle.rule_compile.specs.Touched.{Part, part_rules}
use Rattle.rule_compile.specs.declared.part.PartOfNetwork.{PartOfNetwork}
use Rattle.rule_compile.proofs.Unrouted.{rules-unrouted}

pub part-rules : (t p : Part) → t ≡ unrouted_part p → part_rules t ≡ part_rules p
part-rules t p is = ap part_rules is ∙ rules-unrouted p

pub stored-rules : (part kind : PartOfNetwork) (s : StateView) (n : Network) (t : Part) → part ≡ kind → t ≡ unrouted_part (net_part kind s n) → part_rules t ≡ part_rules (net_part part s n)
stored-rules part kind s n t at is = part-rules t (net_part kind s n) is ∙ ap (λ k. part_rules (net_part k s n)) (sym at)
