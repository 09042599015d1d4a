use Rattle.std.proofs.Common.{None, refl, ap}
use Rattle.prefixes.specs.declared.prefix.Prefix.{Prefix}
use Rattle.prefixes.specs.declared.route.Out.TheVariants as out
use Rattle.prefixes.specs.declared.route.Route.{Route}
use Rattle.prefixes.proofs.Sames.{prefix_is}
use Rattle.kernel_model.specs.State.{loopback6}
use Rattle.kernel_ledger.proofs.tables.loopback6.Goals as goal

pub returns : goal.returns
returns c = ap (λ (p : Prefix). let r : Route = record { prefix = p; out = out.Dev 1 None } in r) (prefix_is _ loopback6.prefix refl refl)
