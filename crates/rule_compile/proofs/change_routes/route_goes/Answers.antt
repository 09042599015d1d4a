use Rattle.std.proofs.Common.{sym, ap, ◌∙◌}
use Rattle.std.specs.Option.{option_map}
use Rattle.network_store.specs.Stored.{net_of}
use Rattle.networks.specs.Lists.{find_id}
use Rattle.rule_compile.proofs.RoutesLeft.{keys-once}
use Rattle.rule_compile.proofs.change_routes.route_goes.Goals as goal

pub requests_by-requires : goal.requests_by-requires
requests_by-requires c = record {
  once = keys-once c.args.state.now c.networks.ensures.good c.args.net c.args.link (net_of c.in-Some.network.now)
      (sym (ap (find_id c.args.net) c.networks.ensures.value) ∙ (sym c.get.ensures ∙ ap (option_map (λ n. net_of n.now)) c.in-Some.is));
}
