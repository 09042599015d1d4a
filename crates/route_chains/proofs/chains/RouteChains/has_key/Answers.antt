use Rattle.std.proofs.Common.{sym, ◌∙◌, ap, is_some}
use Rattle.std.specs.List.{list_any}
use Rattle.prefixes.specs.Route.{same_key}
use Rattle.route_chains.specs.Chains.{ChainsView, chain_of}
use Rattle.route_chains.specs.Found.{route_at}
use Rattle.route_chains.specs.Links.{entries_of}
use Rattle.route_chains.proofs.Entries.{is_some-find}
use Rattle.route_chains.proofs.chains.RouteChains.has_key.Goals as goal

pub returns : goal.returns
returns c =
    c.is_some.ensures ∙ ap is_some (c.route_at.ensures ∙ ap (λ s. route_at s c.search-found.result.at) (c.deref-3.ensures.value ∙ sym c.deref.ensures.value) ∙ sym c.search-found.ensures.value)
    ∙ is_some-find (λ other. same_key other c.args.route.now) (chain_of c.args.chain (entries_of c.deref.result.now))
    ∙ ap (λ s. list_any (λ other. same_key other c.args.route.now) (chain_of c.args.chain (entries_of s))) c.deref.ensures.value
    ∙ ap (λ (v : ChainsView). list_any (λ other. same_key other c.args.route.now) (chain_of c.args.chain v.entries)) c.self.view_is
