use Rattle.std.proofs.Common.{◌≡◌, drop}
use Rattle.network_store.specs.Stored.{net_of}
use Rattle.policy_meaning.specs.Policy.{first_given, asks_link}
use Rattle.policy_meaning.proofs.asking.ask_interfaces.Given as goal

-- what all interfaces say is what those from here on say
abbrev pub invariant-loop-link : goal.invariant-loop-link
invariant-loop-link l =
    first_given (λ link. asks_link (net_of l.network) link l.packet) l.network.interfaces.items ≡ first_given (λ link. asks_link (net_of l.network) link l.packet) (drop l.link-index l.network.interfaces.items)
