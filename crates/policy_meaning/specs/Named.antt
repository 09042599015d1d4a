-- Which networks a level asks of those that marks name.
use Rattle.std.specs.Prelude.{Bool}
use Rattle.networks.specs.Kinds.{is_free, is_secure, is_bypass}
use Rattle.networks.specs.declared.network.Network.{Network}
use Rattle.rule_match.specs.declared.packet.Packet.{Packet}
use Rattle.policy_meaning.specs.Policy.{may_choose}
use Rattle.policy_meaning.specs.declared.named.Naming.{Naming}
use Rattle.policy_meaning.specs.declared.named.Naming.TheVariants as naming

abbrev pub is_asked : Naming → Packet → Network → Bool
is_asked naming.Secure p n = is_secure n.kind
is_asked naming.Free p n = is_free n.kind
is_asked naming.Bypassable p n = is_bypass n.kind
is_asked naming.Chosen p n = may_choose p n
