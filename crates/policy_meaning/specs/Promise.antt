-- What lockdown promises.
use Rattle.std.specs.Prelude.{◌≡◌, ◌&&◌, ⊤, true, List}
use Rattle.std.specs.List.{list_any}
use Rattle.networks.specs.Kinds.{is_secure}
use Rattle.networks.specs.Network.{has_link}
use Rattle.networks.specs.declared.network.Network.{Network}
use Rattle.rule_match.specs.declared.verdict.Verdict.{Verdict}
use Rattle.rule_match.specs.declared.verdict.Verdict.TheVariants as verdict

-- the packet leaves by no link but an interface of a secure VPN among these networks
abbrev pub StaysIn : List Network → Verdict → Type 0
StaysIn networks verdict.Local = ⊤
StaysIn networks (verdict.Out link gateway) = list_any (λ n. is_secure n.kind && has_link n link) networks ≡ true
StaysIn networks verdict.Prohibited = ⊤
StaysIn networks verdict.Unreachable = ⊤
