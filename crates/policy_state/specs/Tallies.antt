-- How many rules a state has, counted by what it has and not by the rows of the table.
use Rattle.std.specs.Prelude.{ℕ, ◌+◌, ◌*◌, List, length, sum_by, count_by}
use Rattle.std.specs.Option.{option_map_or}
use Rattle.fwmark.specs.declared.permission.Permission.{Permission}
use Rattle.fwmark.specs.declared.permission.Permission.TheVariants as needs
use Rattle.networks.specs.Kinds.{ranges_of, is_virtual}
use Rattle.networks.specs.Lists.{find_id}
use Rattle.policy_state.specs.declared.count.Tallies.{Tallies}
use Rattle.policy_state.specs.Rows.{default_of, links_of}
use Rattle.policy_state.specs.View.{Kind, Local, Physical, Virtual, Network, StateView}

-- the rules that a network of this kind has by itself, for each interface, and for each interface with each range

abbrev pub alone : Kind → ℕ
alone Local = 1
alone (Physical permission apps) = 0
alone (Virtual secure users) = 0

-- of a physical network that asks for this permission: one more where it asks for none
abbrev pub per_link_asking : Permission → ℕ
per_link_asking needs.Nothing = 4
per_link_asking needs.Network = 3
per_link_asking needs.System = 3

abbrev pub per_link : Kind → ℕ
per_link Local = 2
per_link (Physical permission apps) = per_link_asking permission
per_link (Virtual secure users) = 3

abbrev pub per_range : Kind → ℕ
per_range Local = 0
per_range (Physical permission apps) = 1
per_range (Virtual secure users) = 3

-- All of these. Beside them the default network has a rule for each of its interfaces, and so has every VPN for each of them.
abbrev pub own : Network → ℕ
own n = alone n.kind + per_link n.kind * length n.interfaces + per_range n.kind * (length n.interfaces * length (ranges_of n.kind))

abbrev pub own_rules : List Network → ℕ
own_rules ns = sum_by own ns

abbrev pub virtuals : List Network → ℕ
virtuals ns = count_by (λ (n : Network). is_virtual n.kind) ns

-- the interfaces of the default network
abbrev pub default_links : StateView → ℕ
default_links s = length (links_of (default_of s))

-- beside all of these, two rules stand once
abbrev pub rules_in_all : (own virtuals links lockdown pairs : ℕ) → ℕ
rules_in_all own virtuals links lockdown pairs = own + (virtuals + 1) * links + lockdown + pairs + 2

abbrev pub tallied : StateView → ℕ
tallied s = rules_in_all (own_rules s.networks) (virtuals s.networks) (default_links s) (length s.lockdown) (length s.pairs)

-- what the network of this id has of a tally
abbrev pub share : (Network → ℕ) → ℕ → List Network → ℕ
share f net ns = option_map_or f (find_id net ns) 0

-- what is kept of them as networks change
abbrev pub tallies_of : List Network → Tallies
tallies_of ns = record { own = own_rules ns; virtuals = virtuals ns }
