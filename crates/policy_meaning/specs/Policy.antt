-- Where each packet is to go, after netd's RouteController and NetworkController. A packet that the device made goes by the
-- first of these that answers: the device itself; the interface to which root bound it; the secure VPNs; lockdown; the network
-- or the interface that it chooses; the networks that are asked last; and where none answers it is unreachable. A packet that
-- the device passes on goes by the local network, or from the input of a tether pair by its output.
--
-- Ranks of a VPN's users, and networks that apps prefer, are this project's own: netd has neither.
use Rattle.std.specs.Prelude.{ℕ, ◌/◌, ◌^◌, ◌==◌, ◌&&◌, ◌||◌, Bool, true, false, not, List, [], ◌∷◌, ◌++◌, map, filter, flat_map, Option, Some, None, unwrap_or, IsTrue, if◌then◌else◌}
use Rattle.std.specs.List.{list_any}
use Rattle.std.specs.Option.{option_map, option_or, option_and_then}
use Rattle.fwmark.specs.Mark.{net_of, is_explicit, is_protected, permission_of_mark, has_system}
use Rattle.fwmark.specs.Permission.{suffices}
use Rattle.networks.specs.Kinds.{permission_of, ranges_of, is_free, is_secure, is_bypass, is_virtual}
use Rattle.networks.specs.Lists.{find_id, find_link}
use Rattle.networks.specs.Network.{routes_by, local_id}
use Rattle.networks.specs.declared.kind.Kind.{Kind}
use Rattle.networks.specs.declared.network.Network.{Network}
use Rattle.policy_state.specs.Rows.{numbers_from, default_of}
use Rattle.policy_state.specs.View.{Local, Physical, Virtual, StateView}
use Rattle.policy_state.specs.declared.tether.TetherPair.{TetherPair}
use Rattle.prefixes.specs.Best.{answer}
use Rattle.prefixes.specs.declared.addr.Addr.{Addr}
use Rattle.prefixes.specs.declared.addr.Addr.TheVariants as addr
use Rattle.prefixes.specs.declared.route.Route.{Route}
use Rattle.rule_match.specs.Packet.{is_made, lo}
use Rattle.rule_match.specs.Verdict.{verdict_of}
use Rattle.rule_match.specs.declared.packet.Packet.{Packet}
use Rattle.rule_match.specs.declared.verdict.Verdict.{Verdict}
use Rattle.rule_match.specs.declared.verdict.Verdict.TheVariants as verdict
use Rattle.uid_ranges.specs.Range.{holds}
use Rattle.uid_ranges.specs.Ranges.{any_holds}
use Rattle.uid_ranges.specs.Ranks.{holds_user}

-- the answer, where the condition holds
abbrev pub only_if : {V : Type 0} → Option V → Bool → Option V
only_if answer condition = if condition then answer else None

-- the first answer of a list, or the last word where there is none
abbrev pub first_answer : {V : Type 0} → V → List (Option V) → V
first_answer last [] = last
first_answer last (answer ∷ answers) = unwrap_or answer (first_answer last answers)

-- the first answer that some item of a list gives
abbrev pub first_given : {N V : Type 0} → (N → Option V) → List N → Option V
first_given gives [] = None
first_given gives (x ∷ xs) = option_or (gives x) (first_given gives xs)

-- What networks say of a packet, by their routes.

-- what a list of routes says of the packet
abbrev pub asks_routes : List Route → Packet → Option Verdict
asks_routes routes p = option_map verdict_of (answer routes p.dest p.outgoing)

-- what a network says of the packet by its routes at this interface
abbrev pub asks_link : Network → ℕ → Packet → Option Verdict
asks_link n link p = asks_routes (routes_by link n.routes) p

-- what a network says of the packet: the local one by all its routes, every other one by its interfaces in order
abbrev pub asks : Network → Packet → Option Verdict
asks n p = elim n.kind [
  | Local ↦ asks_routes (map (λ r. r.route) n.routes) p
  | Physical permission apps ↦ first_given (λ link. asks_link n link p) n.interfaces
  | Virtual secure users ↦ first_given (λ link. asks_link n link p) n.interfaces
]

-- what networks say of one packet: a network, and a network by one of its interfaces
pub record Asks : Type 0 where
  pub net : Network → Option Verdict
  pub link : Network → ℕ → Option Verdict

abbrev pub by_routes : Packet → Asks
by_routes p = record { net = λ n. asks n p; link = λ n link. asks_link n link p }

-- Which networks a packet may use.

-- the mark suffices for the permission that the network asks for
abbrev pub may_use : Packet → Kind → Bool
may_use p kind = suffices (permission_of_mark p.mark) (permission_of kind)

-- the network is physical, and the mark suffices for its permission
abbrev pub is_usable : Packet → Kind → Bool
is_usable p Local = false
is_usable p (Physical permission apps) = suffices (permission_of_mark p.mark) permission
is_usable p (Virtual secure users) = false

-- root reaches the network's interfaces even under lockdown: those of no VPN
abbrev pub may_reach : Packet → Network → Bool
may_reach p n = elim n.kind [
  | Local ↦ true
  | Physical permission apps ↦ suffices (permission_of_mark p.mark) permission
  | Virtual secure users ↦ false
]

-- the packet may go by the network's interface to which it is bound
abbrev pub may_bind : Packet → Network → Bool
may_bind p n = elim n.kind [
  | Local ↦ true
  | Physical permission apps ↦ suffices (permission_of_mark p.mark) permission
  | Virtual secure users ↦ holds_user users p.uid.number
]

-- the packet may choose the network: a VPN for its users, and for root with system
abbrev pub may_choose : Packet → Network → Bool
may_choose p n = elim n.kind [
  | Local ↦ true
  | Physical permission apps ↦ suffices (permission_of_mark p.mark) permission
  | Virtual secure users ↦ holds_user users p.uid.number || (p.uid.number == 0) && has_system p.mark
]

-- Which networks are asked.

-- the network that the mark names, where it passes the test
abbrev pub asks_named : Asks → StateView → Packet → (Network → Bool) → Option Verdict
asks_named a s p test = option_and_then (λ n. only_if (a.net n) (test n)) (find_id (net_of p.mark) s.networks)

-- the interface to which the packet is bound, where its network passes the test
abbrev pub asks_bound : Asks → StateView → Packet → (Network → Bool) → Option Verdict
asks_bound a s p test = option_and_then (λ link. option_and_then (λ n. only_if (a.link n link) (test n)) (find_link link s.networks)) p.outgoing

-- the local network, which is there from the start
abbrev pub asks_local : Asks → StateView → Option Verdict
asks_local a s = option_and_then a.net (find_id local_id s.networks)

-- the default network, where the mark suffices for its permission
abbrev pub asks_default : Asks → StateView → Packet → Option Verdict
asks_default a s p = option_and_then (λ n. only_if (a.net n) (may_use p n.kind)) (default_of s)

-- a range of this rank holds the UID
abbrev pub holds_at : ℕ → ℕ → Network → Bool
holds_at uid rank n = list_any (λ r. (r.rank == rank) && holds r.users uid) (ranges_of n.kind)

-- the networks of a kind with a range that holds the UID, in rising order of that range's rank, which is below 100
unfoldable pub holders : (Kind → Bool) → StateView → ℕ → List Network
holders is_of_kind s uid = flat_map (λ rank. filter (λ n. is_of_kind n.kind && holds_at uid rank n) s.networks) (numbers_from 0 100)

abbrev pub asks_holders : Asks → StateView → Packet → (Kind → Bool) → Option Verdict
asks_holders a s p is_of_kind = first_given a.net (holders is_of_kind s p.uid.number)

abbrev pub names_virtual : StateView → Packet → Bool
names_virtual s p = elim (find_id (net_of p.mark) s.networks) [ Some n ↦ is_virtual n.kind | None ↦ false ]

-- The device itself.

-- the loopback addresses, 127.0.0.0/8 by RFC 1122 and ::1 by RFC 4291
abbrev pub is_loopback : Addr → Bool
is_loopback (addr.V4 value) = value / 2 ^ 24 == 127
is_loopback (addr.V6 value) = value == 1

-- the packet is bound to no link, or to `lo`
abbrev pub may_use_lo : Option ℕ → Bool
may_use_lo None = true
may_use_lo (Some link) = link == lo

-- the packet is for the device itself
abbrev pub is_to_device : Packet → Bool
is_to_device p = is_loopback p.dest && may_use_lo p.outgoing

-- Lockdown.

-- the packet isn't protected, and its user is locked down
abbrev pub is_locked_down : StateView → Packet → Bool
is_locked_down s p = not (is_protected p.mark) && any_holds s.lockdown p.uid.number

-- lockdown bars a packet that the device made, that isn't protected and whose user is locked down
abbrev pub is_barred : StateView → Packet → Bool
is_barred s p = is_made p && is_locked_down s p

abbrev pub IsBarred : StateView → Packet → Type 0
IsBarred s p = IsTrue (is_barred s p)

-- The policy.

-- root reaches the interface to which it binds, even under lockdown
abbrev pub root_interface : Asks → StateView → Packet → Option Verdict
root_interface a s p = only_if (asks_bound a s p (may_reach p)) (p.uid.number == 0)

-- the secure VPN that the mark names, where it has system; then those that hold the user, unless the packet is protected
abbrev pub held : Asks → StateView → Packet → List (Option Verdict)
held a s p =
    only_if (asks_named a s p (λ n. is_secure n.kind)) (has_system p.mark)
    ∷ only_if (asks_holders a s p is_secure) (not (is_protected p.mark))
    ∷ []

-- the network that the packet chooses explicitly, and then the interface to which it is bound
abbrev pub chosen : Asks → StateView → Packet → List (Option Verdict)
chosen a s p =
    only_if (asks_named a s p (may_choose p)) (is_explicit p.mark)
    ∷ asks_bound a s p (may_bind p)
    ∷ []

-- the networks that are asked last: the local one; the free one that the mark names without choosing it; the bypassable VPN that
-- it names with system; the bypassable VPNs that hold the user; the physical networks that the app prefers; and the default one,
-- also in place of a VPN that the mark names without choosing it
abbrev pub rest : Asks → StateView → Packet → List (Option Verdict)
rest a s p =
    only_if (asks_local a s) (not (is_explicit p.mark))
    ∷ only_if (asks_named a s p (λ n. is_free n.kind)) (not (is_explicit p.mark))
    ∷ only_if (asks_named a s p (λ n. is_bypass n.kind)) (has_system p.mark)
    ∷ only_if (asks_holders a s p is_bypass) (not (is_protected p.mark) && not (is_explicit p.mark))
    ∷ only_if (asks_holders a s p (is_usable p)) (net_of p.mark == 0)
    ∷ only_if (asks_default a s p) ((net_of p.mark == 0) || (names_virtual s p && not (is_explicit p.mark)))
    ∷ []

abbrev pub policy_made : Asks → StateView → Packet → Verdict
policy_made a s p = first_answer verdict.Unreachable (
    only_if (Some verdict.Local) (is_to_device p)
    ∷ root_interface a s p
    ∷ held a s p
    ++ only_if (Some verdict.Prohibited) (is_barred s p)
    ∷ chosen a s p
    ++ rest a s p)

-- what the output of a tether pair says of a packet that comes by its input
abbrev pub asks_pair : Asks → StateView → Packet → TetherPair → Option Verdict
asks_pair a s p pair = only_if (option_and_then (λ n. a.link n pair.out) (find_link pair.out s.networks)) (pair.input == p.incoming)

abbrev pub policy_passed : Asks → StateView → Packet → Verdict
policy_passed a s p = first_answer verdict.Unreachable (
    only_if (Some verdict.Local) (is_loopback p.dest)
    ∷ asks_local a s
    ∷ first_given (asks_pair a s p) s.pairs
    ∷ [])

-- where the packet is to go, by what networks say of it
abbrev pub policy_by : Asks → StateView → Packet → Verdict
policy_by a s p = if is_made p then policy_made a s p else policy_passed a s p

-- where the packet is to go
unfoldable pub policy : StateView → Packet → Verdict
policy s p = policy_by (by_routes p) s p
