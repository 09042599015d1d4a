-- What a state is after a change, with what the command names resolved: a link by its index, a way by its route.
use Rattle.std.specs.Prelude.{◌≡◌, ℕ, ◌≤◌, ◌<◌, ◌∷◌, [], ◌++◌, Bool, false, List, Some, None, not, filter, length, if◌then◌else◌, Result, Ok, Err}
use Rattle.std.specs.List.{list_any}
use Rattle.std.specs.Option.{option_map, IfSome}
use Rattle.std.specs.Str.{bytes_eq}
use Rattle.link_table.specs.Links.{is_taken}
use Rattle.network_store.specs.Kin.{kin_meet}
use Rattle.networks.specs.Kinds.{ranges_of}
use Rattle.networks.specs.Lists.{find_id, find_link}
use Rattle.networks.specs.Network.{is_keyed_by, has_link}
use Rattle.networks.specs.declared.kind.Kind.TheVariants as kind
use Rattle.policy_state.specs.declared.change.Change.{Change}
use Rattle.policy_state.specs.declared.change.Change.TheVariants as change
use Rattle.policy_state.specs.Good.{most_interfaces, most_ranges}
use Rattle.policy_state.specs.Step.{is_of_user, is_user, is_pair, is_protectable, with_net, with_link, with_route, without_route, with_ranges, without_ranges, with_permission, with_new_net, without_net, without_interface, with_permission_of}
use Rattle.policy_state.specs.View.{StateView, Network}
use Rattle.uid_ranges.specs.Ranges.{AreDisjoint, without}
use Rattle.uid_ranges.specs.Ranks.{last_rank, users_meet}
use Rattle.uid_ranges.specs.declared.range.UidRange.{UidRange}

-- the state after the change: this and nothing else is changed
abbrev pub turned : Change → StateView → StateView
turned change.Nothing s = s
turned (change.LinkComes link) s = record s { links = s.links ++ link ∷ [] }
turned (change.LinkGoes name) s = record s { links = filter (λ l. not (bytes_eq l.name name)) s.links }
turned (change.PhysicalComes net permission) s = with_new_net net (kind.Physical permission []) s
turned (change.VirtualComes net secure) s = with_new_net net (kind.Virtual secure []) s
turned (change.NetworkGoes net) s = without_net net s
turned (change.InterfaceComes net link) s = with_net net (with_link link) s
turned (change.InterfaceGoes net link) s = without_interface net link s
turned (change.RouteComes net link route) s = with_net net (with_route link route) s
turned (change.RouteGoes net link key) s = with_net net (without_route link key) s
turned (change.RangesCome net rank ranges) s = with_net net (with_ranges rank ranges.now) s
turned (change.RangesGo net ranges) s = with_net net (without_ranges ranges.now) s
turned (change.DefaultBecomes default) s = record s { default = default }
turned (change.NetworkPermission net permission) s = with_net net (with_permission permission) s
turned (change.UserPermission uid permission) s = record s { permissions = with_permission_of uid permission s.permissions }
turned (change.UserForgotten uid) s = record s { permissions = filter (λ p. not (is_of_user uid p)) s.permissions }
turned (change.ProtectAllowed uid) s = if is_protectable s uid then s else record s { protectable = s.protectable ++ uid ∷ [] }
turned (change.ProtectDenied uid) s = record s { protectable = filter (λ u. not (is_user uid u)) s.protectable }
turned (change.LockdownComes range) s = record s { lockdown = s.lockdown ++ range ∷ [] }
turned (change.LockdownGoes range) s = record s { lockdown = without s.lockdown (range ∷ []) }
turned (change.PairComes pair) s = record s { pairs = s.pairs ++ pair ∷ [] }
turned (change.PairGoes pair) s = record s { pairs = filter (λ p. not (is_pair pair p)) s.pairs }

-- the state after a change for which another was asked: as it was, unless the answer is that it may be made
abbrev pub turned_if : {R E : Type 0} → Result (Result (Unit {0}) R) E → Change → StateView → StateView
turned_if (Ok (Ok u)) change s = turned change s
turned_if (Ok (Err reason)) change s = s
turned_if (Err fault) change s = s

-- the link is an interface of the network of this id
abbrev pub has_link_at : ℕ → List Network → ℕ → Bool
has_link_at net networks link = elim (find_id net networks) [ Some n ↦ has_link n link | None ↦ false ]

-- the ranges are disjoint and meet no range of the network, nor one of their rank of a network of its kind
pub record RangesFit (net rank : ℕ) (ranges : List UidRange) (networks : List Network) : Type 0 where
  pub low : rank ≤ last_rank
  pub few : length ranges ≤ most_ranges
  pub disjoint : AreDisjoint ranges
  pub apart : IfSome (find_id net networks) (λ n. users_meet (ranges_of n.kind) ranges ≡ false)
  pub ranks_apart : IfSome (find_id net networks) (λ n. kin_meet rank ranges n networks ≡ false)

-- the network has a place for the link, which is an interface of none
pub record InterfaceFits (net link : ℕ) (networks : List Network) : Type 0 where
  pub free : find_link link networks ≡ None
  pub few : IfSome (find_id net networks) (λ n. length n.interfaces < most_interfaces)

-- what comes isn't there yet and clashes with nothing, and the interface that goes is there
abbrev pub Fits : Change → StateView → Type 0
Fits (change.LinkComes link) s = is_taken link.name link.index s.links ≡ false
Fits (change.PhysicalComes net permission) s = find_id net s.networks ≡ None
Fits (change.VirtualComes net secure) s = find_id net s.networks ≡ None
Fits (change.InterfaceComes net link) s = InterfaceFits net link s.networks
Fits (change.InterfaceGoes net link) s = option_map (λ n. n.id) (find_link link s.networks) ≡ Some net
Fits (change.RouteComes net link route) s = IfSome (find_id net s.networks) (λ n. list_any (is_keyed_by link route) n.routes ≡ false)
Fits (change.RangesCome net rank ranges) s = RangesFit net rank ranges.now s.networks
Fits _ s = Unit {0}
