-- A command that is accepted leads from a good state to a good one.
use Rattle.std.proofs.Common.{◌≡◌, ◌∙◌, ◌≤◌, ◌<◌, ◌==◌, ◌&&◌, ◌||◌, ◌+◌, ℕ, Bool, true, false, not, Option, Some, None, List, [], ◌∷◌, ◌++◌, length, filter, refl, sym, ap, subst, inl, inr, arith, nat_le, is_some}
use Rattle.std.specs.Prelude.{nat_lt}
use Rattle.std.specs.List.{list_all}
use Rattle.std.specs.Str.{bytes_eq}
use Rattle.std.proofs.lemmas.Bool.{cases_Bool, false≢true, and_from, or_left, or_parts, both_ways, ltb-false, leb-false, le-leb, not-false, not_from_false, eqb-true, eq-eqb, false_from_ne_true}
use Rattle.std.proofs.lemmas.List.{length-append, length-map}
use Rattle.std.proofs.lemmas.List.Folds.{list_any-append, list_all-append}
use Rattle.list_lemmas.proofs.Anys.{length-filter-le}
use Rattle.list_lemmas.proofs.Options.{some_there}
use Rattle.list_lemmas.proofs.Pairs.{list_all-filter}
use Rattle.fib_table.specs.Table.{has_key}
use Rattle.fwmark.specs.declared.permission.Permission.{Permission}
use Rattle.net_names.specs.declared.code.Code.TheVariants as code
use Rattle.networks.specs.Kinds.{class_of, ranges_of, is_local}
use Rattle.networks.specs.Kinds as kinds
use Rattle.networks.specs.Lists.{find_id, find_link}
use Rattle.networks.specs.Network.{has_link, routes_by, is_keyed_by}
use Rattle.networks.specs.declared.kind.Kind.TheVariants as kind
use Rattle.prefixes.specs.declared.prefix.Prefix.{Prefix}
use Rattle.prefixes.specs.declared.route.Route.{Route}
use Rattle.rule_match.specs.Packet.{lo}
use Rattle.uid_ranges.specs.Ranges.{AreDisjoint, has, self_meets, without}
use Rattle.uid_ranges.specs.Ranks.{last_rank, users_meet}
use Rattle.uid_ranges.specs.declared.range.Uid.{Uid}
use Rattle.uid_ranges.specs.declared.range.UidRange.{UidRange}
use Rattle.uid_ranges.proofs.Disjoint.{AreDisjoint-append, AreDisjoint-filter}
use Rattle.uid_ranges.proofs.RankedLists.{are_ranked-more}
use Rattle.commands.specs.Commands.{FitsTypes}
use Rattle.commands.specs.declared.command.Command.{Command}
use Rattle.commands.specs.declared.command.Command.TheVariants as command
use Rattle.commands.specs.declared.command.Way.{Way}
use Rattle.policy_state.specs.Counts.{rule_count}
use Rattle.policy_state.specs.Good.{most_links, most_networks, most_interfaces, most_routes, most_ranges, most_rules, most_lockdown_ranges, most_pairs, most_users, is_by_link, is_index, is_local_network, is_output, is_default_there, AreLinks, ArePairs, IsNetwork, IsWellFormed, IsGood}
use Rattle.policy_state.specs.Step.{any_meet_at, because, changed, changed_by_link, first_that_holds, has_pair, has_too_many_rules, is_full, is_in, is_in_any, is_in_local, is_input, is_local_net, is_net_unknown, is_of_user, is_pair, is_physical, is_protectable, is_special, is_user, is_way_of_other_family, key_of, of_links, of_net, ranges_come_reasons, ranges_meet, reasons, refusal, route_of, routes_at, table_routes, table_routes_of, with_link, with_net, with_permission, with_permission_of, with_ranges, with_route, without_interface, without_link, without_ranges, without_route}
use Rattle.policy_state.specs.View.{StateView, Link, Network, LinkRoute, TetherPair, UserPermission, Kind, link_named}
use Rattle.policy_state.proofs.Accepted.{none_holds, first-parts, of_link-at, of_net-at, of_links-at, both_named, BothNamed, changed_by_link-at, changed_by_link-none, changed_by_links-at, is_in-at, is_full-at, is_local_net-at, routes_at-at, table_routes-at, Routed, routed}
use Rattle.policy_state.proofs.GoodStates.{each-has}
use Rattle.policy_state.proofs.LinkLists.{links-add, links-remove, index_kept, may_be_interface}
use Rattle.policy_state.proofs.Members.{all-implied, find-passes}
use Rattle.policy_state.proofs.NetworkChanges.{MayBecome, formed-keeping, formed-leaving}
use Rattle.policy_state.proofs.NetworkLists.{formed-more, formed-left}
use Rattle.policy_state.proofs.NetworkParts.{has-link, id-found, in_none, local-class, physical-class, virtual-class}
use Rattle.policy_state.proofs.NetworkSteps.{all_routes, few_by, link-left, linked, own_link, permitted, plain, ranges-left, ranges-more, rerouted, stays, unlinked}
use Rattle.policy_state.proofs.Owners.{Has, any-from, find-has}
use Rattle.policy_state.proofs.PairLists.{may_be_input, pairs-filter, pairs-kept, pairs-push}
use Rattle.policy_state.proofs.RouteLists.{network-with_route, network-without_route}
use Rattle.policy_state.proofs.FewUsers.{AreFew, few-filter, few-permission, few-push}

-- links

-- the same networks, with other links among which their interfaces and the inputs of pairs are
formed-links : (s : StateView) (links : List Link) → IsWellFormed s → AreLinks links
    → ((n : Network) (i : ℕ) → Has s.networks n → Has n.interfaces i → is_index s.links i ≡ true → is_index links i ≡ true)
    → ((pair : TetherPair) → Has s.pairs pair → is_index s.links pair.input ≡ true → is_index links pair.input ≡ true)
    → IsWellFormed (record s { links = links })
formed-links s links formed good interfaces inputs = record {
  links = good;
  networks = formed.networks;
  interfaces = all-implied (λ n. list_all (is_index s.links) n.interfaces) (λ n. list_all (is_index links) n.interfaces) s.networks
      (λ n in_n h. all-implied (is_index s.links) (is_index links) n.interfaces (λ i in_i g. interfaces n i in_n in_i g) h) formed.interfaces;
  users = formed.users;
  lockdown_disjoint = formed.lockdown_disjoint;
  lockdown_few = formed.lockdown_few;
  pairs = pairs-kept s.links links s.networks s.networks s.pairs formed.pairs inputs (λ pair in_pair h. h);
  default = formed.default;
}

formed-link_add : (s : StateView) (name : List ℕ) (index : ℕ) → IsWellFormed s → index < 65536
    → first_that_holds (reasons s (command.LinkAdd name index)) ≡ None → IsWellFormed (changed s (command.LinkAdd name index))
formed-link_add s name index formed most accepted =
    let facts = none_holds (reasons s (command.LinkAdd name index)) accepted in
    let more : List Link = s.links ++ record { name = name; index = index } ∷ [] in
    let stays : (i : ℕ) → is_index s.links i ≡ true → is_index more i ≡ true =
    λ i h. list_any-append (λ l. l.index == i) s.links (record { name = name; index = index } ∷ []) ∙ or_left _ _ h in
    formed-links s more formed
    (links-add s.links name index formed.links (ltb-false index 2 facts.0) most facts.1.0 (leb-false most_links (length s.links) facts.1.1.0))
    (λ n i in_n in_i h. stays i h) (λ pair in_pair h. stays pair.input h)

formed-link_remove : (s : StateView) (name : List ℕ) → IsWellFormed s
    → first_that_holds (reasons s (command.LinkRemove name)) ≡ None → IsWellFormed (changed s (command.LinkRemove name))
formed-link_remove s name formed accepted =
    let facts = none_holds (reasons s (command.LinkRemove name)) accepted in
    let found = some_there (link_named s name) facts.0 in
    let gone : ℕ = found.0 in
    let named : link_named s name ≡ Some gone = found.1 in
    let busy : (is_in_any s gone || is_input s gone) ≡ false = sym (of_link-at s name (λ i. is_in_any s i || is_input s i) gone named) ∙ facts.1.1.0 in
    let idle = or_parts (is_in_any s gone) (is_input s gone) busy in
    let left : List Link = filter (λ l. not (bytes_eq l.name name)) s.links in
    let kept : (i : ℕ) → (i == gone) ≡ false → is_index s.links i ≡ true → is_index left i ≡ true =
    λ i other h. index_kept name gone i s.links formed.links.names_distinct named other h in
    formed-links s left formed (links-remove s.links name formed.links facts.1.0)
    (λ n i in_n in_i h. kept i (false_from_ne_true (i == gone) (λ same.
    false≢true (sym (in_none s gone n idle.0 in_n) ∙ has-link n gone (subst (Has n.interfaces) (eqb-true i gone same) in_i)))) h)
    (λ pair in_pair h. kept pair.input (false_from_ne_true (pair.input == gone) (λ same.
    false≢true (sym idle.1 ∙ any-from (λ p. p.input == gone) s.pairs pair in_pair same))) h)

-- networks

-- the network of a known id
record Known (s : StateView) (net : ℕ) : Type 0 where
  n : Network
  found : find_id net s.networks ≡ Some n
  there : Has s.networks n

known : (s : StateView) (net : ℕ) → is_net_unknown s net ≡ false → Known s net
known s net h = let it = some_there (find_id net s.networks) h in record { n = it.0; found = it.1; there = find-has (λ (m : Network). net == m.id) s.networks it.0 it.1 }

-- an interface comes to those that are there
with_link-keeps : (n : Network) (link i : ℕ) → has_link n i ≡ true → has_link (with_link link n) i ≡ true
with_link-keeps n link i h = elim (cases_Bool (has_link n link)) as (λ _. has_link (with_link link n) i ≡ true) [
  | inl has ↦ rw has h
  | inr absent ↦ rw absent (list_any-append (λ other. other == i) n.interfaces (link ∷ []) ∙ or_left _ _ h)
]

formed-interface_add : (s : StateView) (net : ℕ) (name : List ℕ) → IsWellFormed s
    → first_that_holds (reasons s (command.InterfaceAdd net name)) ≡ None → IsWellFormed (changed s (command.InterfaceAdd net name))
formed-interface_add s net name formed accepted =
    let facts = none_holds (reasons s (command.InterfaceAdd net name)) accepted in
    let known = some_there (find_id net s.networks) facts.0 in
    let n : Network = known.0 in
    let found : find_id net s.networks ≡ Some n = known.1 in
    let there : Has s.networks n = find-has (λ (m : Network). net == m.id) s.networks n found in
    let named = some_there (link_named s name) facts.1.1.0 in
    let link : ℕ = named.0 in
    let is : link_named s name ≡ Some link = named.1 in
    let in_it : is_in s net link ≡ has_link n link = is_in-at s net n found link in
    let busy : (is_in_any s link && not (is_in s net link)) ≡ false = sym (of_link-at s name (λ i. is_in_any s i && not (is_in s net i)) link is) ∙ facts.1.1.1.0 in
    let full : (not (is_in s net link) && is_full s net) ≡ false = sym (of_link-at s name (λ i. not (is_in s net i) && is_full s net) link is) ∙ facts.1.1.1.1.0 in
    let may = may_be_interface s.links name link formed.links facts.1.0 is in
    subst IsWellFormed (sym (changed_by_link-at s name (λ i. with_net net (with_link i)) link is))
    (formed-keeping s formed net n found (with_link link) (elim (cases_Bool (has_link n link)) [
      | inl has ↦
          let same : with_link link n ≡ n = rw has refl in
          subst (MayBecome s n) (sym same) (stays s formed n there)
      | inr absent ↦
          let grows : with_link link n ≡ record n { interfaces = n.interfaces ++ link ∷ [] } = rw absent refl in
          let idle : is_in_any s link ≡ false = false_from_ne_true (is_in_any s link) (λ any. both_ways (is_in_any s link && not (is_in s net link)) busy (rw (any, in_it, absent) refl)) in
          let has_room : is_full s net ≡ false = rw (in_it, absent) at full in
          let room : length n.interfaces < most_interfaces = leb-false most_interfaces (length n.interfaces) (sym (is_full-at s net n found) ∙ has_room) in
          subst (MayBecome s n) (sym grows) (linked s n link formed there absent may.0 may.1 idle room)
    ]) (λ i h. with_link-keeps n link i h))

formed-interface_remove : (s : StateView) (net : ℕ) (name : List ℕ) → IsWellFormed s
    → first_that_holds (reasons s (command.InterfaceRemove net name)) ≡ None → IsWellFormed (changed s (command.InterfaceRemove net name))
formed-interface_remove s net name formed accepted = by (link_named s name) refl
  where
    left : (link : ℕ) → IsWellFormed (without_interface net link s)
    left link =
        let facts = none_holds (reasons s (command.InterfaceRemove net name)) accepted in
        let at : Known s net = known s net facts.0 in
        elim (cases_Bool (is_in s net link)) as (λ _. IsWellFormed (without_interface net link s)) [
          | inl e ↦ rw e (formed-leaving s formed net at.n at.found (without_link link) (unlinked s at.n link formed at.there) link (λ i other h. link-left at.n link i other h))
          | inr e ↦ rw e formed
        ]

    by : (o : Option ℕ) → link_named s name ≡ o → IsWellFormed (changed_by_link s name (λ link. without_interface net link))
    by None is = subst IsWellFormed (sym (changed_by_link-none s name (λ link. without_interface net link) is)) formed
    by (Some link) is = subst IsWellFormed (sym (changed_by_link-at s name (λ i. without_interface net i) link is)) (left link)

formed-route_add : (s : StateView) (net : ℕ) (name : List ℕ) (prefix : Prefix) (w : Way) → IsWellFormed s
    → first_that_holds (reasons s (command.RouteAdd net name prefix w)) ≡ None → IsWellFormed (changed s (command.RouteAdd net name prefix w))
formed-route_add s net name prefix w formed accepted =
    let facts = none_holds (reasons s (command.RouteAdd net name prefix w)) accepted in
    let at : Routed s net name = routed s net name facts.0 facts.1.1.0 in
    let n : Network = at.n in
    let link : ℕ = at.link in
    let there : Has s.networks n = find-has (λ (m : Network). net == m.id) s.networks n at.found in
    let old : MayBecome s n n = stays s formed n there in
    let ways = or_parts (is_special w && is_local_net s net) (is_way_of_other_family prefix w) facts.1.1.1.0 in
    let special : (is_special w && is_local n.kind) ≡ false = ap (λ b. is_special w && b) (sym (is_local_net-at s net n at.found)) ∙ ways.0 in
    let absent : has_key (routes_by link n.routes) (route_of link prefix w) ≡ false =
    ap (λ rs. has_key rs (route_of link prefix w)) (sym (routes_at-at s net n at.found link)) ∙ (sym (of_link-at s name (λ i. has_key (routes_at s net i) (route_of i prefix w)) link at.named) ∙ facts.1.1.1.1.0) in
    let full : nat_le most_routes (length (table_routes_of n link)) ≡ false =
    ap (λ rs. nat_le most_routes (length rs)) (sym (table_routes-at s net n at.found link)) ∙ (sym (of_link-at s name (λ i. nat_le most_routes (length (table_routes s net i))) link at.named) ∙ facts.1.1.1.1.1.0) in
    let room : length (table_routes_of n link) < most_routes = leb-false most_routes (length (table_routes_of n link)) full in
    let more : LinkRoute = record { link = link; route = route_of link prefix w } in
    subst IsWellFormed (sym (changed_by_link-at s name (λ i. with_net net (with_route i (route_of i prefix w))) link at.named))
    (formed-keeping s formed net n at.found (with_route link (route_of link prefix w))
    (rerouted s n (n.routes ++ more ∷ []) formed there
    (network-with_route n link prefix w old.good at.has ways.1 absent (few_by n link (is_local n.kind) refl room))
    (λ local. list_all-append is_by_link n.routes (more ∷ []) ∙ and_from _ _ (old.by_link local) (and_from _ _ (own_link link prefix w (plain (is_special w) (rw local at special))) refl))
    (λ local. omega (arith, length-append n.routes (more ∷ []), length-map n.routes (λ (r : LinkRoute). r.route), all_routes n link local room))) (λ i h. h))

formed-route_remove : (s : StateView) (net : ℕ) (name : List ℕ) (prefix : Prefix) (special : Bool) → IsWellFormed s
    → first_that_holds (reasons s (command.RouteRemove net name prefix special)) ≡ None → IsWellFormed (changed s (command.RouteRemove net name prefix special))
formed-route_remove s net name prefix special formed accepted =
    let facts = none_holds (reasons s (command.RouteRemove net name prefix special)) accepted in
    let at : Routed s net name = routed s net name facts.0 facts.1.1.0 in
    let n : Network = at.n in
    let there : Has s.networks n = find-has (λ (m : Network). net == m.id) s.networks n at.found in
    let old : MayBecome s n n = stays s formed n there in
    let key : Route = key_of at.link prefix special in
    let left : LinkRoute → Bool = λ r. not (is_keyed_by at.link key r) in
    subst IsWellFormed (sym (changed_by_link-at s name (λ i. with_net net (without_route i (key_of i prefix special))) at.link at.named))
    (formed-keeping s formed net n at.found (without_route at.link key)
    (rerouted s n (filter left n.routes) formed there (network-without_route n at.link key old.good)
    (λ local. list_all-filter is_by_link left n.routes (old.by_link local))
    (λ local. omega (arith, length-filter-le left n.routes, old.few_routes local))) (λ i h. h))

-- permissions of networks
formed-permission : (s : StateView) (net : ℕ) (permission : Permission) → IsWellFormed s
    → first_that_holds (reasons s (command.PermissionNetwork net permission)) ≡ None → IsWellFormed (changed s (command.PermissionNetwork net permission))
formed-permission s net permission formed accepted =
    let facts = none_holds (reasons s (command.PermissionNetwork net permission)) accepted in
    let at : Known s net = known s net facts.0 in
    formed-keeping s formed net at.n at.found (with_permission permission) (permitted s at.n permission formed at.there) (λ i h. h)

-- ranges of a network

formed-ranges_go : (s : StateView) (net : ℕ) (gone : List UidRange) → IsWellFormed s → is_net_unknown s net ≡ false → IsWellFormed (with_net net (without_ranges gone) s)
formed-ranges_go s net gone formed there =
    let at : Known s net = known s net there in
    formed-keeping s formed net at.n at.found (without_ranges gone) (ranges-left s at.n gone formed at.there) (λ i h. h)

formed-ranges_come : (test : Kind → Bool) (class : ℕ) → ((k : Kind) → (class_of k == class) ≡ test k) → (class == 0) ≡ false → (s : StateView) (net rank : ℕ) (more : List UidRange) → IsWellFormed s
    → first_that_holds (ranges_come_reasons test s net rank more) ≡ None → IsWellFormed (with_net net (with_ranges rank more) s)
formed-ranges_come test class is not_local s net rank more formed accepted =
    let facts = none_holds (ranges_come_reasons test s net rank more) accepted in
    let at : Known s net = known s net facts.0 in
    let n : Network = at.n in
    let good : IsNetwork n = each-has IsNetwork s.networks n formed.networks.each at.there in
    let valid = or_parts (not (of_net s net (λ m. test m.kind)) || self_meets more) (nat_lt last_rank rank) facts.1.0 in
    let fit = or_parts (not (of_net s net (λ m. test m.kind))) (self_meets more) valid.0 in
    let low : rank ≤ 99 = ltb-false 99 rank valid.1 in
    let tested : test n.kind ≡ true = sym (of_net-at s net n at.found (λ m. test m.kind)) ∙ not-false (of_net s net (λ m. test m.kind)) fit.0 in
    let other : is_local n.kind ≡ false = sym (local-class n.kind) ∙ (ap (λ c. c == 0) (eqb-true (class_of n.kind) class (is n.kind ∙ tested)) ∙ not_local) in
    let free = or_parts (ranges_meet s net more) (any_meet_at test s rank more) facts.1.1.0 in
    let apart : users_meet (ranges_of n.kind) more ≡ false = sym (of_net-at s net n at.found (λ m. users_meet (ranges_of m.kind) more)) ∙ free.0 in
    let room : nat_lt most_ranges (length (ranges_of n.kind) + length more) ≡ false =
    sym (of_net-at s net n at.found (λ m. nat_lt most_ranges (length (ranges_of m.kind) + length more))) ∙ facts.1.1.1.0 in
    formed-keeping s formed net n at.found (with_ranges rank more)
    (ranges-more test class is s n tested rank more formed at.there other (are_ranked-more rank (ranges_of n.kind) more good.ranked (le-leb rank 99 low) fit.1 apart)
    (ltb-false most_ranges (length (ranges_of n.kind) + length more) room) free.1)
    (λ i h. h)

-- the default network and tether pairs

formed-parts : (s : StateView) (pairs : List TetherPair) (default : Option ℕ) → IsWellFormed s → ArePairs s.links s.networks pairs → is_default_there s.networks default ≡ true
    → IsWellFormed (record s { pairs = pairs; default = default })
formed-parts s pairs default formed good there = record {
  links = formed.links;
  networks = formed.networks;
  interfaces = formed.interfaces;
  users = formed.users;
  lockdown_disjoint = formed.lockdown_disjoint;
  lockdown_few = formed.lockdown_few;
  pairs = good;
  default = there;
}

formed-default : (s : StateView) (default : Option ℕ) → IsWellFormed s → is_default_there s.networks default ≡ true → IsWellFormed (record s { default = default })
formed-default s default formed there = formed-parts s s.pairs default formed formed.pairs there

formed-default_set : (s : StateView) (net : ℕ) → IsWellFormed s → first_that_holds (reasons s (command.DefaultSet net)) ≡ None → IsWellFormed (changed s (command.DefaultSet net))
formed-default_set s net formed accepted =
    let facts = none_holds (reasons s (command.DefaultSet net)) accepted in
    let at : Known s net = known s net facts.0 in
    let n : Network = at.n in
    let physical : kinds.is_physical n.kind ≡ true = sym (of_net-at s net n at.found (λ m. kinds.is_physical m.kind)) ∙ not-false (is_physical s net) facts.1.0 in
    formed-default s (Some net) formed
    (any-from (λ m. (m.id == net) && kinds.is_physical m.kind) s.networks n at.there (and_from _ _ (eq-eqb n.id net (sym (id-found net s.networks n at.found))) physical))

-- users

formed-users : (s : StateView) (permissions : List UserPermission) (protectable : List Uid) → IsWellFormed s → AreFew (λ (p : UserPermission). p.uid.number) most_users permissions
    → AreFew (λ (u : Uid). u.number) most_users protectable → IsWellFormed (record s { permissions = permissions; protectable = protectable })
formed-users s permissions protectable formed one other = record {
  links = formed.links;
  networks = formed.networks;
  interfaces = formed.interfaces;
  users = record { permissions_differ = one.distinct; few_permissions = one.few; protectable_differ = other.distinct; few_protectable = other.few };
  lockdown_disjoint = formed.lockdown_disjoint;
  lockdown_few = formed.lockdown_few;
  pairs = formed.pairs;
  default = formed.default;
}

few-permissions : (s : StateView) → IsWellFormed s → AreFew (λ (p : UserPermission). p.uid.number) most_users s.permissions
few-permissions s formed = record { distinct = formed.users.permissions_differ; few = formed.users.few_permissions }

few-protectable : (s : StateView) → IsWellFormed s → AreFew (λ (u : Uid). u.number) most_users s.protectable
few-protectable s formed = record { distinct = formed.users.protectable_differ; few = formed.users.few_protectable }

formed-user : (s : StateView) (uid : Uid) (permission : Permission) → IsWellFormed s
    → first_that_holds (reasons s (command.PermissionUser uid permission)) ≡ None → IsWellFormed (changed s (command.PermissionUser uid permission))
formed-user s uid permission formed accepted =
    let facts = none_holds (reasons s (command.PermissionUser uid permission)) accepted in
    formed-users s (with_permission_of uid permission s.permissions) s.protectable formed
    (few-permission most_users uid permission s.permissions (few-permissions s formed) facts.0) (few-protectable s formed)

formed-protect : (s : StateView) (uid : Uid) → IsWellFormed s → first_that_holds (reasons s (command.ProtectAllow uid)) ≡ None → IsWellFormed (changed s (command.ProtectAllow uid))
formed-protect s uid formed accepted =
    let facts = none_holds (reasons s (command.ProtectAllow uid)) accepted in
    elim (cases_Bool (is_protectable s uid)) as (λ _. IsWellFormed (changed s (command.ProtectAllow uid))) [
      | inl e ↦ rw e formed
      | inr e ↦
          let full : nat_le most_users (length s.protectable) ≡ false = rw e at facts.0 in
          rw e (formed-users s s.permissions (s.protectable ++ uid ∷ []) formed (few-permissions s formed)
          (few-push (λ (u : Uid). u.number) most_users s.protectable uid (few-protectable s formed) e (leb-false most_users (length s.protectable) full)))
    ]

-- tether pairs

formed-pairs : (s : StateView) (pairs : List TetherPair) → IsWellFormed s → ArePairs s.links s.networks pairs → IsWellFormed (record s { pairs = pairs })
formed-pairs s pairs formed good = formed-parts s pairs s.default formed good formed.default

-- an interface of a network that isn't local
may_be_output : (s : StateView) (link : ℕ) → is_in_any s link ≡ true → is_in_local s link ≡ false → is_output s.networks link ≡ true
may_be_output s link any away = by (find_link link s.networks) refl any away
  where
    by : (o : Option Network) → find_link link s.networks ≡ o → is_some o ≡ true → (elim o as (λ _. Bool) [ Some n ↦ is_local n.kind | None ↦ false ]) ≡ false → is_output s.networks link ≡ true
    by None is some h = absurd (false≢true some)
    by (Some n) is some h =
        any-from (λ m. has_link m link && not (is_local_network m)) s.networks n (find-has (λ m. has_link m link) s.networks n is)
        (and_from _ _ (find-passes (λ m. has_link m link) s.networks n is) (not_from_false _ h))

formed-tether_add : (s : StateView) (input out : List ℕ) → IsWellFormed s
    → first_that_holds (reasons s (command.TetherAdd input out)) ≡ None → IsWellFormed (changed s (command.TetherAdd input out))
formed-tether_add s input out formed accepted =
    let facts = none_holds (reasons s (command.TetherAdd input out)) accepted in
    let there : of_links s input out (λ came goes. is_in_any s goes) ≡ true = not-false (of_links s input out (λ came goes. is_in_any s goes)) facts.0 in
    let at : BothNamed s input out = both_named s input out (λ came goes. is_in_any s goes) there in
    let came : ℕ = at.came in
    let goes : ℕ = at.goes in
    let any : is_in_any s goes ≡ true = sym (of_links-at s input out (λ came goes. is_in_any s goes) at) ∙ there in
    let valid : ((came == goes) || (came == lo) || is_in_local s goes) ≡ false = sym (of_links-at s input out (λ came goes. (came == goes) || (came == lo) || is_in_local s goes) at) ∙ facts.1.0 in
    let two = or_parts ((came == goes) || (came == lo)) (is_in_local s goes) valid in
    let one = or_parts (came == goes) (came == lo) two.0 in
    let absent : has_pair s came goes ≡ false = sym (of_links-at s input out (has_pair s) at) ∙ facts.1.1.0 in
    let may = may_be_input s.links input came formed.links one.1 at.input_named in
    subst IsWellFormed (sym (changed_by_links-at s input out (λ came goes t. record t { pairs = t.pairs ++ record { input = came; out = goes } ∷ [] }) at))
    (formed-pairs s (s.pairs ++ record { input = came; out = goes } ∷ []) formed
    (pairs-push s.links s.networks s.pairs (record { input = came; out = goes }) formed.pairs
    (record { above = le-leb 2 came may.0; known = may.1; differs = not_from_false (came == goes) one.0; output = may_be_output s goes any two.1 })
    absent (leb-false most_pairs (length s.pairs) facts.1.1.1.0)))

formed-tether_remove : (s : StateView) (input out : List ℕ) → IsWellFormed s
    → first_that_holds (reasons s (command.TetherRemove input out)) ≡ None → IsWellFormed (changed s (command.TetherRemove input out))
formed-tether_remove s input out formed accepted =
    let facts = none_holds (reasons s (command.TetherRemove input out)) accepted in
    let at : BothNamed s input out = both_named s input out (has_pair s) (not-false (of_links s input out (has_pair s)) facts.0) in
    subst IsWellFormed (sym (changed_by_links-at s input out (λ came goes t. record t { pairs = filter (λ p. not (is_pair (record { input = came; out = goes }) p)) t.pairs }) at))
    (formed-pairs s (filter (λ p. not (is_pair (record { input = at.came; out = at.goes }) p)) s.pairs) formed
    (pairs-filter s.links s.networks (λ p. not (is_pair (record { input = at.came; out = at.goes }) p)) s.pairs formed.pairs))

-- lockdown

formed-lockdown : (s : StateView) (ranges : List UidRange) → IsWellFormed s → AreDisjoint ranges → length ranges ≤ most_lockdown_ranges → IsWellFormed (record s { lockdown = ranges })
formed-lockdown s ranges formed disjoint few = record {
  links = formed.links;
  networks = formed.networks;
  interfaces = formed.interfaces;
  users = formed.users;
  lockdown_disjoint = disjoint;
  lockdown_few = few;
  pairs = formed.pairs;
  default = formed.default;
}

-- all commands

pub formed-changed : (s : StateView) (c : Command) → IsWellFormed s → FitsTypes c → first_that_holds (reasons s c) ≡ None → IsWellFormed (changed s c)
formed-changed s (command.LinkAdd name index) formed fits accepted = formed-link_add s name index formed fits accepted
formed-changed s (command.LinkRemove name) formed fits accepted = formed-link_remove s name formed accepted
formed-changed s (command.CreatePhysical net permission) formed fits accepted =
    let facts = none_holds (reasons s (command.CreatePhysical net permission)) accepted in
    formed-more s formed net (kind.Physical permission []) fits (ltb-false net 100 facts.0) (not-false (is_net_unknown s net) facts.1.0) (leb-false most_networks (length s.networks) facts.1.1.0) refl refl
formed-changed s (command.CreateVirtual net secure) formed fits accepted =
    let facts = none_holds (reasons s (command.CreateVirtual net secure)) accepted in
    formed-more s formed net (kind.Virtual secure []) fits (ltb-false net 100 facts.0) (not-false (is_net_unknown s net) facts.1.0) (leb-false most_networks (length s.networks) facts.1.1.0) refl refl
formed-changed s (command.Destroy net) formed fits accepted = formed-left s formed net (none_holds (reasons s (command.Destroy net)) accepted).0
formed-changed s (command.InterfaceAdd net name) formed fits accepted = formed-interface_add s net name formed accepted
formed-changed s (command.InterfaceRemove net name) formed fits accepted = formed-interface_remove s net name formed accepted
formed-changed s (command.RouteAdd net name prefix w) formed fits accepted = formed-route_add s net name prefix w formed accepted
formed-changed s (command.RouteRemove net name prefix special) formed fits accepted = formed-route_remove s net name prefix special formed accepted
formed-changed s (command.UsersAdd net rank ranges) formed fits accepted = formed-ranges_come kinds.is_virtual 2 virtual-class refl s net rank ranges formed accepted
formed-changed s (command.UsersRemove net ranges) formed fits accepted = formed-ranges_go s net ranges formed (none_holds (reasons s (command.UsersRemove net ranges)) accepted).0
formed-changed s (command.AppAdd net rank ranges) formed fits accepted = formed-ranges_come kinds.is_physical 1 physical-class refl s net rank ranges formed accepted
formed-changed s (command.AppRemove net ranges) formed fits accepted = formed-ranges_go s net ranges formed (none_holds (reasons s (command.AppRemove net ranges)) accepted).0
formed-changed s (command.DefaultSet net) formed fits accepted = formed-default_set s net formed accepted
formed-changed s command.DefaultClear formed fits accepted = formed-default s None formed refl
formed-changed s (command.PermissionNetwork net permission) formed fits accepted = formed-permission s net permission formed accepted
formed-changed s (command.PermissionUser uid permission) formed fits accepted = formed-user s uid permission formed accepted
formed-changed s (command.PermissionClear uid) formed fits accepted =
    formed-users s (filter (λ p. not (is_of_user uid p)) s.permissions) s.protectable formed
    (few-filter (λ (p : UserPermission). p.uid.number) most_users (λ p. not (is_of_user uid p)) s.permissions (few-permissions s formed)) (few-protectable s formed)
formed-changed s (command.ProtectAllow uid) formed fits accepted = formed-protect s uid formed accepted
formed-changed s (command.ProtectDeny uid) formed fits accepted =
    formed-users s s.permissions (filter (λ u. not (is_user uid u)) s.protectable) formed (few-permissions s formed)
    (few-filter (λ (u : Uid). u.number) most_users (λ u. not (is_user uid u)) s.protectable (few-protectable s formed))
formed-changed s (command.LockdownAdd range) formed fits accepted =
    let facts = none_holds (reasons s (command.LockdownAdd range)) accepted in
    formed-lockdown s (s.lockdown ++ range ∷ []) formed (AreDisjoint-append s.lockdown (range ∷ []) formed.lockdown_disjoint refl facts.0)
    (omega (arith, length-append s.lockdown (range ∷ []), leb-false 1000 (length s.lockdown) facts.1.0))
formed-changed s (command.LockdownRemove range) formed fits accepted =
    formed-lockdown s (without s.lockdown (range ∷ [])) formed (AreDisjoint-filter (λ other. not (has (range ∷ []) other)) s.lockdown formed.lockdown_disjoint)
    (omega (arith, formed.lockdown_few, length-filter-le (λ other. not (has (range ∷ []) other)) s.lockdown))
formed-changed s (command.TetherAdd input out) formed fits accepted = formed-tether_add s input out formed accepted
formed-changed s (command.TetherRemove input out) formed fits accepted = formed-tether_remove s input out formed accepted

-- what an accepted command shows: none of its reasons, and not too many rules
pub accepted-parts : (s : StateView) (c : Command) → refusal s c ≡ None → (first_that_holds (reasons s c) ≡ None) × (has_too_many_rules s c ≡ false)
accepted-parts s c accepted = first-parts (reasons s c) (because code.NoSpace (has_too_many_rules s c)) accepted

pub good-changed : (s : StateView) (c : Command) → IsGood s → FitsTypes c → refusal s c ≡ None → IsGood (changed s c)
good-changed s c good fits accepted =
    let parts = accepted-parts s c accepted in
    record { formed = formed-changed s c good.formed fits parts.0; few_rules = ltb-false most_rules (rule_count (changed s c)) parts.1 }
