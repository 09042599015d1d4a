-- What each command makes of the rule table.
use Rattle.std.proofs.Common.{◌≡◌, ◌∙◌, ◌==◌, ◌||◌, ℕ, Bool, true, false, Option, Some, None, List, [], ◌∷◌, ◌++◌, not, refl, sym, ap, subst, map, filter}
use Rattle.std.specs.Prelude.{nat_lt, if◌then◌else◌}
use Rattle.std.specs.List.{AllByRecursion}
use Rattle.std.proofs.lemmas.Bool.{false≢true, eqb-true}
use Rattle.commands.specs.declared.command.Command.{Command}
use Rattle.commands.specs.declared.command.Command.TheVariants as command
use Rattle.net_names.specs.declared.code.Code.TheVariants as code
use Rattle.networks.specs.Kinds as kinds
use Rattle.networks.specs.Lists.{find_id}
use Rattle.networks.specs.declared.kind.Kind.{Kind}
use Rattle.networks.specs.declared.kind.Kind.TheVariants as kind
use Rattle.networks.specs.declared.network.Network.{Network}
use Rattle.policy_state.specs.Good.{IsWellFormed}
use Rattle.policy_state.specs.Step.{refusal, reasons, because, has_too_many_rules, of_net, kind_with, is_in, is_pair, is_protectable, is_user, is_of_user, with_permission_of, with_net, with_link, with_route, with_ranges, without_route, without_net, without_interface, route_of, key_of, changed}
use Rattle.policy_state.specs.View.{StateView, link_named}
use Rattle.policy_state.specs.declared.users.UserPermission.{UserPermission}
use Rattle.policy_state.proofs.Accepted.{none_holds, first-parts}
use Rattle.policy_state.proofs.GoodStates.{same-ids}
use Rattle.policy_state.proofs.Owners.{Has}
use Rattle.uid_ranges.specs.Ranges.{has, self_meets}
use Rattle.uid_ranges.specs.Ranks.{all_at, last_rank}
use Rattle.uid_ranges.specs.declared.range.Uid.{Uid}
use Rattle.uid_ranges.specs.declared.range.UidRange.{UidRange}
use Rattle.rule_compile.proofs.ChangeKinds.{TableTurns, table-same, same-turns, links-stay, users-stay, routes-same, mapped-same, used, network-comes-turns, interface-turns, permission-turns-table, lockdown-comes-turns, lockdown-goes-turns, ranges-turn, default-turn, pair-comes-turns, pairs-go-turns, thins-turn}
use Rattle.rule_compile.proofs.Changes.{more_users, with_users}
use Rattle.rule_compile.proofs.Defaults.{Found, of_find}
use Rattle.rule_compile.proofs.Thinning.{unlinked, after_link, link-thins, stays, net-thins, fewer, ranges-thin}

-- none of the reasons against an accepted command holds
pub unrefused : (s : StateView) (c : Command) → refusal s c ≡ None → AllByRecursion (λ r. r.holds ≡ false) (reasons s c)
unrefused s c accepted = none_holds (reasons s c) (first-parts (reasons s c) (because code.NoSpace (has_too_many_rules s c)) accepted).0

-- the network of an id has a kind that passes a test
kind-passes : (s : StateView) (net : ℕ) (test : Kind → Bool) → IsWellFormed s → of_net s net (λ n. test n.kind) ≡ true → (n : Network) → Has s.networks n → (net == n.id) ≡ true → test n.kind ≡ true
kind-passes s net test good h n there here = by (find_id net s.networks) refl h
  where
    by : (o : Option Network) → find_id net s.networks ≡ o → (elim o as (λ _. Bool) [ Some m ↦ test m.kind | None ↦ false ]) ≡ true → test n.kind ≡ true
    by None is passes = absurd (false≢true passes)
    by (Some m) is passes =
        let it : Found (λ (n : Network). net == n.id) s.networks m = of_find (λ (n : Network). net == n.id) s.networks m is in
        subst (λ (k : Network). test k.kind ≡ true) (same-ids s good m n it.there there (sym (eqb-true net m.id it.passes) ∙ eqb-true net n.id here)) passes

of-kind : (a b c : Bool) → (not a || b || c) ≡ false → a ≡ true
of-kind true b c h = refl
of-kind false b c h = absurd (false≢true (sym h))

physical-away : (k : Kind) → kinds.is_physical k ≡ true → kinds.is_local k ≡ false
physical-away kind.Local h = absurd (false≢true h)
physical-away (kind.Physical permission apps) h = refl
physical-away (kind.Virtual secure users) h = refl

virtual-away : (k : Kind) → kinds.is_virtual k ≡ true → kinds.is_local k ≡ false
virtual-away kind.Local h = absurd (false≢true h)
virtual-away (kind.Physical permission apps) h = absurd (false≢true h)
virtual-away (kind.Virtual secure users) h = refl

-- ranges come to a network
ranges-come : (s : StateView) (net rank : ℕ) (ranges : List UidRange) → IsWellFormed s → IsWellFormed (with_net net (with_ranges rank ranges) s)
    → ((n : Network) → Has s.networks n → (net == n.id) ≡ true → kinds.is_local n.kind ≡ false) → TableTurns s (with_net net (with_ranges rank ranges) s)
ranges-come s net rank ranges good good' away =
    let is : with_net net (with_ranges rank ranges) s ≡ record s { networks = map (used net (all_at rank ranges)) s.networks } =
    ap (λ ns. record s { networks = ns }) (mapped-same (λ n. if net == n.id then with_ranges rank ranges n else n) (used net (all_at rank ranges)) s.networks (λ n. by n (net == n.id))) in
    subst (TableTurns s) (sym is) (ranges-turn net (all_at rank ranges) s good (subst IsWellFormed is good') away)
  where
    kind-is : (n : Network) (k : Kind) → ◌≡◌ {A = Network} (record n { kind = kind_with rank ranges k }) (record n { kind = more_users (all_at rank ranges) k })
    kind-is n kind.Local = refl
    kind-is n (kind.Physical permission apps) = refl
    kind-is n (kind.Virtual secure users) = refl

    by : (n : Network) (b : Bool) → (if b then with_ranges rank ranges n else n) ≡ (if b then with_users (all_at rank ranges) n else n)
    by n true = kind-is n n.kind
    by n false = refl

-- what is known of users comes and goes
users-turn : (s : StateView) (permissions : List UserPermission) (protectable : List Uid) → TableTurns s (record s { permissions = permissions; protectable = protectable })
users-turn s permissions protectable =
    let t : StateView = record s { permissions = permissions; protectable = protectable } in
    same-turns s t (table-same s t (users-stay s permissions protectable))

-- an interface leaves
pub interface-goes : (s : StateView) (net link : ℕ) → IsWellFormed s → TableTurns s (without_interface net link s)
interface-goes s net link good = by (is_in s net link)
  where
    by : (b : Bool) → TableTurns s (if b then after_link net link s else s)
    by true = thins-turn s (after_link net link s) (λ n. true) (unlinked net link) good (link-thins net link s)
    by false = same-turns s s refl

pub step-turns : (s : StateView) (c : Command) → refusal s c ≡ None → IsWellFormed s → IsWellFormed (changed s c) → TableTurns s (changed s c)
step-turns s (command.LinkAdd name index) accepted good good' = same-turns s (changed s (command.LinkAdd name index)) (table-same s (changed s (command.LinkAdd name index)) (links-stay s (changed s (command.LinkAdd name index)).links))
step-turns s (command.LinkRemove name) accepted good good' = same-turns s (changed s (command.LinkRemove name)) (table-same s (changed s (command.LinkRemove name)) (links-stay s (changed s (command.LinkRemove name)).links))
step-turns s (command.CreatePhysical net permission) accepted good good' = network-comes-turns s (record { id = net; kind = kind.Physical permission []; interfaces = []; routes = [] }) good good'
step-turns s (command.CreateVirtual net secure) accepted good good' = network-comes-turns s (record { id = net; kind = kind.Virtual secure []; interfaces = []; routes = [] }) good good'
step-turns s (command.Destroy net) accepted good good' = thins-turn s (without_net net s) (stays net) (λ n. n) good (net-thins net s)
step-turns s (command.InterfaceAdd net name) accepted good good' = by (link_named s name) good'
  where
    by : (o : Option ℕ) → IsWellFormed (elim o [ Some link ↦ with_net net (with_link link) s | None ↦ s ]) → TableTurns s (elim o [ Some link ↦ with_net net (with_link link) s | None ↦ s ])
    by (Some link) good' = interface-turns net link s good good'
    by None good' = same-turns s s refl
step-turns s (command.InterfaceRemove net name) accepted good good' = by (link_named s name)
  where
    by : (o : Option ℕ) → TableTurns s (elim o [ Some link ↦ without_interface net link s | None ↦ s ])
    by (Some link) = interface-goes s net link good
    by None = same-turns s s refl
step-turns s (command.RouteAdd net name prefix w) accepted good good' = by (link_named s name)
  where
    by : (o : Option ℕ) → TableTurns s (elim o [ Some link ↦ with_net net (with_route link (route_of link prefix w)) s | None ↦ s ])
    by (Some link) = same-turns s (with_net net (with_route link (route_of link prefix w)) s) (routes-same s net (λ n. (with_route link (route_of link prefix w) n).routes))
    by None = same-turns s s refl
step-turns s (command.RouteRemove net name prefix special) accepted good good' = by (link_named s name)
  where
    by : (o : Option ℕ) → TableTurns s (elim o [ Some link ↦ with_net net (without_route link (key_of link prefix special)) s | None ↦ s ])
    by (Some link) = same-turns s (with_net net (without_route link (key_of link prefix special)) s) (routes-same s net (λ n. (without_route link (key_of link prefix special) n).routes))
    by None = same-turns s s refl
step-turns s (command.UsersAdd net rank ranges) accepted good good' =
    let facts = unrefused s (command.UsersAdd net rank ranges) accepted in
    ranges-come s net rank ranges good good' (λ n there here. virtual-away n.kind (kind-passes s net kinds.is_virtual good (of-kind (of_net s net (λ n. kinds.is_virtual n.kind)) (self_meets ranges) (nat_lt last_rank rank) facts.1.0) n there here))
step-turns s (command.UsersRemove net ranges) accepted good good' = thins-turn s (changed s (command.UsersRemove net ranges)) (λ n. true) (fewer net ranges) good (ranges-thin net ranges s)
step-turns s (command.AppAdd net rank ranges) accepted good good' =
    let facts = unrefused s (command.AppAdd net rank ranges) accepted in
    ranges-come s net rank ranges good good' (λ n there here. physical-away n.kind (kind-passes s net kinds.is_physical good (of-kind (of_net s net (λ n. kinds.is_physical n.kind)) (self_meets ranges) (nat_lt last_rank rank) facts.1.0) n there here))
step-turns s (command.AppRemove net ranges) accepted good good' = thins-turn s (changed s (command.AppRemove net ranges)) (λ n. true) (fewer net ranges) good (ranges-thin net ranges s)
step-turns s (command.DefaultSet net) accepted good good' = default-turn s (Some net) good good'
step-turns s command.DefaultClear accepted good good' = default-turn s None good good'
step-turns s (command.PermissionNetwork net permission) accepted good good' = permission-turns-table net permission s good good'
step-turns s (command.PermissionUser uid permission) accepted good good' = users-turn s (with_permission_of uid permission s.permissions) s.protectable
step-turns s (command.PermissionClear uid) accepted good good' = users-turn s (filter (λ p. not (is_of_user uid p)) s.permissions) s.protectable
step-turns s (command.ProtectAllow uid) accepted good good' = by (is_protectable s uid)
  where
    by : (b : Bool) → TableTurns s (if b then s else record s { protectable = s.protectable ++ uid ∷ [] })
    by true = same-turns s s refl
    by false = users-turn s s.permissions (s.protectable ++ uid ∷ [])
step-turns s (command.ProtectDeny uid) accepted good good' = users-turn s s.permissions (filter (λ u. not (is_user uid u)) s.protectable)
step-turns s (command.LockdownAdd range) accepted good good' = lockdown-comes-turns s range good good'
step-turns s (command.LockdownRemove range) accepted good good' = lockdown-goes-turns s (λ r. not (has (range ∷ []) r)) good
step-turns s (command.TetherAdd input out) accepted good good' = by (link_named s input) (link_named s out) good'
  where
    with_pair : Option ℕ → Option ℕ → StateView
    with_pair o p = elim o [
      | Some came ↦ elim p [ Some goes ↦ record s { pairs = s.pairs ++ record { input = came; out = goes } ∷ [] } | None ↦ s ]
      | None ↦ s
    ]

    by : (o p : Option ℕ) → IsWellFormed (with_pair o p) → TableTurns s (with_pair o p)
    by (Some came) (Some goes) good' = pair-comes-turns s (record { input = came; out = goes }) good good'
    by (Some came) None good' = same-turns s s refl
    by None p good' = same-turns s s refl
step-turns s (command.TetherRemove input out) accepted good good' = by (link_named s input) (link_named s out)
  where
    without_pair : Option ℕ → Option ℕ → StateView
    without_pair o p = elim o [
      | Some came ↦ elim p [ Some goes ↦ record s { pairs = filter (λ p. not (is_pair (record { input = came; out = goes }) p)) s.pairs } | None ↦ s ]
      | None ↦ s
    ]

    by : (o p : Option ℕ) → TableTurns s (without_pair o p)
    by (Some came) (Some goes) = pairs-go-turns s (λ p. not (is_pair (record { input = came; out = goes }) p)) good
    by (Some came) None = same-turns s s refl
    by None p = same-turns s s refl
