-- What is asked by the part that a change touches is what is asked by both whole tables.
use Rattle.std.proofs.Common.{◌≡◌, ◌∙◌, ◌==◌, ℕ, Bool, true, false, Option, Some, None, List, [], ◌∷◌, ◌++◌, reverse, refl, sym, ap, ap₂, subst, inl, inr, map}
use Rattle.std.specs.Prelude.{if◌then◌else◌}
use Rattle.std.proofs.lemmas.Bool.{false≢true, false_from_ne_true}
use Rattle.kernel_model.specs.Switch.{requests_of, twins, additions, deletions}
use Rattle.kernel_model.specs.declared.request.Request.{Request}
use Rattle.networks.specs.Kinds.{is_local}
use Rattle.networks.specs.Lists.{find_id}
use Rattle.networks.specs.Network.{has_link, routes_by}
use Rattle.networks.specs.declared.network.LinkRoute.{LinkRoute}
use Rattle.networks.specs.declared.network.Network.{Network}
use Rattle.policy_state.specs.Change.{turned, Fits}
use Rattle.policy_state.specs.Good.{IsWellFormed}
use Rattle.policy_state.specs.Routed.{is_routed, NamesRoutes}
use Rattle.policy_state.specs.Step.{changed, is_in, route_of, key_of}
use Rattle.policy_state.specs.Table.{rule_table, table_of, in_order}
use Rattle.policy_state.specs.View.{StateView, link_named}
use Rattle.policy_state.specs.declared.change.Change.{Change}
use Rattle.policy_state.specs.declared.change.Change.TheVariants as change
use Rattle.policy_state.proofs.GoodStates.{is-whole}
use Rattle.policy_state.proofs.Owners.{Has, find-has, any-from}
use Rattle.commands.specs.declared.command.Command.{Command}
use Rattle.commands.specs.declared.command.Command.TheVariants as command
use Rattle.commands.specs.declared.command.Way.{Way}
use Rattle.prefixes.specs.declared.prefix.Prefix.{Prefix}
use Rattle.prefixes.specs.declared.route.Route.{Route}
use Rattle.rule_kinds.specs.Kind.{rule_kind}
use Rattle.rule_compile.specs.Asked.{asked, asked_adds, asked_deletes, of_interface, keyed_in, leaving_by, shortest_first, routes_come, routes_gone, routes_first}
use Rattle.rule_compile.specs.Planned.{change_comes, change_goes, change_goes_first, rules_come, rules_go, planned}
use Rattle.rule_compile.specs.Touched.{go_part, come_part}
use Rattle.rule_compile.proofs.TouchedApart.{changes-apart, apart-beyond, apart-turned}
use Rattle.rule_compile.proofs.TouchedChanges.{touched-cut}
use Rattle.rule_compile.proofs.TouchedTables.{table-beyond, turned-back}

-- the routes of a command are those of the change that it names
record SameRoutes (s : StateView) (c : Change) (command : Command) : Type 0 where
  come : routes_come s command ≡ change_comes s c
  gone : routes_gone s command ≡ change_goes s c
  first : routes_first s command ≡ change_goes_first s c

record NoRoutes (s : StateView) (c : Change) : Type 0 where
  come : change_comes s c ≡ []
  gone : change_goes s c ≡ []
  first : change_goes_first s c ≡ []

unrouted : (s : StateView) (c : Change) → is_routed c ≡ false → NoRoutes s c
unrouted s (change.RouteComes net link route) plain = absurd (false≢true (sym plain))
unrouted s (change.RouteGoes net link key) plain = absurd (false≢true (sym plain))
unrouted s (change.InterfaceGoes net link) plain = absurd (false≢true (sym plain))
unrouted s (change.NetworkGoes net) plain = absurd (false≢true (sym plain))
unrouted s change.Nothing plain = record { come = refl; gone = refl; first = refl }
unrouted s (change.LinkComes link) plain = record { come = refl; gone = refl; first = refl }
unrouted s (change.LinkGoes name) plain = record { come = refl; gone = refl; first = refl }
unrouted s (change.PhysicalComes net permission) plain = record { come = refl; gone = refl; first = refl }
unrouted s (change.VirtualComes net secure) plain = record { come = refl; gone = refl; first = refl }
unrouted s (change.InterfaceComes net link) plain = record { come = refl; gone = refl; first = refl }
unrouted s (change.RangesCome net rank ranges) plain = record { come = refl; gone = refl; first = refl }
unrouted s (change.RangesGo net ranges) plain = record { come = refl; gone = refl; first = refl }
unrouted s (change.DefaultBecomes default) plain = record { come = refl; gone = refl; first = refl }
unrouted s (change.NetworkPermission net permission) plain = record { come = refl; gone = refl; first = refl }
unrouted s (change.UserPermission uid permission) plain = record { come = refl; gone = refl; first = refl }
unrouted s (change.UserForgotten uid) plain = record { come = refl; gone = refl; first = refl }
unrouted s (change.ProtectAllowed uid) plain = record { come = refl; gone = refl; first = refl }
unrouted s (change.ProtectDenied uid) plain = record { come = refl; gone = refl; first = refl }
unrouted s (change.LockdownComes range) plain = record { come = refl; gone = refl; first = refl }
unrouted s (change.LockdownGoes range) plain = record { come = refl; gone = refl; first = refl }
unrouted s (change.PairComes pair) plain = record { come = refl; gone = refl; first = refl }
unrouted s (change.PairGoes pair) plain = record { come = refl; gone = refl; first = refl }

-- a link that isn't an interface of the network has no routes there
no-routes : (n : Network) (link : ℕ) → has_link n link ≡ false → (routes : List LinkRoute) → ((r : LinkRoute) → Has routes r → Has n.interfaces r.link) → routes_by link routes ≡ []
no-routes n link lacks [] belong = refl
no-routes n link lacks (r ∷ routes) belong =
    let other : (r.link == link) ≡ false = false_from_ne_true (r.link == link) (λ same.
    false≢true (sym lacks ∙ any-from (λ i. i == link) n.interfaces r.link (belong r (inl refl)) same)) in
    rw other (no-routes n link lacks routes (λ q h. belong q (inr h)))

module _ (s : StateView) (formed : IsWellFormed s) where
  none-leave : (n : Network) (link : ℕ) → Has s.networks n → has_link n link ≡ false → leaving_by n link ≡ []
  unfolding shortest_first
  none-leave n link there lacks =
      ap (λ (routes : List Route). map (λ (r : Route). (table_of n.kind link, r)) (shortest_first routes))
      (no-routes n link lacks n.routes (λ r h. (is-whole s formed).routes n r there h))

  -- an interface that isn't there leaves nothing
  not-in : (net link : ℕ) (routes : Network → ℕ → List (ℕ × Route)) → ((n : Network) → Has s.networks n → has_link n link ≡ false → routes n link ≡ []) → is_in s net link ≡ false
      → (elim (find_id net s.networks) as (λ _. List (ℕ × Route)) [ Some n ↦ routes n link | None ↦ [] ]) ≡ []
  not-in net link routes none lacks = by (find_id net s.networks) refl lacks
    where
      by : (o : Option Network) → find_id net s.networks ≡ o → (elim o as (λ _. Bool) [ Some n ↦ has_link n link | None ↦ false ]) ≡ false → (elim o as (λ _. List (ℕ × Route)) [ Some n ↦ routes n link | None ↦ [] ]) ≡ []
      by None is lacks = refl
      by (Some n) is lacks = none n (find-has (λ (m : Network). net == m.id) s.networks n is) lacks

  plain-routes : (c : Change) (command : Command) → is_routed c ≡ false → routes_come s command ≡ [] → routes_gone s command ≡ [] → routes_first s command ≡ [] → SameRoutes s c command
  plain-routes c command plain a b d =
      let none : NoRoutes s c = unrouted s c plain in
      record { come = a ∙ sym none.come; gone = b ∙ sym none.gone; first = d ∙ sym none.first }

  route-added : (c : Change) (net : ℕ) (name : List ℕ) (prefix : Prefix) (w : Way) → NamesRoutes c s (command.RouteAdd net name prefix w) → SameRoutes s c (command.RouteAdd net name prefix w)
  route-added c net name prefix w names = by (link_named s name) refl names
    where
      by : (o : Option ℕ) → link_named s name ≡ o → (elim o as (λ _. Type 0) [ Some link ↦ c ≡ change.RouteComes net link (route_of link prefix w) | None ↦ is_routed c ≡ false ]) → SameRoutes s c (command.RouteAdd net name prefix w)
      by None is plain = plain-routes c (command.RouteAdd net name prefix w) plain
          (ap (λ (o : Option ℕ). elim o as (λ _. List (ℕ × Route)) [ Some link ↦ elim (find_id net s.networks) as (λ _. List (ℕ × Route)) [ Some n ↦ (table_of n.kind link, route_of link prefix w) ∷ [] | None ↦ [] ] | None ↦ [] ]) is) refl refl
      by (Some link) is same = subst (λ (d : Change). SameRoutes s d (command.RouteAdd net name prefix w)) (sym same) (record {
        come = ap (λ (o : Option ℕ). elim o as (λ _. List (ℕ × Route)) [ Some link ↦ elim (find_id net s.networks) as (λ _. List (ℕ × Route)) [ Some n ↦ (table_of n.kind link, route_of link prefix w) ∷ [] | None ↦ [] ] | None ↦ [] ]) is;
        gone = refl;
        first = refl;
      })

  route-removed : (c : Change) (net : ℕ) (name : List ℕ) (prefix : Prefix) (special : Bool) → NamesRoutes c s (command.RouteRemove net name prefix special) → SameRoutes s c (command.RouteRemove net name prefix special)
  route-removed c net name prefix special names = by (link_named s name) refl names
    where
      by : (o : Option ℕ) → link_named s name ≡ o → (elim o as (λ _. Type 0) [ Some link ↦ c ≡ change.RouteGoes net link (key_of link prefix special) | None ↦ is_routed c ≡ false ]) → SameRoutes s c (command.RouteRemove net name prefix special)
      by None is plain = plain-routes c (command.RouteRemove net name prefix special) plain refl
          (ap (λ (o : Option ℕ). elim o as (λ _. List (ℕ × Route)) [ Some link ↦ elim (find_id net s.networks) as (λ _. List (ℕ × Route)) [ Some n ↦ keyed_in n link (key_of link prefix special) | None ↦ [] ] | None ↦ [] ]) is) refl
      by (Some link) is same = subst (λ (d : Change). SameRoutes s d (command.RouteRemove net name prefix special)) (sym same) (record {
        come = refl;
        gone = ap (λ (o : Option ℕ). elim o as (λ _. List (ℕ × Route)) [ Some link ↦ elim (find_id net s.networks) as (λ _. List (ℕ × Route)) [ Some n ↦ keyed_in n link (key_of link prefix special) | None ↦ [] ] | None ↦ [] ]) is;
        first = refl;
      })

  interface-removed : (c : Change) (net : ℕ) (name : List ℕ) → NamesRoutes c s (command.InterfaceRemove net name) → SameRoutes s c (command.InterfaceRemove net name)
  interface-removed c net name names = by (link_named s name) refl names
    where
      of-link : (routes : Network → ℕ → List (ℕ × Route)) (o : Option ℕ) → link_named s name ≡ o
          → of_interface s net name routes ≡ (elim o as (λ _. List (ℕ × Route)) [ Some link ↦ elim (find_id net s.networks) as (λ _. List (ℕ × Route)) [ Some n ↦ routes n link | None ↦ [] ] | None ↦ [] ])
      of-link routes o is = ap (λ (o : Option ℕ). elim o as (λ _. List (ℕ × Route)) [ Some link ↦ elim (find_id net s.networks) as (λ _. List (ℕ × Route)) [ Some n ↦ routes n link | None ↦ [] ] | None ↦ [] ]) is

      last : Network → ℕ → List (ℕ × Route)
      last n link = if is_local n.kind then [] else leaving_by n link

      first : Network → ℕ → List (ℕ × Route)
      first n link = if is_local n.kind then leaving_by n link else []

      no-last : (n : Network) (link : ℕ) → leaving_by n link ≡ [] → last n link ≡ []
      no-last n link none = elim (is_local n.kind) as (λ b. (if b then [] else leaving_by n link) ≡ []) [ true ↦ refl | false ↦ none ]

      no-first : (n : Network) (link : ℕ) → leaving_by n link ≡ [] → first n link ≡ []
      no-first n link none = elim (is_local n.kind) as (λ b. (if b then leaving_by n link else []) ≡ []) [ true ↦ none | false ↦ refl ]

      by : (o : Option ℕ) → link_named s name ≡ o → (elim o as (λ _. Type 0) [ Some link ↦ elim (is_in s net link) as (λ _. Type 0) [ true ↦ c ≡ change.InterfaceGoes net link | false ↦ is_routed c ≡ false ] | None ↦ is_routed c ≡ false ])
          → SameRoutes s c (command.InterfaceRemove net name)
      by None is plain = plain-routes c (command.InterfaceRemove net name) plain refl (of-link last None is) (of-link first None is)
      by (Some link) is names = within (is_in s net link) refl names
        where
          within : (b : Bool) → is_in s net link ≡ b → (elim b as (λ _. Type 0) [ true ↦ c ≡ change.InterfaceGoes net link | false ↦ is_routed c ≡ false ]) → SameRoutes s c (command.InterfaceRemove net name)
          within true there same = subst (λ (d : Change). SameRoutes s d (command.InterfaceRemove net name)) (sym same) (record {
            come = refl;
            gone = of-link last (Some link) is;
            first = of-link first (Some link) is;
          })
          within false lacks plain = plain-routes c (command.InterfaceRemove net name) plain refl
              (of-link last (Some link) is ∙ not-in net link last (λ n there none. no-last n link (none-leave n link there none)) lacks)
              (of-link first (Some link) is ∙ not-in net link first (λ n there none. no-first n link (none-leave n link there none)) lacks)

  same-routes : (c : Change) (command : Command) → NamesRoutes c s command → SameRoutes s c command
  same-routes c (command.RouteAdd net name prefix w) names = route-added c net name prefix w names
  same-routes c (command.RouteRemove net name prefix special) names = route-removed c net name prefix special names
  same-routes c (command.InterfaceRemove net name) names = interface-removed c net name names
  same-routes c (command.Destroy net) names = subst (λ (d : Change). SameRoutes s d (command.Destroy net)) (sym names) (record { come = refl; gone = refl; first = refl })
  same-routes c (command.LinkAdd name index) names = plain-routes c (command.LinkAdd name index) names refl refl refl
  same-routes c (command.LinkRemove name) names = plain-routes c (command.LinkRemove name) names refl refl refl
  same-routes c (command.CreatePhysical net permission) names = plain-routes c (command.CreatePhysical net permission) names refl refl refl
  same-routes c (command.CreateVirtual net secure) names = plain-routes c (command.CreateVirtual net secure) names refl refl refl
  same-routes c (command.InterfaceAdd net name) names = plain-routes c (command.InterfaceAdd net name) names refl refl refl
  same-routes c (command.UsersAdd net rank ranges) names = plain-routes c (command.UsersAdd net rank ranges) names refl refl refl
  same-routes c (command.UsersRemove net ranges) names = plain-routes c (command.UsersRemove net ranges) names refl refl refl
  same-routes c (command.AppAdd net rank ranges) names = plain-routes c (command.AppAdd net rank ranges) names refl refl refl
  same-routes c (command.AppRemove net ranges) names = plain-routes c (command.AppRemove net ranges) names refl refl refl
  same-routes c (command.DefaultSet net) names = plain-routes c (command.DefaultSet net) names refl refl refl
  same-routes c command.DefaultClear names = plain-routes c command.DefaultClear names refl refl refl
  same-routes c (command.PermissionNetwork net permission) names = plain-routes c (command.PermissionNetwork net permission) names refl refl refl
  same-routes c (command.PermissionUser uid permission) names = plain-routes c (command.PermissionUser uid permission) names refl refl refl
  same-routes c (command.PermissionClear uid) names = plain-routes c (command.PermissionClear uid) names refl refl refl
  same-routes c (command.ProtectAllow uid) names = plain-routes c (command.ProtectAllow uid) names refl refl refl
  same-routes c (command.ProtectDeny uid) names = plain-routes c (command.ProtectDeny uid) names refl refl refl
  same-routes c (command.LockdownAdd range) names = plain-routes c (command.LockdownAdd range) names refl refl refl
  same-routes c (command.LockdownRemove range) names = plain-routes c (command.LockdownRemove range) names refl refl refl
  same-routes c (command.TetherAdd input out) names = plain-routes c (command.TetherAdd input out) names refl refl refl
  same-routes c (command.TetherRemove input out) names = plain-routes c (command.TetherRemove input out) names refl refl refl

  module _ (c : Change) (fits : Fits c s) (formed_after : IsWellFormed (turned c s)) where
    pub come-is : additions (rule_table s) (rule_table (turned c s)) ≡ twins (rules_come s c)
    come-is = ap twins (
        table-beyond s (turned c s) (go_part s c) (come_part s c) formed_after (touched-cut c s formed fits)
        ∙ ap (in_order rule_kind) (apart-beyond (go_part s c) (come_part s c) (changes-apart c s formed)))

    pub go-is : (gone : List (ℕ × Route)) → deletions (rule_table s) (rule_table (turned c s)) gone ≡ reverse (twins (rules_go s c)) ++ requests_of gone
    go-is gone = ap (λ rules. reverse (twins rules) ++ requests_of gone)
        (table-beyond (turned c s) s (come_part s c) (go_part s c) formed (turned-back s (turned c s) (go_part s c) (come_part s c) (touched-cut c s formed fits))
        ∙ ap (in_order rule_kind) (apart-beyond (come_part s c) (go_part s c) (apart-turned (go_part s c) (come_part s c) (changes-apart c s formed))))

    -- the plan by the part that is touched is the one that is asked
    pub planned-is : (command : Command) → NamesRoutes c s command → turned c s ≡ changed s command → planned s c ≡ asked s command
    planned-is command names same = λ i. record { adds = adds i; deletes = deletes i }
      where
        routes : SameRoutes s c command
        routes = same-routes c command names

        adds : twins (rules_come s c) ++ requests_of (change_comes s c) ≡ asked_adds s command
        adds =
            ap₂ (λ (rules : List Request) (come : List (ℕ × Route)). rules ++ requests_of come) (sym come-is) (sym routes.come)
            ∙ ap (λ (t : StateView). additions (rule_table s) (rule_table t) ++ requests_of (routes_come s command)) same

        deletes : requests_of (change_goes_first s c) ++ (reverse (twins (rules_go s c)) ++ requests_of (change_goes s c)) ≡ asked_deletes s command
        deletes =
            ap₂ (λ (first gone : List (ℕ × Route)). requests_of first ++ (reverse (twins (rules_go s c)) ++ requests_of gone)) (sym routes.first) (sym routes.gone)
            ∙ (ap (λ (rest : List Request). requests_of (routes_first s command) ++ rest) (sym (go-is (routes_gone s command)))
            ∙ ap (λ (t : StateView). requests_of (routes_first s command) ++ deletions (rule_table s) (rule_table t) (routes_gone s command)) same)
