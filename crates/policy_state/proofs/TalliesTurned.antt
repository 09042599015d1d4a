-- A change moves the tallies by what the network that it touches has before and after it.
use Rattle.std.proofs.Common.{◌≡◌, ◌∙◌, ◌+◌, ℕ, [], ◌∷◌, ◌++◌, Option, Some, None, refl, sym, ap, subst, inl, inr, arith}
use Rattle.std.specs.Prelude.{sum_by}
use Rattle.std.specs.Option.{option_map, option_map_or}
use Rattle.std.proofs.lemmas.Bool.{cases_Bool}
use Rattle.networks.specs.Lists.{AreKeyed, find_id}
use Rattle.networks.specs.Network.{has_link}
use Rattle.networks.specs.declared.kind.Kind.{Kind}
use Rattle.networks.specs.declared.kind.Kind.TheVariants as kind
use Rattle.policy_state.specs.Change.{turned, Fits}
use Rattle.policy_state.specs.ChangedNet.{net_of, share_in, shares_of, counts_virtual}
use Rattle.policy_state.specs.Step.{is_in, is_protectable, with_link, without_link, with_net, without_net, without_interface, with_route, without_route, with_ranges, without_ranges, with_permission}
use Rattle.policy_state.specs.Tallies.{own, share, tallies_of}
use Rattle.policy_state.specs.declared.count.Tallies.{Tallies}
use Rattle.policy_state.specs.View.{Network, StateView}
use Rattle.policy_state.specs.declared.change.Change.{Change}
use Rattle.policy_state.specs.declared.change.Change.TheVariants as change
use Rattle.policy_state.proofs.NetworkChanges.{with_change}
use Rattle.policy_state.proofs.TallyChanges.{share-new, share-gone, none-gone, share-changed, share-at, find-changed}

module _ (f : Network → ℕ) (s : StateView) (keyed : AreKeyed s.networks) where
  abbrev Moves : Option ℕ → StateView → Type 0
  Moves net t = sum_by f t.networks + share_in f net s.networks ≡ sum_by f s.networks + share_in f net t.networks

  stays : (net : Option ℕ) → Moves net s
  stays net = refl

  changes : (net : ℕ) (change : Network → Network) → ((n : Network) → (change n).id ≡ n.id) → Moves (Some net) (with_net net change s)
  changes net change same_id =
      share-changed f net change same_id s.networks keyed ∙ ap (λ m. sum_by f s.networks + m) (sym now)
    where
      of_option : (o : Option Network) → option_map_or f (option_map change o) 0 ≡ option_map_or (λ n. f (change n)) o 0
      of_option None = refl
      of_option (Some n) = refl

      now : share f net (with_change net change s.networks) ≡ share (λ n. f (change n)) net s.networks
      now = share-at f net (with_change net change s.networks) (option_map change (find_id net s.networks)) (find-changed f net change same_id s.networks) ∙ of_option (find_id net s.networks)

  comes : (net : ℕ) (k : Kind) → find_id net s.networks ≡ None → sum_by f (s.networks ++ record { id = net; kind = k; interfaces = []; routes = [] } ∷ []) + share f net s.networks
      ≡ sum_by f s.networks + share f net (s.networks ++ record { id = net; kind = k; interfaces = []; routes = [] } ∷ [])
  comes net k fresh = share-new f net s.networks (record { id = net; kind = k; interfaces = []; routes = [] }) refl fresh

  goes : (net : ℕ) → Moves (Some net) (without_net net s)
  goes net = omega (arith, share-gone f net s.networks keyed, share-at f net (without_net net s).networks None (none-gone f net s.networks))

  leaves : (net link : ℕ) → Moves (Some net) (without_interface net link s)
  leaves net link = elim (cases_Bool (is_in s net link)) as (λ _. Moves (Some net) (without_interface net link s)) [
    | inl e ↦ rw e (changes net (without_link link) (λ n. refl))
    | inr e ↦ rw e refl
  ]

  link-id : (link : ℕ) (n : Network) → (with_link link n).id ≡ n.id
  link-id link n = elim (cases_Bool (has_link n link)) as (λ _. (with_link link n).id ≡ n.id) [ inl h ↦ rw h refl | inr h ↦ rw h refl ]

  pub moved : (c : Change) → Fits c s → Moves (net_of c) (turned c s)
  moved change.Nothing fits = refl
  moved (change.LinkComes link) fits = refl
  moved (change.LinkGoes name) fits = refl
  moved (change.PhysicalComes net permission) fits = comes net (kind.Physical permission []) fits
  moved (change.VirtualComes net secure) fits = comes net (kind.Virtual secure []) fits
  moved (change.NetworkGoes net) fits = goes net
  moved (change.InterfaceComes net link) fits = changes net (with_link link) (link-id link)
  moved (change.InterfaceGoes net link) fits = leaves net link
  moved (change.RouteComes net link route) fits = changes net (with_route link route) (λ n. refl)
  moved (change.RouteGoes net link key) fits = changes net (without_route link key) (λ n. refl)
  moved (change.RangesCome net rank ranges) fits = changes net (with_ranges rank ranges.now) (λ n. refl)
  moved (change.RangesGo net ranges) fits = changes net (without_ranges ranges.now) (λ n. refl)
  moved (change.DefaultBecomes default) fits = refl
  moved (change.NetworkPermission net permission) fits = changes net (with_permission permission) (λ n. refl)
  moved (change.UserPermission uid permission) fits = refl
  moved (change.UserForgotten uid) fits = refl
  moved (change.ProtectAllowed uid) fits = elim (cases_Bool (is_protectable s uid)) as (λ _. Moves None (turned (change.ProtectAllowed uid) s)) [ inl e ↦ rw e refl | inr e ↦ rw e refl ]
  moved (change.ProtectDenied uid) fits = refl
  moved (change.LockdownComes range) fits = refl
  moved (change.LockdownGoes range) fits = refl
  moved (change.PairComes pair) fits = refl
  moved (change.PairGoes pair) fits = refl

-- what is kept, and what the network has before and after
pub record AreMoved (new kept before after : Tallies) : Type 0 where
  pub own : new.own + before.own ≡ kept.own + after.own
  pub virtuals : new.virtuals + before.virtuals ≡ kept.virtuals + after.virtuals

pub tallies-moved : (s : StateView) → AreKeyed s.networks → (c : Change) → Fits c s → (t : StateView) → t ≡ turned c s → (net : Option ℕ) → net ≡ net_of c → (kept before after : Tallies)
    → kept ≡ tallies_of s.networks → before ≡ shares_of net s.networks → after ≡ shares_of net t.networks → AreMoved (tallies_of t.networks) kept before after
tallies-moved s keyed c fits t is net of kept before after kept_is before_is after_is =
    subst (λ (u : Tallies). AreMoved (tallies_of t.networks) u before after) (sym kept_is)
    (subst (λ (u : Tallies). AreMoved (tallies_of t.networks) (tallies_of s.networks) u after) (sym (before_is ∙ ap (λ n. shares_of n s.networks) of))
    (subst (λ (u : Tallies). AreMoved (tallies_of t.networks) (tallies_of s.networks) (shares_of (net_of c) s.networks) u) (sym (after_is ∙ ap (λ n. shares_of n t.networks) of))
    (subst (λ (u : StateView). AreMoved (tallies_of u.networks) (tallies_of s.networks) (shares_of (net_of c) s.networks) (shares_of (net_of c) u.networks)) (sym is)
    (record { own = moved own s keyed c fits; virtuals = moved counts_virtual s keyed c fits }))))
