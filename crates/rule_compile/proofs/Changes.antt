-- What commands change of a state, as far as rules come from it.
use Rattle.std.specs.Prelude.{◌≡◌, ℕ, ◌++◌, List, [], ◌∷◌, map}
use Rattle.policy_state.proofs.Owners.{Has, Owners, IsOwned, AreOnce}
use Rattle.policy_state.specs.declared.row.Item.{Item}
use Rattle.policy_state.specs.declared.row.OnePer.{OnePer}
use Rattle.policy_state.specs.Rows.{items}
use Rattle.uid_ranges.specs.declared.ranked.Ranked.{Ranked}
use Rattle.networks.specs.declared.kind.Kind.{Kind}
use Rattle.networks.specs.declared.kind.Kind.TheVariants.{Local, Physical, Virtual}
use Rattle.networks.specs.declared.network.Network.{Network}
use Rattle.policy_state.specs.View.{StateView}

-- an interface comes to a network
abbrev pub with_interface : ℕ → Network → Network
with_interface link n = record n { interfaces = n.interfaces ++ link ∷ [] }

-- ranges come to a network
abbrev pub more_users : List Ranked → Kind → Kind
more_users more Local = Local
more_users more (Physical permission apps) = Physical permission (apps ++ more)
more_users more (Virtual secure users) = Virtual secure (users ++ more)

abbrev pub with_users : List Ranked → Network → Network
with_users more n = record n { kind = more_users more n.kind }

-- the second list is the first one with some left out
pub data Left {A : Type 0} : List A → List A → Type 0 where
  Nothing : Left [] []
  Stays : (x : A) (xs ys : List A) → Left xs ys → Left (x ∷ xs) (x ∷ ys)
  Goes : (x : A) (xs ys : List A) → Left xs ys → Left (x ∷ xs) ys

-- of what there are rules for, nothing comes
abbrev pub Shrinks : StateView → StateView → Type 0
Shrinks s t = (per : OnePer) → Left (items per s) (items per t)

-- for each kind of item, what was there is there, and more after it
abbrev pub GetsMore : StateView → StateView → Type 0
GetsMore s t = (per : OnePer) → (more : List Item) × (items per t ≡ items per s ++ more)

-- two good states, of which the second has what a change makes of each network of the first
pub record Touches (o : Owners) (s t : StateView) (change : Network → Network) : Type 0 where
  pub good_old : IsOwned o s
  pub good_new : IsOwned o t
  pub once_old : AreOnce s
  pub once_new : AreOnce t
  pub default : s.default ≡ t.default
  pub lockdown : s.lockdown ≡ t.lockdown
  pub pairs : s.pairs ≡ t.pairs
  pub networks : t.networks ≡ map change s.networks
  pub ids : (n : Network) → Has s.networks n → (change n).id ≡ n.id
