-- Lists of networks, in the order of their creation.
use Rattle.std.specs.Prelude.{◌≡◌, ℕ, ◌==◌, ◌&&◌, Bool, true, not, List, [], ◌∷◌, map, find, Option, if◌then◌else◌}
use Rattle.std.specs.List.{list_any}
use Rattle.networks.specs.Network.{has_link}
use Rattle.networks.specs.declared.network.Network.{Network}

abbrev pub find_id : ℕ → List Network → Option Network
find_id id networks = find (λ n. id == n.id) networks

-- the network of which the link is an interface
abbrev pub find_link : ℕ → List Network → Option Network
find_link link networks = find (λ n. has_link n link) networks

-- the network in the place of the one with its id, or last
abbrev pub put_net : Network → List Network → List Network
put_net network [] = network ∷ []
put_net network (n ∷ ns) = if network.id == n.id then network ∷ ns else n ∷ put_net network ns

-- the networks without the one with this id
abbrev pub drop_net : ℕ → List Network → List Network
drop_net id [] = []
drop_net id (n ∷ ns) = if id == n.id then ns else n ∷ drop_net id ns

-- no number stands twice
abbrev pub are_distinct : List ℕ → Bool
are_distinct [] = true
are_distinct (n ∷ ns) = not (list_any (λ m. m == n) ns) && are_distinct ns

-- no two networks have one id
abbrev pub AreKeyed : List Network → Type 0
AreKeyed networks = are_distinct (map (λ n. n.id) networks) ≡ true

-- each network stands at its id
abbrev pub StandAtIds : List (ℕ × Network) → Type 0
StandAtIds [] = Unit {0}
StandAtIds (e ∷ es) = (e.0 ≡ e.1.id) × StandAtIds es
