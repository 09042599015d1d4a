-- An index that finds the network to which a link, or a user at a rank, belongs.
use Rattle.std.specs.Prelude.{◌≡◌, ℕ, Bool, true, false, List, Option, Some, None}
use Rattle.std.specs.List.{list_any, AllByRecursion}
use Rattle.networks.specs.declared.network.Network.{Network}

-- from what a network has, the index leads to that network's id, and from what none has it leads nowhere
pub record LeadsToOwner {K : Type 0} (has : Network → K → Bool) (look : K → Option ℕ) (networks : List Network) : Type 0 where
  pub owned : AllByRecursion (λ (n : Network). (key : K) → has n key ≡ true → look key ≡ Some n.id) networks
  pub unowned : (key : K) → list_any (λ n. has n key) networks ≡ false → look key ≡ None
