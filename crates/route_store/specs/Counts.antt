-- How many routes each interface has.
use Rattle.std.specs.Prelude.{◌≡◌, ℕ, List, nat_eq, length, unwrap_or}
use Rattle.std.specs.Map.{lookup}
use Rattle.networks.specs.Network.{routes_by}
use Rattle.networks.specs.declared.network.LinkRoute.{LinkRoute}

-- the count that stands at the interface, or 0
abbrev pub count_in : ℕ → List (ℕ × ℕ) → ℕ
count_in link counts = unwrap_or (lookup (nat_eq link) counts) 0

-- each interface's routes are counted
abbrev pub IsCounted : List LinkRoute → List (ℕ × ℕ) → Type 0
IsCounted routes counts = (link : ℕ) → count_in link counts ≡ length (routes_by link routes)
