-- An index as contracts see it, and how its parts stand to one another.
use Rattle.std.specs.Prelude.{◌≡◌, ℕ, ◌-◌, List, [], ◌∷◌, map, min, slice_get, Some, ◌⊎◌}
use Rattle.std.specs.List.{AllByRecursion}
use Rattle.rule_match.specs.declared.rule.Rule.{Rule}
use Rattle.rule_index.specs.declared.spot.Spot.{Spot}
use Rattle.rule_index.specs.declared.spot.Sorting.TheVariants.{ByArrival, ByKey}
use Rattle.rule_index.specs.Spots.{flat, keyed_of, rule_with}
use Rattle.rule_index.specs.Sorted.{Rises, spots_by}

-- the rules by rising priority, and how many can be put in without memory
pub record IndexView : Type 0 where
  pub list : List Rule
  pub room : ℕ

abbrev pub rule_at : List Rule → Spot → Rule
rule_at rules s = rule_with rules s.number

abbrev pub list_of : List Rule → List Spot → List Rule
list_of rules order = map (rule_at rules) order

abbrev pub In : Spot → List Spot → Type 0
In x [] = ⊥
In x (y ∷ ys) = (x ≡ y) ⊎ In x ys

-- the spot is where its rule stands
abbrev pub Stands : List Rule → Spot → Type 0
Stands rules s = (r : Rule) × (slice_get rules s.number ≡ Some r) × (s ≡ keyed_of r s.number)

-- Both lists rise, each spot by key is where its rule stands, and the two lists have the same rules.
pub record IsIndex (rules : List Rule) (order keyed : List Spot) : Type 0 where
  pub order_rises : Rises order
  pub keyed_rises : Rises keyed
  pub stand : AllByRecursion (Stands rules) keyed
  pub to_order : (s : Spot) → In s keyed → In (flat s) order
  pub to_keyed : (o : Spot) → In o order → (s : Spot) × (In s keyed) × (o ≡ flat s)

-- the same of the numbers of these rules, by arrival and by key
abbrev pub IsIndexed : List Rule → List ℕ → List ℕ → Type 0
IsIndexed rules order keyed = IsIndex rules (spots_by ByArrival rules order) (spots_by ByKey rules keyed)

-- the rules of these numbers
abbrev pub listed_of : List Rule → List ℕ → List Rule
listed_of rules order = list_of rules (spots_by ByArrival rules order)

-- a number has 32 bits
abbrev pub room_of : ℕ → ℕ → ℕ → ℕ → ℕ
room_of arrived rules order keyed = min (4294967295 - arrived) (min rules (min order keyed))
