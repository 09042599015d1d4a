-- Lists of rules: how a kernel keeps one, what a packet gets from one, and when one stands for a table.
use Rattle.std.specs.Prelude.{◌≡◌, ℕ, ◌≤◌, Bool, true, false, cond, nat_le, List, [], ◌∷◌, Option, Some, None, is_some, filter}
use Rattle.std.specs.List.{list_any}

-- What is known of rules of a type R: a priority, and two tests.
pub record Kind (R : Type 0) : Type 0 where
  pub priority : R → ℕ
  -- whether two rules have equal priority and equal selectors
  pub alike : R → R → Bool
  -- whether two rules are equal
  pub same : R → R → Bool
  pub alike_self : (x : R) → alike x x ≡ true
  pub alike_both : (x y z : R) → alike x y ≡ true → alike x z ≡ alike y z
  pub alike_priority : (x y : R) → alike x y ≡ true → priority x ≡ priority y
  pub same_self : (x : R) → same x x ≡ true
  pub same_is : (x y : R) → same x y ≡ true → x ≡ y

-- whether a rule stands in the list
abbrev pub has : {R : Type 0} → Kind R → List R → R → Bool
has k rules rule = list_any (k.same rule) rules

-- the list with a rule put in, before the first one of greater priority
abbrev pub placed : {R : Type 0} → Kind R → R → List R → List R
placed k rule [] = rule ∷ []
placed k rule (x ∷ xs) = cond (nat_le (k.priority x) (k.priority rule)) (x ∷ placed k rule xs) (rule ∷ x ∷ xs)

-- whether some rule of the list has a priority that isn't greater
abbrev pub has_not_greater : {R : Type 0} → Kind R → R → List R → Bool
has_not_greater k rule rules = list_any (λ x. nat_le (k.priority x) (k.priority rule)) rules

-- the list with a rule put in, after the last one whose priority isn't greater
abbrev pub placed_behind : {R : Type 0} → Kind R → R → List R → List R
placed_behind k rule [] = rule ∷ []
placed_behind k rule (x ∷ xs) = cond (has_not_greater k rule (x ∷ xs)) (x ∷ placed_behind k rule xs) (rule ∷ x ∷ xs)

-- the list with a rule taken out
abbrev pub without : {R : Type 0} → Kind R → R → List R → List R
without k rule [] = []
without k rule (x ∷ xs) = cond (k.same rule x) xs (x ∷ without k rule xs)

-- no rule has a priority below this one
abbrev pub NoneBelow : {R : Type 0} → Kind R → ℕ → List R → Type 0
NoneBelow k low [] = Unit {0}
NoneBelow k low (x ∷ xs) = (low ≤ k.priority x) × NoneBelow k low xs

-- the list is ordered by rising priority
abbrev pub Rises : {R : Type 0} → Kind R → List R → Type 0
Rises k [] = Unit {0}
Rises k (x ∷ xs) = NoneBelow k (k.priority x) xs × Rises k xs

-- no rule stands twice in the list
abbrev pub HasEachOnce : {R : Type 0} → Kind R → List R → Type 0
HasEachOnce k [] = Unit {0}
HasEachOnce k (x ∷ xs) = (has k xs x ≡ false) × HasEachOnce k xs

-- no rule of the one list stands in the other
abbrev pub AreAbsent : {R : Type 0} → Kind R → List R → List R → Type 0
AreAbsent {R = R} k more rules = (rule : R) → has k more rule ≡ true → has k rules rule ≡ false

-- the rules of the list that have the priority and the selectors of this one, in their order
abbrev pub class : {R : Type 0} → Kind R → R → List R → List R
class k rule rules = filter (k.alike rule) rules

-- A list stands for a table: it is ordered by rising priority, and of each priority and selectors
-- it has exactly the rules of the table, in the table's order.
pub record Stands {R : Type 0} (k : Kind R) (rules table : List R) : Type 0 where
  pub rises : Rises k rules
  pub classes : (rule : R) → class k rule rules ≡ class k rule table

-- What the first rule that gives something gives, or else `none`; `gives` says what a rule gives one packet.
abbrev pub walk : {R V : Type 0} → (R → Option V) → V → List R → V
walk gives none [] = none
walk gives none (x ∷ xs) = elim (gives x) [ Some v ↦ v | None ↦ walk gives none xs ]

-- Two rules of the list that have equal priority and give the packet something have equal selectors.
abbrev pub GiversAreAlike : {R V : Type 0} → Kind R → (R → Option V) → List R → Type 0
GiversAreAlike {R = R} k gives rules =
    (x y : R) → has k rules x ≡ true → has k rules y ≡ true → k.priority x ≡ k.priority y
    → is_some (gives x) ≡ true → is_some (gives y) ≡ true → k.alike x y ≡ true
