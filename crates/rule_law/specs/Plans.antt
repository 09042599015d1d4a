-- What is asked of a kernel to bring its list from an old table to a new one, and what a packet meets on the way.
use Rattle.std.specs.Prelude.{◌≡◌, ℕ, ◌<◌, ◌≤◌, true, false, not, List, [], ◌∷◌, ◌++◌, Option, filter, reverse, map, take}
use Rattle.rule_law.specs.Rules.{Kind, has, placed, without, class, Rises, HasEachOnce, walk}

-- the rules of the list that stand in the other one too
abbrev pub common : {R : Type 0} → Kind R → List R → List R → List R
common k other rules = filter (has k other) rules

-- the rules of the list that the other one lacks
abbrev pub beyond : {R : Type 0} → Kind R → List R → List R → List R
beyond k other rules = filter (λ x. not (has k other x)) rules

-- What both tables have of one priority and selectors stands in both in the same order.
abbrev pub KeepsOrder : {R : Type 0} → Kind R → List R → List R → Type 0
KeepsOrder {R = R} k old new =
    (rule : R) → class k rule (common k new old) ≡ class k rule (common k old new)

-- What the new table alone has of one priority and selectors stands in it after what both have of them.
abbrev pub PutsNewBehind : {R : Type 0} → Kind R → List R → List R → Type 0
PutsNewBehind {R = R} k old new =
    (rule : R) → class k rule new ≡ class k rule (common k old new) ++ class k rule (beyond k old new)

-- What is asked of an old and a new table, whatever the packet.
pub record AreOldAndNew {R : Type 0} (k : Kind R) (old new : List R) : Type 0 where
  pub old_rises : Rises k old
  pub new_rises : Rises k new
  pub old_once : HasEachOnce k old
  pub new_once : HasEachOnce k new
  pub same_order : KeepsOrder k old new
  pub new_behind : PutsNewBehind k old new

-- What may be asked of a kernel. Other stands for whatever leaves this list of rules as it is.
pub data Request (R : Type 0) : Type 0 where
  Add : R → Request R
  Delete : R → Request R
  Other : Request R

-- the list after one request
abbrev pub step : {R : Type 0} → Kind R → Request R → List R → List R
step k (Add rule) rules = placed k rule rules
step k (Delete rule) rules = without k rule rules
step k Other rules = rules

-- the list after these requests
abbrev pub after : {R : Type 0} → Kind R → List (Request R) → List R → List R
after k [] rules = rules
after k (request ∷ requests) rules = after k requests (step k request rules)

-- those of the requests that concern this list
abbrev pub concerning : {R : Type 0} → List (Request R) → List (Request R)
concerning [] = []
concerning (Add rule ∷ requests) = Add rule ∷ concerning requests
concerning (Delete rule ∷ requests) = Delete rule ∷ concerning requests
concerning (Other ∷ requests) = concerning requests

-- The plan: what the old table lacks is added, in the order of the new one;
-- then what the new table lacks is deleted, in the reverse order of the old one.
abbrev pub plan : {R : Type 0} → Kind R → List R → List R → List (Request R)
plan k old new = map Add (beyond k old new) ++ map Delete (reverse (beyond k new old))

-- these additions, and then their deletions, the last first
abbrev pub undone : {R : Type 0} → List R → List (Request R)
undone added = map Add added ++ map Delete (reverse added)

-- what the packet gets when the first i of these requests have been carried out
abbrev pub walk_at : {R V : Type 0} → Kind R → (R → Option V) → V → List R → List (Request R) → ℕ → V
walk_at k gives none rules requests i = walk gives none (after k (take i requests) rules)

-- One switch: of the moments 0 to `last`, those below a number have the old value,
-- and those from it on have the new one.
pub record GoesOver {V : Type 0} (last : ℕ) (at : ℕ → V) (old new : V) : Type 0 where
  pub switch : ℕ
  pub before : (i : ℕ) → i ≤ last → i < switch → at i ≡ old
  pub behind : (i : ℕ) → i ≤ last → switch ≤ i → at i ≡ new

-- Over and back: of the moments 0 to `last`, those below a number have the old value,
-- those from it on have the new one, and those from a second number on have the old one again.
pub record GoesOverAndBack {V : Type 0} (last : ℕ) (at : ℕ → V) (old new : V) : Type 0 where
  pub over : ℕ
  pub back : ℕ
  pub in_order : over ≤ back
  pub before : (i : ℕ) → i ≤ last → i < over → at i ≡ old
  pub between : (i : ℕ) → i ≤ last → over ≤ i → i < back → at i ≡ new
  pub behind : (i : ℕ) → i ≤ last → back ≤ i → at i ≡ old

-- Each addition in turn is of a rule that isn't in the list, and each deletion of one that is.
abbrev pub AskInTurn : {R : Type 0} → Kind R → List (Request R) → List R → Type 0
AskInTurn k [] rules = Unit {0}
AskInTurn k (Add rule ∷ requests) rules = (has k rules rule ≡ false) × AskInTurn k requests (placed k rule rules)
AskInTurn k (Delete rule ∷ requests) rules = (has k rules rule ≡ true) × AskInTurn k requests (without k rule rules)
AskInTurn k (Other ∷ requests) rules = AskInTurn k requests rules
