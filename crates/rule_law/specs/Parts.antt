-- Tables that are made of parts, as rows of rules.
-- Words for showing, part by part, that an old and a new table are as the law asks.
use Rattle.std.specs.Prelude.{◌≡◌, ℕ, ◌≤◌, ◌==◌, Bool, true, false, List, [], ◌∷◌, ◌++◌, Option, is_some}
use Rattle.std.specs.List.{list_any}
use Rattle.rule_law.specs.Rules.{Kind, has, class}
use Rattle.rule_law.specs.Plans.{common, beyond}

-- Of each priority and selectors, the new table has what stays of the old one, in its order, and then what is new.
abbrev pub TurnsInto : {R : Type 0} → Kind R → List R → List R → Type 0
TurnsInto {R = R} k old new =
    (rule : R) → class k rule new ≡ class k rule (common k new old) ++ class k rule (beyond k old new)

-- no rule of the one list has the priority and the selectors of a rule of the other
abbrev pub AreUnlike : {R : Type 0} → Kind R → List R → List R → Type 0
AreUnlike {R = R} k xs ys = (x y : R) → has k xs x ≡ true → has k ys y ≡ true → k.alike x y ≡ false

-- no two rules of the list pass the test
abbrev pub AreEachApart : {R : Type 0} → Kind R → (R → R → Bool) → List R → Type 0
AreEachApart k test [] = Unit {0}
AreEachApart {R = R} k test (x ∷ xs) = ((y : R) → has k xs y ≡ true → test x y ≡ false) × AreEachApart k test xs

-- no two rules of the list have equal priority and equal selectors
abbrev pub AreEachUnlike : {R : Type 0} → Kind R → List R → Type 0
AreEachUnlike k xs = AreEachApart k k.alike xs

-- no two rules of the two lists have equal priority and give the packet something
abbrev pub DoNotMeet : {R V : Type 0} → Kind R → (R → Option V) → List R → List R → Type 0
DoNotMeet {R = R} k gives xs ys =
    (x y : R) → has k xs x ≡ true → has k ys y ≡ true → k.priority x ≡ k.priority y
    → is_some (gives x) ≡ true → is_some (gives y) ≡ false

-- the fact holds of each part
abbrev pub EachPart : {N : Type 0} → (N → Type 0) → List N → Type 0
EachPart P [] = Unit {0}
EachPart P (n ∷ ns) = P n × EachPart P ns

-- whether one of the parts has this key
abbrev pub has_key : {N : Type 0} → (N → ℕ) → List N → ℕ → Bool
has_key key parts c = list_any (λ n. c == key n) parts

-- no two parts have one key
abbrev pub HaveDistinctKeys : {N : Type 0} → (N → ℕ) → List N → Type 0
HaveDistinctKeys key [] = Unit {0}
HaveDistinctKeys key (n ∷ ns) = (has_key key ns (key n) ≡ false) × HaveDistinctKeys key ns

-- the keys of the parts rise, from this one on
abbrev pub KeysRise : {N : Type 0} → (N → ℕ) → ℕ → List N → Type 0
KeysRise key low [] = Unit {0}
KeysRise key low (n ∷ ns) = (low ≤ key n) × KeysRise key (key n) ns

-- each rule of a part shows the key of that part
abbrev pub ShowKeys : {R N : Type 0} → Kind R → (N → ℕ) → (R → ℕ) → (N → List R) → List N → Type 0
ShowKeys {R = R} k key key_of rows [] = Unit {0}
ShowKeys {R = R} k key key_of rows (n ∷ ns) =
    ((x : R) → has k (rows n) x ≡ true → key_of x ≡ key n) × ShowKeys k key key_of rows ns
