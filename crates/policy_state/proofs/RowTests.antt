-- By what the items of rows are told apart: tests of the rows alone.
use Rattle.std.specs.Prelude.{ℕ, ◌+◌, ◌||◌, ◌&&◌, ◌==◌, not, nat_le, nat_lt, Bool, true, false, List, [], ◌∷◌, if◌then◌else◌}
use Rattle.std.specs.List.{list_all}
use Rattle.policy_state.specs.Rows.{Row, NetworkSet, OfLocal, OfPhysical, OfFree, OfDefault, OfVirtual, OfSecure, OfBypass, NetworkPart, Whole, EachInterface, EachRange, EachDefault, OnePer, Once, EachLockdown, EachPair, EachOf, Selector, Unstated, OfItem, OfRow, Target, ToLink, ToLocal, Prohibits, Refuses}
use Rattle.std.proofs.Common.{◌≡◌, true, refl}
use Rattle.policy_state.specs.Table.{rows}

abbrev pub is_own : {A : Type 0} → Selector A → Bool
is_own Unstated = false
is_own OfItem = true
is_own (OfRow value) = false

abbrev pub network_class : NetworkSet → ℕ
network_class OfLocal = 0
network_class OfPhysical = 1
network_class OfFree = 1
network_class OfDefault = 1
network_class OfVirtual = 2
network_class OfSecure = 2
network_class OfBypass = 2

-- its items have an interface of their network
abbrev pub is_linked : NetworkPart → Bool
is_linked Whole = false
is_linked EachInterface = true
is_linked EachRange = true
is_linked EachDefault = false

abbrev pub is_ranged : NetworkPart → Bool
is_ranged Whole = false
is_ranged EachInterface = false
is_ranged EachRange = true
is_ranged EachDefault = false

abbrev pub is_split : NetworkPart → Bool
is_split Whole = false
is_split EachInterface = false
is_split EachRange = false
is_split EachDefault = true

abbrev pub is_of_default : NetworkSet → Bool
is_of_default OfLocal = false
is_of_default OfPhysical = false
is_of_default OfFree = false
is_of_default OfDefault = true
is_of_default OfVirtual = false
is_of_default OfSecure = false
is_of_default OfBypass = false

-- the rule shows an interface of its network
abbrev pub shows_link : NetworkPart → Row → Bool
shows_link spread row = is_linked spread && (row.bound || is_own row.incoming)

-- what a packet shows tells of which network the item is
abbrev pub knows_net : NetworkSet → NetworkPart → Row → Bool
knows_net pick spread row = is_own row.net || (shows_link spread row || (is_ranged spread && (row.ranked && is_own row.users) || is_of_default pick))

abbrev pub is_told_apart : OnePer → Row → Bool
is_told_apart Once row = true
is_told_apart EachLockdown row = true
is_told_apart EachPair row = true
is_told_apart (EachOf pick spread) row = knows_net pick spread row

-- every rule of the first row has a lower priority than every rule of the second
abbrev pub is_below : Row → Row → Bool
is_below a b = nat_lt (a.base + (if a.ranked then 99 else 0)) b.base

-- no packet matches a rule of each: their networks are of different kinds, and both rules show the network or its interface
abbrev pub are_apart : OnePer → Row → OnePer → Row → Bool
are_apart Once a other b = false
are_apart EachLockdown a other b = false
are_apart EachPair a other b = false
are_apart (EachOf pick spread) a Once b = false
are_apart (EachOf pick spread) a EachLockdown b = false
are_apart (EachOf pick spread) a EachPair b = false
are_apart (EachOf pick spread) a (EachOf pick' spread') b =
    not (network_class pick == network_class pick') && ((is_own a.net && is_own b.net) || (is_linked spread && a.bound && (is_linked spread' && b.bound)))

abbrev pub are_told_apart : List Row → Bool
are_told_apart [] = true
are_told_apart (a ∷ rest) = is_told_apart a.per a && (list_all (λ b. is_below a b || are_apart a.per a b.per b) rest && are_told_apart rest)

-- a network that the row itself states fits a mark
abbrev pub is_fit : Row → Bool
is_fit row = elim row.net [ Unstated ↦ true | OfItem ↦ true | OfRow net ↦ nat_lt net 65536 ]

-- the rule of an item tells the item

abbrev pub is_to_link : Target → Bool
is_to_link ToLink = true
is_to_link ToLocal = false
is_to_link Prohibits = false
is_to_link Refuses = false

abbrev pub tells_item : NetworkPart → Row → Bool
tells_item Whole row = true
tells_item EachInterface row = shows_link EachInterface row || is_to_link row.target
tells_item EachRange row = (shows_link EachRange row || is_to_link row.target) && is_own row.users
tells_item EachDefault row = is_to_link row.target

abbrev pub is_single : OnePer → Row → Bool
is_single Once row = true
is_single EachLockdown row = is_own row.users
is_single EachPair row = is_own row.incoming && is_to_link row.target
is_single (EachOf pick spread) row = knows_net pick spread row && tells_item spread row

-- A link that a row states is there: that of its item where items have one, or its own, which isn't 0.
abbrev pub has_links : OnePer → Bool
has_links Once = false
has_links EachLockdown = false
has_links EachPair = true
has_links (EachOf pick spread) = is_linked spread

abbrev pub is_formed : Row → Bool
is_formed row = (has_links row.per || (if row.bound then false else true)) && (elim row.incoming [ Unstated ↦ true | OfItem ↦ has_links row.per | OfRow link ↦ nat_lt 0 link ])

-- rows of the default network lead to its interfaces
abbrev pub is_led : OnePer → Row → Bool
is_led Once row = true
is_led EachLockdown row = true
is_led EachPair row = true
is_led (EachOf pick spread) row = (if is_of_default pick then is_linked spread && is_to_link row.target else true) && (if is_split spread then is_to_link row.target else true)

abbrev pub is_not_above : Row → Row → Bool
is_not_above a b = nat_le (a.base + (if a.ranked then 99 else 0)) b.base

abbrev pub rise : List Row → Bool
rise [] = true
rise (a ∷ rest) = list_all (is_not_above a) rest && rise rest

-- The tests of the rows, computed: here, and nowhere else, a row that its rules don't allow is refused.

pub rows_told : are_told_apart rows ≡ true
rows_told = refl

pub each_told : list_all (λ (row : Row). is_told_apart row.per row) rows ≡ true
each_told = refl

pub each_fit : list_all is_fit rows ≡ true
each_fit = refl

pub each_single : list_all (λ (row : Row). is_single row.per row) rows ≡ true
each_single = refl

pub each_single_fit : list_all (λ (row : Row). is_single row.per row && is_fit row) rows ≡ true
each_single_fit = refl

pub each_formed : list_all is_formed rows ≡ true
each_formed = refl

pub each_led : list_all (λ (row : Row). is_led row.per row) rows ≡ true
each_led = refl

pub rows_rise : rise rows ≡ true
rows_rise = refl

-- every priority is past the kernel's own rule
pub each_past : list_all (λ (row : Row). nat_le 1 row.base) rows ≡ true
each_past = refl
