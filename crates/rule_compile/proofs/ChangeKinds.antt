-- What each kind of change makes of the rule table: the table stays, it loses something, it gets something last, an interface or ranges
-- come to a network, a permission is replaced, or another network becomes the default.
use Rattle.std.proofs.Common.{◌≡◌, ◌∙◌, ◌==◌, ℕ, Bool, true, false, Option, Some, None, List, [], ◌∷◌, ◌++◌, refl, sym, ap, ap₂, subst, inl, inr, map, filter}
use Rattle.std.specs.Prelude.{◌&&◌, flat_map, if◌then◌else◌}
use Rattle.std.specs.Option.{option_map}
use Rattle.std.proofs.lemmas.Bool.{cases_Bool, false≢true, and_parts, eqb-true}
use Rattle.std.proofs.lemmas.Grind.{flat_map-append}
use Rattle.std.proofs.lemmas.List.{append-nil}
use Rattle.list_lemmas.proofs.Numbers.{eqb-refl}
use Rattle.fwmark.specs.declared.permission.Permission.{Permission}
use Rattle.networks.specs.Kinds.{class_of, ranges_of}
use Rattle.networks.specs.Kinds as kinds
use Rattle.networks.specs.Network.{has_link}
use Rattle.networks.specs.declared.kind.Kind.{Kind}
use Rattle.networks.specs.declared.kind.Kind.TheVariants as kind
use Rattle.networks.specs.declared.network.LinkRoute.{LinkRoute}
use Rattle.networks.specs.declared.network.Network.{Network}
use Rattle.rule_kinds.specs.Kind.{rule_kind}
use Rattle.rule_law.specs.Parts.{TurnsInto}
use Rattle.rule_law.proofs.Turning.{TurnsInto-same}
use Rattle.rule_match.specs.declared.rule.Rule.{Rule}
use Rattle.uid_ranges.specs.declared.range.Uid.{Uid}
use Rattle.uid_ranges.specs.declared.range.UidRange.{UidRange}
use Rattle.uid_ranges.specs.declared.ranked.Ranked.{Ranked}
use Rattle.policy_state.specs.Good.{IsWellFormed, is_default_there}
use Rattle.policy_state.specs.Rows.{is_default, default_among, default_of, links_of, needs_of, items_in, items_at, items, nothing, range_item, pair_item}
use Rattle.policy_state.specs.Step.{with_net, with_link, asking_for, with_permission}
use Rattle.policy_state.specs.Table.{rows, rule_of, rules_in, in_order, table_by_rows, rule_table}
use Rattle.policy_state.specs.View.{StateView, Link}
use Rattle.policy_state.specs.declared.tether.TetherPair.{TetherPair}
use Rattle.policy_state.specs.declared.users.UserPermission.{UserPermission}
use Rattle.policy_state.specs.declared.row.Item.{Item}
use Rattle.policy_state.specs.declared.row.NetworkPart.{NetworkPart}
use Rattle.policy_state.specs.declared.row.NetworkPart.TheVariants.{Whole, EachInterface, EachRange, EachDefault}
use Rattle.policy_state.specs.declared.row.OnePer.{OnePer}
use Rattle.policy_state.specs.declared.row.OnePer.TheVariants.{Once, EachLockdown, EachPair, EachOf}
use Rattle.policy_state.specs.declared.row.Row.{Row}
use Rattle.policy_state.proofs.Owners.{Has, IsOwned, IsWithin, owners_of, owns-within}
use Rattle.policy_state.proofs.GoodStates.{is-good, are-once}
use Rattle.policy_state.proofs.RowItems.{has_map, has_front, flat-map, once-has}
use Rattle.policy_state.proofs.EachOnce.{rows-once}
use Rattle.policy_state.proofs.RowTests.{is_split, rows_told, each_single_fit}
use Rattle.policy_state.proofs.Tables.{table-is}
use Rattle.rule_compile.proofs.Changes.{GetsMore, Left, Shrinks, Touches, more_users, with_users}
use Rattle.rule_compile.proofs.Comes.{interface-comes, more-like, users-come-turn}
use Rattle.rule_compile.proofs.Growing.{gets-more, lockdown-comes, pair-comes}
use Rattle.rule_compile.proofs.Defaults.{default-turns}
use Rattle.rule_compile.proofs.Needs.{permission-turns}
use Rattle.rule_compile.proofs.Picking.{picks-same}
use Rattle.rule_compile.proofs.Shrinking.{IsLeft, IsLeftDefault, left-same, left-none, left-filter, left-map, networks-left, table-shrinks, shrinks-lockdown, shrinks-pairs}

abbrev pub TableTurns : StateView → StateView → Type 0
TableTurns s t = TurnsInto rule_kind (rule_table s) (rule_table t)

by-rows : (s t : StateView) → TurnsInto rule_kind (table_by_rows s) (table_by_rows t) → TableTurns s t
by-rows s t turns =
    subst (λ old. TurnsInto rule_kind old (rule_table t)) (sym (table-is s)) (subst (λ new. TurnsInto rule_kind (table_by_rows s) new) (sym (table-is t)) turns)

-- The kinds of change.

-- equal items make one table
pub table-same : (s t : StateView) → ((per : OnePer) → items per t ≡ items per s) → rule_table t ≡ rule_table s
table-same s t same = table-is t ∙ (ap (in_order rule_kind) (each rows) ∙ sym (table-is s))
  where
    each : (some : List Row) → flat_map (rules_in t) some ≡ flat_map (rules_in s) some
    each [] = refl
    each (row ∷ some) = ap₂ (λ (one others : List Rule). one ++ others) (ap (map (rule_of row)) (same row.per)) (each some)

pub same-turns : (s t : StateView) → rule_table t ≡ rule_table s → TableTurns s t
same-turns s t same = subst (TurnsInto rule_kind (rule_table s)) (sym same) (TurnsInto-same rule_kind (rule_table s))

-- nothing comes
pub shrinks-turn : (s t : StateView) → IsWellFormed s → Shrinks s t → TableTurns s t
shrinks-turn s t good shrinks =
    by-rows s t (table-shrinks s t shrinks (once-has (flat_map (rules_in s) rows) (rows-once (owners_of s) s (is-good s good) (are-once s good) rows rows_told each_single_fit)))

-- the links and users of the one state's networks are the same networks' in the other one
pub owned-within : (s t : StateView) → IsWellFormed s → IsWellFormed t → ((n : Network) → Has s.networks n → IsWithin s t n) → IsOwned (owners_of t) s
owned-within s t good good' within =
    let own : IsOwned (owners_of s) s = is-good s good in
    record { owns = owns-within (owners_of t) s t (is-good t good').owns within; one_id = own.one_id; lockdown = own.lockdown }

within-more : (s t : StateView) (more : List Network) → t.networks ≡ s.networks ++ more → (n : Network) → Has s.networks n → IsWithin s t n
within-more s t more is n there = record {
  net = n;
  there = subst (λ ns. Has ns n) (sym is) (has_front s.networks more n there);
  id = refl;
  network_class = refl;
  links = λ link h. h;
  ranges = λ r h. h;
}

-- what comes stands last
pub more-turns : (s t : StateView) (more : List Network) → IsWellFormed s → IsWellFormed t → t.networks ≡ s.networks ++ more → GetsMore s t → TableTurns s t
more-turns s t more good good' is gets =
    by-rows s t (gets-more (owners_of t) s t (owned-within s t good good' (within-more s t more is)).owns (is-good t good') (are-once t good') gets)

-- networks are changed, and each keeps its id, its class, its interfaces and its ranges, perhaps among others
pub record IsKept (n m : Network) : Type 0 where
  pub id : m.id ≡ n.id
  pub network_class : class_of m.kind ≡ class_of n.kind
  pub links : (link : ℕ) → Has n.interfaces link → Has m.interfaces link
  pub ranges : (r : Ranked) → Has (ranges_of n.kind) r → Has (ranges_of m.kind) r

pub touches : (s : StateView) (change : Network → Network) → IsWellFormed s → IsWellFormed (record s { networks = map change s.networks }) → ((n : Network) → IsKept n (change n))
    → Touches (owners_of (record s { networks = map change s.networks })) s (record s { networks = map change s.networks }) change
touches s change good good' kept =
    let t : StateView = record s { networks = map change s.networks } in
    record {
      good_old = owned-within s t good good' (λ n there. record {
        net = change n;
        there = has_map change s.networks n there;
        id = (kept n).id;
        network_class = (kept n).network_class;
        links = (kept n).links;
        ranges = (kept n).ranges;
      });
      good_new = is-good t good';
      once_old = are-once s good;
      once_new = are-once t good';
      default = refl;
      lockdown = refl;
      pairs = refl;
      networks = refl;
      ids = λ n there. (kept n).id;
    }

-- The default network of a changed state.

pub default-mapped : (change : Network → Network) → ((n : Network) → (change n).id ≡ n.id) → ((n : Network) → class_of (change n).kind ≡ class_of n.kind) → (d : Option ℕ) (ns : List Network)
    → default_among (map change ns) d ≡ option_map change (default_among ns d)
default-mapped change ids classes d [] = refl
default-mapped change ids classes d (n ∷ ns) =
    let same : ((class_of (change n).kind == 1) && is_default d (change n).id) ≡ ((class_of n.kind == 1) && is_default d n.id) =
    ap₂ (λ (c id : ℕ). (c == 1) && is_default d id) (classes n) (ids n) in
    rw same (by ((class_of n.kind == 1) && is_default d n.id) (default-mapped change ids classes d ns))
  where
    by : (b : Bool) → default_among (map change ns) d ≡ option_map change (default_among ns d)
        → (if b then Some (change n) else default_among (map change ns) d) ≡ option_map change (if b then Some n else default_among ns d)
    by true rest = refl
    by false rest = rest

pub no-default : (ns : List Network) → default_among ns None ≡ None
no-default [] = refl
no-default (n ∷ ns) = rw (never (class_of n.kind == 1)) (no-default ns)
  where
    never : (b : Bool) → (b && false) ≡ false
    never true = refl
    never false = refl

default-more : (ns more : List Network) (d : Option ℕ) → is_default_there ns d ≡ true → default_among (ns ++ more) d ≡ default_among ns d
default-more ns more None there = no-default (ns ++ more) ∙ sym (no-default ns)
default-more [] more (Some id) there = absurd (false≢true there)
default-more (n ∷ ns) more (Some id) there = elim (cases_Bool ((n.id == id) && kinds.is_physical n.kind)) [
  | inl here ↦
      let both = and_parts (n.id == id) (kinds.is_physical n.kind) here in
      let test : ((class_of n.kind == 1) && (id == n.id)) ≡ true = ap₂ (λ (b c : Bool). b && c) (physical n.kind both.1) (ap (λ i. id == i) (eqb-true n.id id both.0) ∙ eqb-refl id) in
      rw test refl
  | inr other ↦ by ((class_of n.kind == 1) && (id == n.id)) (default-more ns more (Some id) (rw other at there))
]
  where
    physical : (k : Kind) → kinds.is_physical k ≡ true → (class_of k == 1) ≡ true
    physical kind.Local h = absurd (false≢true h)
    physical (kind.Physical permission apps) h = refl
    physical (kind.Virtual secure users) h = absurd (false≢true h)

    by : (b : Bool) → default_among (ns ++ more) (Some id) ≡ default_among ns (Some id) → (if b then Some n else default_among (ns ++ more) (Some id)) ≡ (if b then Some n else default_among ns (Some id))
    by true rest = refl
    by false rest = rest

-- The changes, each of any state.

-- links alone
pub links-stay : (s : StateView) (links : List Link) (per : OnePer) → items per (record s { links = links }) ≡ items per s
links-stay s links Once = refl
links-stay s links EachLockdown = refl
links-stay s links EachPair = refl
links-stay s links (EachOf pick spread) = refl

-- what is known of users alone
pub users-stay : (s : StateView) (permissions : List UserPermission) (protectable : List Uid) (per : OnePer) → items per (record s { permissions = permissions; protectable = protectable }) ≡ items per s
users-stay s permissions protectable Once = refl
users-stay s permissions protectable EachLockdown = refl
users-stay s permissions protectable EachPair = refl
users-stay s permissions protectable (EachOf pick spread) = refl

-- routes alone
module _ (routes_of : Network → List LinkRoute) where
  abbrev routed_net : Network → Network
  routed_net n = record n { routes = routes_of n }

  routed-kept : (n : Network) → IsKept n (routed_net n)
  routed-kept n = record { id = refl; network_class = refl; links = λ link h. h; ranges = λ r h. h }

  in-routed : (spread : NetworkPart) (home : Option Network) (n : Network) → items_in spread (option_map routed_net home) (routed_net n) ≡ items_in spread home n
  in-routed Whole home n = refl
  in-routed EachInterface home n = refl
  in-routed EachRange home n = refl
  in-routed EachDefault None n = refl
  in-routed EachDefault (Some m) n = refl

  pub routes-stay : (s : StateView) (per : OnePer) → items per (record s { networks = map routed_net s.networks }) ≡ items per s
  routes-stay s Once = refl
  routes-stay s EachLockdown = refl
  routes-stay s EachPair = refl
  routes-stay s (EachOf pick spread) =
      flat-map (items_at pick spread s.default (default_among (map routed_net s.networks) s.default)) routed_net s.networks ∙ each s.networks
    where
      at : (n : Network) → items_at pick spread s.default (default_among (map routed_net s.networks) s.default) (routed_net n) ≡ items_at pick spread s.default (default_of s) n
      at n = ap₂ (λ (b : Bool) (is : List Item). if b then is else []) (picks-same pick s.default (routed_net n) n refl refl)
          (ap (λ home. items_in spread home (routed_net n)) (default-mapped routed_net (λ n. (routed-kept n).id) (λ n. (routed-kept n).network_class) s.default s.networks) ∙ in-routed spread (default_of s) n)

      each : (ns : List Network) → flat_map (λ n. items_at pick spread s.default (default_among (map routed_net s.networks) s.default) (routed_net n)) ns ≡ flat_map (items_at pick spread s.default (default_of s)) ns
      each [] = refl
      each (n ∷ ns) = ap₂ (λ (xs ys : List Item). xs ++ ys) (at n) (each ns)

pub mapped-same : {A B : Type 0} (f g : A → B) (xs : List A) → ((x : A) → f x ≡ g x) → map f xs ≡ map g xs
mapped-same f g [] same = refl
mapped-same f g (x ∷ xs) same = ap₂ (λ (y : _) (ys : List _). y ∷ ys) (same x) (mapped-same f g xs same)

-- one network's routes are others
pub routes-same : (s : StateView) (net : ℕ) (routes_of : Network → List LinkRoute) → rule_table (with_net net (λ n. record n { routes = routes_of n }) s) ≡ rule_table s
routes-same s net routes_of =
    let all : Network → List LinkRoute = λ n. if net == n.id then routes_of n else n.routes in
    ap (λ ns. rule_table (record s { networks = ns })) (mapped-same (λ n. if net == n.id then record n { routes = routes_of n } else n) (routed_net all) s.networks (λ n. by n (net == n.id)))
    ∙ table-same s (record s { networks = map (routed_net all) s.networks }) (routes-stay all s)
  where
    by : (n : Network) (b : Bool) → (if b then record n { routes = routes_of n } else n) ≡ record n { routes = if b then routes_of n else n.routes }
    by n true = refl
    by n false = refl

-- a network comes last
network-last : (s : StateView) (n : Network) → is_default_there s.networks s.default ≡ true → GetsMore s (record s { networks = s.networks ++ n ∷ [] })
network-last s n there Once = ([], refl)
network-last s n there EachLockdown = ([], sym (append-nil (items EachLockdown s)))
network-last s n there EachPair = ([], sym (append-nil (items EachPair s)))
network-last s n there (EachOf pick spread) = (
  flat_map (items_at pick spread s.default (default_of s)) (n ∷ []),
  ap (λ home. flat_map (items_at pick spread s.default home) (s.networks ++ n ∷ [])) (default-more s.networks (n ∷ []) s.default there)
      ∙ flat_map-append (items_at pick spread s.default (default_of s)) s.networks (n ∷ []),
)

pub network-comes-turns : (s : StateView) (n : Network) → IsWellFormed s → IsWellFormed (record s { networks = s.networks ++ n ∷ [] }) → TableTurns s (record s { networks = s.networks ++ n ∷ [] })
network-comes-turns s n good good' = more-turns s (record s { networks = s.networks ++ n ∷ [] }) (n ∷ []) good good' refl (network-last s n good.default)

-- an interface comes
module _ (net link : ℕ) where
  abbrev linked : Network → Network
  linked n = if net == n.id then with_link link n else n

  linked-kept : (n : Network) → IsKept n (linked n)
  linked-kept n = by (net == n.id) (has_link n link)
    where
      by : (b c : Bool) → IsKept n (if b then (if c then n else record n { interfaces = n.interfaces ++ link ∷ [] }) else n)
      by true true = record { id = refl; network_class = refl; links = λ i h. h; ranges = λ r h. h }
      by true false = record { id = refl; network_class = refl; links = λ i h. has_front n.interfaces (link ∷ []) i h; ranges = λ r h. h }
      by false c = record { id = refl; network_class = refl; links = λ i h. h; ranges = λ r h. h }

  more-links : (home : Option Network) → (behind : List ℕ) × (links_of (option_map linked home) ≡ links_of home ++ behind) × (needs_of (option_map linked home) ≡ needs_of home)
  more-links None = ([], refl, refl)
  more-links (Some n) = by (net == n.id) (has_link n link)
    where
      by : (b c : Bool) → (behind : List ℕ) × (links_of (Some (if b then (if c then n else record n { interfaces = n.interfaces ++ link ∷ [] }) else n)) ≡ n.interfaces ++ behind)
          × (needs_of (Some (if b then (if c then n else record n { interfaces = n.interfaces ++ link ∷ [] }) else n)) ≡ kinds.permission_of n.kind)
      by true true = ([], sym (append-nil n.interfaces), refl)
      by true false = (link ∷ [], refl, refl)
      by false c = ([], sym (append-nil n.interfaces), refl)

  pub interface-turns : (s : StateView) → IsWellFormed s → IsWellFormed (with_net net (with_link link) s) → TableTurns s (with_net net (with_link link) s)
  interface-turns s good good' =
      let t : StateView = with_net net (with_link link) s in
      let home : default_of t ≡ option_map linked (default_of s) = default-mapped linked (λ n. (linked-kept n).id) (λ n. (linked-kept n).network_class) s.default s.networks in
      let more = more-links (default_of s) in
      by-rows s t (interface-comes (owners_of t) s t net link (touches s linked good good' linked-kept) more.0 (ap links_of home ∙ more.1) (ap needs_of home ∙ more.2))

-- a permission is replaced
module _ (net : ℕ) (permission : Permission) where
  abbrev kind_of : Network → Kind
  kind_of n = if net == n.id then asking_for permission n.kind else n.kind

  abbrev asked_of : Network → Network
  asked_of n = record n { kind = kind_of n }

  class-kept : (k : Kind) → class_of (asking_for permission k) ≡ class_of k
  class-kept kind.Local = refl
  class-kept (kind.Physical old apps) = refl
  class-kept (kind.Virtual secure users) = refl

  ranges-kept : (k : Kind) → ranges_of (asking_for permission k) ≡ ranges_of k
  ranges-kept kind.Local = refl
  ranges-kept (kind.Physical old apps) = refl
  ranges-kept (kind.Virtual secure users) = refl

  all-ranges : (n : Network) → ranges_of (kind_of n) ≡ ranges_of n.kind
  all-ranges n = by (net == n.id)
    where
      by : (b : Bool) → ranges_of (if b then asking_for permission n.kind else n.kind) ≡ ranges_of n.kind
      by true = ranges-kept n.kind
      by false = refl

  all-classes : (n : Network) → class_of (kind_of n) ≡ class_of n.kind
  all-classes n = by (net == n.id)
    where
      by : (b : Bool) → class_of (if b then asking_for permission n.kind else n.kind) ≡ class_of n.kind
      by true = class-kept n.kind
      by false = refl

  asked-kept : (n : Network) → IsKept n (asked_of n)
  asked-kept n = record { id = refl; network_class = all-classes n; links = λ link h. h; ranges = λ r h. subst (λ rs. Has rs r) (sym (all-ranges n)) h }

  same-links : (home : Option Network) → links_of (option_map asked_of home) ≡ links_of home
  same-links None = refl
  same-links (Some n) = refl

  asked-is : (ns : List Network) → map (λ n. if net == n.id then with_permission permission n else n) ns ≡ map asked_of ns
  asked-is ns = mapped-same (λ n. if net == n.id then with_permission permission n else n) asked_of ns (λ n. by n (net == n.id))
    where
      by : (n : Network) (b : Bool) → (if b then with_permission permission n else n) ≡ record n { kind = if b then asking_for permission n.kind else n.kind }
      by n true = refl
      by n false = refl

  pub permission-turns-table : (s : StateView) → IsWellFormed s → IsWellFormed (with_net net (with_permission permission) s) → TableTurns s (with_net net (with_permission permission) s)
  permission-turns-table s good good' =
      let t : StateView = record s { networks = map asked_of s.networks } in
      let is : with_net net (with_permission permission) s ≡ t = ap (λ ns. record s { networks = ns }) (asked-is s.networks) in
      let home : default_of t ≡ option_map asked_of (default_of s) = default-mapped asked_of (λ n. (asked-kept n).id) (λ n. (asked-kept n).network_class) s.default s.networks in
      subst (TableTurns s) (sym is)
      (by-rows s t (permission-turns (owners_of t) s t kind_of (touches s asked_of good (subst IsWellFormed is good') asked-kept) all-ranges (ap links_of home ∙ same-links (default_of s))))

-- a lockdown range comes, or some go
pub lockdown-comes-turns : (s : StateView) (range : UidRange) → IsWellFormed s → IsWellFormed (record s { lockdown = s.lockdown ++ range ∷ [] }) → TableTurns s (record s { lockdown = s.lockdown ++ range ∷ [] })
lockdown-comes-turns s range good good' = more-turns s (record s { lockdown = s.lockdown ++ range ∷ [] }) [] good good' (sym (append-nil s.networks)) (lockdown-comes s range)

pub lockdown-goes-turns : (s : StateView) (stays : UidRange → Bool) → IsWellFormed s → TableTurns s (record s { lockdown = filter stays s.lockdown })
lockdown-goes-turns s stays good = shrinks-turn s (record s { lockdown = filter stays s.lockdown }) good (shrinks-lockdown s stays)

-- ranges come to a network that isn't the local one
module _ (net : ℕ) (more : List Ranked) where
  abbrev pub used : Network → Network
  used n = if net == n.id then with_users more n else n

  used-kept : (n : Network) → IsKept n (used n)
  used-kept n = by (net == n.id)
    where
      ranges-kept : (k : Kind) (r : Ranked) → Has (ranges_of k) r → Has (ranges_of (more_users more k)) r
      ranges-kept kind.Local r h = h
      ranges-kept (kind.Physical permission apps) r h = has_front apps more r h
      ranges-kept (kind.Virtual secure users) r h = has_front users more r h

      by : (b : Bool) → IsKept n (if b then with_users more n else n)
      by true = record { id = refl; network_class = (more-like more n.kind).class; links = λ link h. h; ranges = ranges-kept n.kind }
      by false = record { id = refl; network_class = refl; links = λ link h. h; ranges = λ r h. h }

  more-ranges : (k : Kind) → kinds.is_local k ≡ false → ranges_of (more_users more k) ≡ ranges_of k ++ more
  more-ranges kind.Local h = absurd (false≢true (sym h))
  more-ranges (kind.Physical permission apps) h = refl
  more-ranges (kind.Virtual secure users) h = refl

  same-split : (home : Option Network) (n : Network) (part : NetworkPart) → is_split part ≡ true → items_in part (option_map used home) n ≡ items_in part home n
  same-split home n Whole h = refl
  same-split home n EachInterface h = refl
  same-split home n EachRange h = refl
  same-split None n EachDefault h = refl
  same-split (Some m) n EachDefault h = by m.kind (net == m.id)
    where
      by : (k : Kind) (b : Bool) → items_in EachDefault (Some (if b then with_users more (record m { kind = k }) else record m { kind = k })) n ≡ items_in EachDefault (Some (record m { kind = k })) n
      by kind.Local true = refl
      by (kind.Physical permission apps) true = refl
      by (kind.Virtual secure users) true = refl
      by k false = refl

  pub ranges-turn : (s : StateView) → IsWellFormed s → IsWellFormed (record s { networks = map used s.networks }) → ((n : Network) → Has s.networks n → (net == n.id) ≡ true → kinds.is_local n.kind ≡ false)
      → TableTurns s (record s { networks = map used s.networks })
  ranges-turn s good good' not_local =
      let t : StateView = record s { networks = map used s.networks } in
      let home : default_of t ≡ option_map used (default_of s) = default-mapped used (λ n. (used-kept n).id) (λ n. (used-kept n).network_class) s.default s.networks in
      by-rows s t (users-come-turn (owners_of t) s t net more (touches s used good good' used-kept) (λ n there here. more-ranges n.kind (not_local n there here))
      (λ n part split. ap (λ h. items_in part h n) home ∙ same-split (default_of s) n part split))

-- another network becomes the default, or none
pub default-turn : (s : StateView) (default : Option ℕ) → IsWellFormed s → IsWellFormed (record s { default = default }) → TableTurns s (record s { default = default })
default-turn s default good good' = by s.default refl default refl
  where
    t : StateView
    t = record s { default = default }

    differ : ((id : ℕ) → is_default s.default id ≡ true → is_default default id ≡ true → ⊥) → TableTurns s t
    differ apart = by-rows s t (default-turns (owners_of t) s t (owned-within s t good good' (within-more s t [] (sym (append-nil s.networks)))) (is-good t good') (are-once s good).networks refl refl refl apart)

    same : s.default ≡ default → TableTurns s t
    same is = same-turns s t (ap (λ d. rule_table (record s { default = d })) (sym is))

    by : (d : Option ℕ) → s.default ≡ d → (e : Option ℕ) → default ≡ e → TableTurns s t
    by None is e is' = differ (λ id h g. false≢true (ap (λ d. is_default d id) (sym is) ∙ h))
    by (Some a) is None is' = differ (λ id h g. false≢true (ap (λ d. is_default d id) (sym is') ∙ g))
    by (Some a) is (Some b) is' = elim (cases_Bool (a == b)) [
      | inl e ↦ same (is ∙ (ap Some (eqb-true a b e) ∙ sym is'))
      | inr e ↦ differ (λ id h g.
          let one : a ≡ id = eqb-true a id (ap (λ d. is_default d id) (sym is) ∙ h) in
          let other : b ≡ id = eqb-true b id (ap (λ d. is_default d id) (sym is') ∙ g) in
          false≢true (sym e ∙ (ap (λ i. i == b) (one ∙ sym other) ∙ eqb-refl b)))
    ]

-- a tether pair comes, or some go
pub pair-comes-turns : (s : StateView) (pair : TetherPair) → IsWellFormed s → IsWellFormed (record s { pairs = s.pairs ++ pair ∷ [] }) → TableTurns s (record s { pairs = s.pairs ++ pair ∷ [] })
pair-comes-turns s pair good good' = more-turns s (record s { pairs = s.pairs ++ pair ∷ [] }) [] good good' (sym (append-nil s.networks)) (pair-comes s pair)

pub pairs-go-turns : (s : StateView) (stays : TetherPair → Bool) → IsWellFormed s → TableTurns s (record s { pairs = filter stays s.pairs })
pairs-go-turns s stays good = shrinks-turn s (record s { pairs = filter stays s.pairs }) good (shrinks-pairs s stays)

-- what goes with networks
pub record Thins (s t : StateView) (stays : Network → Bool) (change : Network → Network) : Type 0 where
  pub networks : t.networks ≡ map change (filter stays s.networks)
  pub each : (n : Network) → IsLeft n (change n)
  pub default : IsLeftDefault s.default t.default (default_of s) (default_of t)
  pub lockdown : Left s.lockdown t.lockdown
  pub pairs : Left s.pairs t.pairs

-- networks go, or lose interfaces or ranges, and with them perhaps the default, lockdown ranges and tether pairs
pub thins-shrinks : (s t : StateView) (stays : Network → Bool) (change : Network → Network) → Thins s t stays change → Shrinks s t
thins-shrinks s t stays change thins Once = left-same (nothing ∷ [])
thins-shrinks s t stays change thins EachLockdown = left-map range_item s.lockdown t.lockdown thins.lockdown
thins-shrinks s t stays change thins EachPair = left-map pair_item s.pairs t.pairs thins.pairs
thins-shrinks s t stays change thins (EachOf pick spread) =
    subst (λ ns. Left (items (EachOf pick spread) s) (flat_map (items_at pick spread t.default (default_of t)) ns)) (sym thins.networks)
    (networks-left pick spread s.default t.default (default_of s) (default_of t) thins.default stays change thins.each s.networks)

pub thins-turn : (s t : StateView) (stays : Network → Bool) (change : Network → Network) → IsWellFormed s → Thins s t stays change → TableTurns s t
thins-turn s t stays change good thins = shrinks-turn s t good (thins-shrinks s t stays change thins)

-- what is left of a network that stays as it is, or that loses interfaces or ranges

pub left-whole : (n : Network) → IsLeft n n
left-whole n = record { id = refl; kind = refl; picked = λ pick d. refl; permission = refl; interfaces = left-same n.interfaces; ranges = left-same (ranges_of n.kind) }

pub left-interfaces : (stays : ℕ → Bool) (routes : List LinkRoute) (n : Network) → IsLeft n (record n { interfaces = filter stays n.interfaces; routes = routes })
left-interfaces stays routes n = record {
  id = refl;
  kind = refl;
  picked = λ pick d. picks-same pick d (record n { interfaces = filter stays n.interfaces; routes = routes }) n refl refl;
  permission = refl;
  interfaces = left-filter stays n.interfaces;
  ranges = left-same (ranges_of n.kind);
}

-- what is left of the default where its network stays, and where there is none any more

pub default-stays : (s t : StateView) (change : Network → Network) → t.default ≡ s.default → default_of t ≡ option_map change (default_of s) → ((n : Network) → IsLeft n (change n))
    → IsLeftDefault s.default t.default (default_of s) (default_of t)
default-stays s t change same home each = record {
  default = λ n h. ap (λ d. (class_of n.kind == 1) && is_default d n.id) (sym same) ∙ h;
  links = subst (λ h. Left (links_of (default_of s)) (links_of h)) (sym home) (links (default_of s));
  needs = inl (ap needs_of home ∙ needs (default_of s));
}
  where
    links : (h : Option Network) → Left (links_of h) (links_of (option_map change h))
    links None = left-same []
    links (Some n) = (each n).interfaces

    needs : (h : Option Network) → needs_of (option_map change h) ≡ needs_of h
    needs None = refl
    needs (Some n) = (each n).permission

pub default-goes : (s t : StateView) → t.default ≡ None → default_of t ≡ None → IsLeftDefault s.default t.default (default_of s) (default_of t)
default-goes s t none home = record {
  default = λ n h. absurd (false≢true (sym (never (class_of n.kind == 1)) ∙ (ap (λ d. (class_of n.kind == 1) && is_default d n.id) (sym none) ∙ h)));
  links = subst (λ h. Left (links_of (default_of s)) (links_of h)) (sym home) (left-none (links_of (default_of s)));
  needs = inr (ap links_of home);
}
  where
    never : (b : Bool) → (b && false) ≡ false
    never true = refl
    never false = refl
