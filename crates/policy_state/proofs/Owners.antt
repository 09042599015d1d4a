-- What stands in a list, and what a good state is.
use Rattle.std.specs.Prelude.{◌≡◌, ◌⊎◌, ℕ, ◌≤◌, ◌<◌, true, false, List, [], ◌∷◌, Some, ◌||◌, flat_map, if◌then◌else◌, ◌&&◌, find}
use Rattle.uid_ranges.specs.Range.{holds}
use Rattle.uid_ranges.specs.declared.range.UidRange.{UidRange}
use Rattle.prefixes.specs.Route.{link_of}
use Rattle.networks.specs.Network.{has_link}
use Rattle.policy_state.specs.View.{Ranked, LinkRoute, Network, TetherPair, StateView}
use Rattle.policy_state.specs.Good.{is_local_network}
use Rattle.policy_state.specs.Rows.{ranges_of, class_of, links_of, default_of}
use Rattle.std.proofs.Common.{◌≡◌, Bool, true, false, List, [], ◌∷◌, ◌++◌, refl, sym, inl, inr, map, ◌∙◌, ◌==◌, ℕ, ◌≤◌, ◌<◌, Some, None, ap, subst}
use Rattle.std.proofs.lemmas.Bool.{cases_Bool, false≢true, and_parts, and_from, eqb-true, eq-eqb}
use Rattle.rule_law.specs.Rules.{has}
use Rattle.rule_match.specs.Rule.{same_rule}
use Rattle.rule_match.specs.declared.rule.Rule.{Rule}
use Rattle.rule_match.proofs.Sames.{same_rule-true}
use Rattle.rule_kinds.specs.Kind.{rule_kind}
use Rattle.std.specs.List.{list_any}

abbrev pub Has : {A : Type 0} → List A → A → Type 0
Has [] x = ⊥
Has (y ∷ ys) x = (y ≡ x) ⊎ Has ys x

-- no item stands twice
abbrev pub Once : {A : Type 0} → List A → Type 0
Once [] = Unit {0}
Once (x ∷ xs) = (Has xs x → ⊥) × Once xs

-- whose each link and each user is, as long as it is anybody's
pub record Owners : Type 0 where
  -- of what kind the network of an id is
  pub network_class : ℕ → ℕ
  -- the id of the network of which the link is an interface
  pub of_link : ℕ → ℕ
  -- the id of the network of this kind whose range of this rank holds the UID
  pub of_user : ℕ → ℕ → ℕ → ℕ

pub record OwnsNetwork (o : Owners) (n : Network) : Type 0 where
  pub fits : n.id < 65536
  pub network_class : o.network_class n.id ≡ class_of n.kind
  pub links : (link : ℕ) → Has n.interfaces link → o.of_link link ≡ n.id
  pub users : (r : Ranked) (uid : ℕ) → Has (ranges_of n.kind) r → holds r.users uid ≡ true → o.of_user (class_of n.kind) r.rank uid ≡ n.id
  pub ranks : (r : Ranked) → Has (ranges_of n.kind) r → r.rank ≤ 99
  -- the ranges of one network are disjoint
  pub disjoint : (r q : Ranked) (uid : ℕ) → Has (ranges_of n.kind) r → Has (ranges_of n.kind) q → holds r.users uid ≡ true → holds q.users uid ≡ true → r ≡ q

abbrev pub AreOwners : Owners → StateView → Type 0
AreOwners o s = (n : Network) → Has s.networks n → OwnsNetwork o n

pub record IsOwned (o : Owners) (s : StateView) : Type 0 where
  pub owns : AreOwners o s
  pub one_id : (m n : Network) → Has s.networks m → Has s.networks n → m.id ≡ n.id → m ≡ n
  pub lockdown : (r q : UidRange) (uid : ℕ) → Has s.lockdown r → Has s.lockdown q → holds r uid ≡ true → holds q uid ≡ true → r ≡ q

-- nothing stands twice in the state's lists
pub record AreOnce (s : StateView) : Type 0 where
  pub networks : Once s.networks
  pub interfaces : (n : Network) → Has s.networks n → Once n.interfaces
  pub ranges : (n : Network) → Has s.networks n → Once (ranges_of n.kind)
  pub default : Once (links_of (default_of s))
  pub lockdown : Once s.lockdown
  pub pairs : Once s.pairs

-- the links of networks and the inputs of pairs are from 2 on, and no network has the id 0
pub record HasLinks (s : StateView) : Type 0 where
  pub ids : (n : Network) → Has s.networks n → 1 ≤ n.id
  pub interfaces : (n : Network) (link : ℕ) → Has s.networks n → Has n.interfaces link → 2 ≤ link
  pub pairs : (pair : TetherPair) → Has s.pairs pair → (2 ≤ pair.input) × (1 ≤ pair.out)

-- the output of a pair is an interface of a network that isn't local
pub record IsOutput (s : StateView) (out : ℕ) : Type 0 where
  pub net : Network
  pub there : Has s.networks net
  pub has : Has net.interfaces out
  pub not_local : is_local_network net ≡ false

-- the first network is the local one, and no other is; each route goes by an interface of its network
pub record IsWhole (s : StateView) : Type 0 where
  pub local : Network
  pub others : List Network
  pub first : s.networks ≡ local ∷ others
  pub local_is : is_local_network local ≡ true
  pub not_local : (n : Network) → Has others n → is_local_network n ≡ false
  pub routes : (n : Network) (r : LinkRoute) → Has s.networks n → Has n.routes r → Has n.interfaces r.link
  -- the local network has no special route
  pub local_routes : (r : LinkRoute) → Has local.routes r → link_of r.route.out ≡ Some r.link
  pub outputs : (pair : TetherPair) → Has s.pairs pair → IsOutput s pair.out

-- What stands in lists that are made from lists.

pub record OfMap {A B : Type 0} (f : A → B) (xs : List A) (y : B) : Type 0 where
  pub one : A
  pub there : Has xs one
  pub is : y ≡ f one

pub record OfFlat {A B : Type 0} (f : A → List B) (xs : List A) (y : B) : Type 0 where
  pub one : A
  pub there : Has xs one
  pub has : Has (f one) y

pub of_map : {A B : Type 0} (f : A → B) (xs : List A) (y : B) → Has (map f xs) y → OfMap f xs y
of_map f [] y h = absurd h
of_map f (x ∷ xs) y (inl e) = record { one = x; there = inl refl; is = sym e }
of_map f (x ∷ xs) y (inr h) = let rest = of_map f xs y h in record { one = rest.one; there = inr rest.there; is = rest.is }

pub of_append : {A : Type 0} (xs ys : List A) (z : A) → Has (xs ++ ys) z → Has xs z ⊎ Has ys z
of_append [] ys z h = inr h
of_append (x ∷ xs) ys z (inl e) = inl (inl e)
of_append (x ∷ xs) ys z (inr h) = elim (of_append xs ys z h) [ inl t ↦ inl (inr t) | inr t ↦ inr t ]

pub of_flat : {A B : Type 0} (f : A → List B) (xs : List A) (y : B) → Has (flat_map f xs) y → OfFlat f xs y
of_flat f [] y h = absurd h
of_flat f (x ∷ xs) y h = elim (of_append (f x) (flat_map f xs) y h) [
  | inl t ↦ record { one = x; there = inl refl; has = t }
  | inr t ↦ let rest = of_flat f xs y t in record { one = rest.one; there = inr rest.there; has = rest.has }
]

pub of_test : {A : Type 0} (b : Bool) (xs : List A) (y : A) → Has (if b then xs else []) y → (b ≡ true) × Has xs y
of_test true xs y h = (refl, h)
of_test false xs y h = absurd h

-- rules

pub of_rules : (rules : List Rule) (x : Rule) → has rule_kind rules x ≡ true → Has rules x
of_rules [] x h = absurd (false≢true h)
of_rules (y ∷ ys) x h = elim (cases_Bool (same_rule x y)) [
  | inl e ↦ inl (sym (same_rule-true x y e))
  | inr e ↦ inr (of_rules ys x (rw e at h))
]

pub or_cases : (a b : Bool) → (a || b) ≡ true → (a ≡ true) ⊎ (b ≡ true)
or_cases true b h = inl refl
or_cases false b h = inr h

-- Whose each link and each user is, in a state in which no link and no user of a rank is of two networks.

-- what a good state promises of its networks
pub record HasDistinctNets (s : StateView) : Type 0 where
  pub fits : (n : Network) → Has s.networks n → n.id < 65536
  pub ids : (m n : Network) → Has s.networks m → Has s.networks n → m.id ≡ n.id → m ≡ n
  pub links : (m n : Network) (link : ℕ) → Has s.networks m → Has s.networks n → Has m.interfaces link → Has n.interfaces link → m ≡ n
  pub users : (m n : Network) (r q : Ranked) (uid : ℕ) → Has s.networks m → Has s.networks n → Has (ranges_of m.kind) r → Has (ranges_of n.kind) q
      → class_of m.kind ≡ class_of n.kind → r.rank ≡ q.rank → holds r.users uid ≡ true → holds q.users uid ≡ true → m ≡ n
  pub ranks : (n : Network) (r : Ranked) → Has s.networks n → Has (ranges_of n.kind) r → r.rank ≤ 99
  pub disjoint : (n : Network) (r q : Ranked) (uid : ℕ) → Has s.networks n → Has (ranges_of n.kind) r → Has (ranges_of n.kind) q → holds r.users uid ≡ true → holds q.users uid ≡ true → r ≡ q

abbrev pub owners_of : StateView → Owners
owners_of s = record {
  network_class = λ id. elim (find (λ (n : Network). id == n.id) s.networks) [ Some n ↦ class_of n.kind | None ↦ 0 ];
  of_link = λ link. elim (find (λ (n : Network). list_any (λ i. i == link) n.interfaces) s.networks) [ Some n ↦ n.id | None ↦ 0 ];
  of_user = λ network_class rank uid. elim (find (λ (n : Network). (class_of n.kind == network_class) && list_any (λ (r : Ranked). (r.rank == rank) && holds r.users uid) (ranges_of n.kind)) s.networks) [ Some n ↦ n.id | None ↦ 0 ];
}

pub found : {N : Type 0} (t : N → Bool) (ns : List N) (n : N) → Has ns n → t n ≡ true → ((m : N) → Has ns m → t m ≡ true → m ≡ n) → find t ns ≡ Some n
found t [] n h passes told = absurd h
found t (m ∷ ms) n h passes told = elim (cases_Bool (t m)) [
  | inl e ↦ rw e (ap Some (told m (inl refl) e))
  | inr e ↦ rw e (found t ms n (behind h e) passes (λ k g. told k (inr g)))
]
  where
    behind : Has (m ∷ ms) n → t m ≡ false → Has ms n
    behind (inl same) e = absurd (false≢true (sym e ∙ (ap t same ∙ passes)))
    behind (inr g) e = g

pub any-from : {N : Type 0} (t : N → Bool) (ns : List N) (n : N) → Has ns n → t n ≡ true → list_any t ns ≡ true
any-from t [] n h passes = absurd h
any-from t (m ∷ ms) n (inl e) passes = rw (ap t e ∙ passes) refl
any-from t (m ∷ ms) n (inr h) passes = rw (any-from t ms n h passes) (by (t m))
  where
    by : (b : Bool) → (b || true) ≡ true
    by true = refl
    by false = refl

pub record Passing {N : Type 0} (t : N → Bool) (ns : List N) : Type 0 where
  pub one : N
  pub there : Has ns one
  pub passes : t one ≡ true

pub of_any : {N : Type 0} (t : N → Bool) (ns : List N) → list_any t ns ≡ true → Passing t ns
of_any t [] h = absurd (false≢true h)
of_any t (n ∷ ns) h = elim (cases_Bool (t n)) [
  | inl e ↦ record { one = n; there = inl refl; passes = e }
  | inr e ↦ let rest = of_any t ns (rw e at h) in record { one = rest.one; there = inr rest.there; passes = rest.passes }
]

pub owns : (s : StateView) → HasDistinctNets s → AreOwners (owners_of s) s
owns s good n there = record {
  fits = good.fits n there;
  network_class = ap (λ o. elim o [ Some m ↦ class_of m.kind | None ↦ 0 ])
      (found (λ (m : Network). n.id == m.id) s.networks n there (eq-eqb n.id n.id refl) (λ m in_m e. good.ids m n in_m there (sym (eqb-true n.id m.id e))));
  links = λ link h. ap (λ o. elim o [ Some m ↦ m.id | None ↦ 0 ])
      (found (λ (m : Network). list_any (λ i. i == link) m.interfaces) s.networks n there (any-from (λ i. i == link) n.interfaces link h (eq-eqb link link refl)) (λ m in_m e.
      let it = of_any (λ i. i == link) m.interfaces e in
      good.links m n link in_m there (subst (λ i. Has m.interfaces i) (eqb-true it.one link it.passes) it.there) h));
  users = λ r uid h in_r. ap (λ o. elim o [ Some m ↦ m.id | None ↦ 0 ])
      (found (λ (m : Network). (class_of m.kind == class_of n.kind) && list_any (λ (q : Ranked). (q.rank == r.rank) && holds q.users uid) (ranges_of m.kind)) s.networks n there
      (and_from _ _ (eq-eqb (class_of n.kind) (class_of n.kind) refl)
      (any-from (λ (q : Ranked). (q.rank == r.rank) && holds q.users uid) (ranges_of n.kind) r h (and_from _ _ (eq-eqb r.rank r.rank refl) in_r)))
      (λ m in_m e.
      let both = and_parts (class_of m.kind == class_of n.kind) (list_any (λ (q : Ranked). (q.rank == r.rank) && holds q.users uid) (ranges_of m.kind)) e in
      let it : Passing (λ (q : Ranked). (q.rank == r.rank) && holds q.users uid) (ranges_of m.kind) = of_any (λ (q : Ranked). (q.rank == r.rank) && holds q.users uid) (ranges_of m.kind) both.1 in
      let two = and_parts (it.one.rank == r.rank) (holds it.one.users uid) it.passes in
      good.users m n it.one r uid in_m there it.there h (eqb-true (class_of m.kind) (class_of n.kind) both.0) (eqb-true it.one.rank r.rank two.0) two.1 in_r));
  ranks = λ r h. good.ranks n r there h;
  disjoint = λ r q uid in_r in_q one other. good.disjoint n r q uid there in_r in_q one other;
}

-- each network of the one state is in the other one, with all that it has: so what is anybody's there is anybody's here
pub record IsWithin (s t : StateView) (n : Network) : Type 0 where
  pub net : Network
  pub there : Has t.networks net
  pub id : net.id ≡ n.id
  pub network_class : class_of net.kind ≡ class_of n.kind
  pub links : (link : ℕ) → Has n.interfaces link → Has net.interfaces link
  pub ranges : (r : Ranked) → Has (ranges_of n.kind) r → Has (ranges_of net.kind) r

pub owns-within : (o : Owners) (s t : StateView) → AreOwners o t → ((n : Network) → Has s.networks n → IsWithin s t n) → AreOwners o s
owns-within o s t own within n there =
    let it : IsWithin s t n = within n there in
    let big : OwnsNetwork o it.net = own it.net it.there in
    record {
      fits = subst (λ k. k < 65536) it.id big.fits;
      network_class = ap o.network_class (sym it.id) ∙ (big.network_class ∙ it.network_class);
      links = λ link h. big.links link (it.links link h) ∙ it.id;
      users = λ r uid h in_r. ap (λ k. o.of_user k r.rank uid) (sym it.network_class) ∙ (big.users r uid (it.ranges r h) in_r ∙ it.id);
      ranks = λ r h. big.ranks r (it.ranges r h);
      disjoint = λ r q uid g h one other. big.disjoint r q uid (it.ranges r g) (it.ranges q h) one other;
    }

-- what is found stands in the list
pub find-has : {N : Type 0} (t : N → Bool) (xs : List N) (n : N) → find t xs ≡ Some n → Has xs n
find-has t [] n h = absurd cc
find-has t (x ∷ xs) n h = elim (cases_Bool (t x)) [
  | inl e ↦ let is : Some x ≡ Some n = rw e at h in inl cc
  | inr e ↦ inr (find-has t xs n (rw e at h))
]

pub link-has : (n : Network) (link : ℕ) → has_link n link ≡ true → Has n.interfaces link
link-has n link h =
    let it : Passing (λ i. i == link) n.interfaces = of_any (λ i. i == link) n.interfaces h in
    subst (λ i. Has n.interfaces i) (eqb-true it.one link it.passes) it.there
