-- What is known of the items of a row.
use Rattle.std.proofs.Common.{◌≡◌, ◌∙◌, ℕ, true, false, Some, None, refl, sym, ap, subst, inl, inr, map, Bool, List, [], ◌∷◌, ◌++◌}
use Rattle.std.specs.Prelude.{◌==◌, Option, flat_map, if◌then◌else◌, ◌||◌}
use Rattle.std.proofs.lemmas.Bool.{false≢true, and_parts, eqb-true, false_from_ne_true}
use Rattle.policy_state.specs.View.{Ranked, Kind, Local, Physical, Virtual, Network, StateView}
use Rattle.policy_state.specs.Rows.{Item, NetworkSet, OfLocal, OfPhysical, OfFree, OfDefault, OfVirtual, OfSecure, OfBypass, NetworkPart, Whole, EachInterface, EachRange, EachDefault, EachOf, permission_of, ranges_of, class_of, is_free, is_secure, is_bypass, is_default, picks, default_of, needs_of, links_of, net_item, link_item, user_item, split_item, items_in, items_at, items, Row}
use Rattle.policy_state.proofs.RowTests.{network_class, is_linked, is_ranged, is_split, is_of_default}
use Rattle.policy_state.proofs.Owners.{Has, OfMap, OfFlat, of_map, of_flat, of_test, Once, of_append, of_rules}
use Rattle.rule_law.specs.Rules.{has, HasEachOnce}
use Rattle.rule_match.specs.declared.rule.Rule.{Rule}
use Rattle.rule_kinds.specs.Kind.{rule_kind}
use Rattle.std.proofs.lemmas.List.{map-append}
use Rattle.policy_state.specs.Table.{rule_of}

pub record Comes (s : StateView) (pick : NetworkSet) (spread : NetworkPart) (i : Item) : Type 0 where
  pub net : Network
  pub there : Has s.networks net
  pub picked : picks pick s.default net ≡ true
  pub item : Has (items_in spread (default_of s) net) i

pub comes : (s : StateView) (pick : NetworkSet) (spread : NetworkPart) (i : Item) → Has (items (EachOf pick spread) s) i → Comes s pick spread i
comes s pick spread i h =
    let numbers_from : OfFlat (items_at pick spread s.default (default_of s)) s.networks i = of_flat (items_at pick spread s.default (default_of s)) s.networks i h in
    let both = of_test (picks pick s.default numbers_from.one) (items_in spread (default_of s) numbers_from.one) i numbers_from.has in
    record { net = numbers_from.one; there = numbers_from.there; picked = both.0; item = both.1 }

-- an item with an interface of its network and a range of its users
pub record OfUsers (n : Network) (i : Item) : Type 0 where
  pub link : ℕ
  pub r : Ranked
  pub linked : Has n.interfaces link
  pub ranged : Has (ranges_of n.kind) r
  pub is : i ≡ user_item n link r

pub of_users : (s : StateView) (n : Network) (i : Item) → Has (items_in EachRange (default_of s) n) i → OfUsers n i
of_users s n i h =
    let by_link : OfFlat (λ link. map (user_item n link) (ranges_of n.kind)) n.interfaces i = of_flat (λ link. map (user_item n link) (ranges_of n.kind)) n.interfaces i h in
    let by_range : OfMap (user_item n by_link.one) (ranges_of n.kind) i = of_map (user_item n by_link.one) (ranges_of n.kind) i by_link.has in
    record { link = by_link.one; r = by_range.one; linked = by_link.there; ranged = by_range.there; is = by_range.is }

pub of_links : (s : StateView) (n : Network) (i : Item) → Has (items_in EachInterface (default_of s) n) i → OfMap (link_item n) n.interfaces i
of_links s n i h = of_map (link_item n) n.interfaces i h

pub of_split : (s : StateView) (n : Network) (i : Item) → Has (items_in EachDefault (default_of s) n) i → OfMap (split_item n (needs_of (default_of s))) (links_of (default_of s)) i
of_split s n i h = of_map (split_item n (needs_of (default_of s))) (links_of (default_of s)) i h

pub of_whole : (s : StateView) (n : Network) (i : Item) → Has (items_in Whole (default_of s) n) i → i ≡ net_item n
of_whole s n i h = elim h [ inl e ↦ sym e | inr f ↦ absurd f ]

pub item-net : (spread : NetworkPart) (s : StateView) (n : Network) (i : Item) → Has (items_in spread (default_of s) n) i → i.net ≡ n.id
item-net Whole s n i h = ap (λ (i : Item). i.net) (of_whole s n i h)
item-net EachInterface s n i h = ap (λ (i : Item). i.net) (of_links s n i h).is
item-net EachRange s n i h = ap (λ (i : Item). i.net) (of_users s n i h).is
item-net EachDefault s n i h = ap (λ (i : Item). i.net) (of_split s n i h).is

pub record Linked (n : Network) (i : Item) : Type 0 where
  pub link : Has n.interfaces i.link
  pub incoming : i.incoming ≡ i.link

pub item-link : (spread : NetworkPart) → is_linked spread ≡ true → (s : StateView) (n : Network) (i : Item) → Has (items_in spread (default_of s) n) i → Linked n i
item-link Whole is s n i h = absurd (false≢true is)
item-link EachInterface is s n i h =
    let it = of_links s n i h in
    subst (Linked n) (sym it.is) (record { link = it.there; incoming = refl })
item-link EachRange is s n i h =
    let it = of_users s n i h in
    subst (Linked n) (sym it.is) (record { link = it.linked; incoming = refl })
item-link EachDefault is s n i h = absurd (false≢true is)

pub item-users : (spread : NetworkPart) → is_ranged spread ≡ true → (s : StateView) (n : Network) (i : Item) → Has (items_in spread (default_of s) n) i → OfUsers n i
item-users Whole is s n i h = absurd (false≢true is)
item-users EachInterface is s n i h = absurd (false≢true is)
item-users EachRange is s n i h = of_users s n i h
item-users EachDefault is s n i h = absurd (false≢true is)

pub item-nobody : (spread : NetworkPart) → is_ranged spread ≡ false → (s : StateView) (n : Network) (i : Item) → Has (items_in spread (default_of s) n) i → (i.users ≡ None) × (i.rank ≡ 0)
item-nobody Whole is s n i h = let e = of_whole s n i h in (ap (λ (i : Item). i.users) e, ap (λ (i : Item). i.rank) e)
item-nobody EachInterface is s n i h = let e = (of_links s n i h).is in (ap (λ (i : Item). i.users) e, ap (λ (i : Item). i.rank) e)
item-nobody EachRange is s n i h = absurd (false≢true (sym is))
item-nobody EachDefault is s n i h = let e = (of_split s n i h).is in (ap (λ (i : Item). i.users) e, ap (λ (i : Item). i.rank) e)

pub item-needs : (spread : NetworkPart) → is_split spread ≡ false → (s : StateView) (n : Network) (i : Item) → Has (items_in spread (default_of s) n) i → i.needs ≡ permission_of n.kind
item-needs Whole is s n i h = ap (λ (i : Item). i.needs) (of_whole s n i h)
item-needs EachInterface is s n i h = ap (λ (i : Item). i.needs) (of_links s n i h).is
item-needs EachRange is s n i h = ap (λ (i : Item). i.needs) (of_users s n i h).is
item-needs EachDefault is s n i h = absurd (false≢true (sym is))

pub item-split : (spread : NetworkPart) → is_split spread ≡ true → (s : StateView) (n : Network) (i : Item) → Has (items_in spread (default_of s) n) i → i.needs ≡ needs_of (default_of s)
item-split Whole is s n i h = absurd (false≢true is)
item-split EachInterface is s n i h = absurd (false≢true is)
item-split EachRange is s n i h = absurd (false≢true is)
item-split EachDefault is s n i h = ap (λ (i : Item). i.needs) (of_split s n i h).is

free-family : (k : Kind) → is_free k ≡ true → class_of k ≡ 1
free-family Local h = absurd (false≢true h)
free-family (Physical permission apps) h = refl
free-family (Virtual secure users) h = absurd (false≢true h)

secure-family : (k : Kind) → is_secure k ≡ true → class_of k ≡ 2
secure-family Local h = absurd (false≢true h)
secure-family (Physical permission apps) h = absurd (false≢true h)
secure-family (Virtual secure users) h = refl

bypass-family : (k : Kind) → is_bypass k ≡ true → class_of k ≡ 2
bypass-family Local h = absurd (false≢true h)
bypass-family (Physical permission apps) h = absurd (false≢true h)
bypass-family (Virtual secure users) h = refl

pub picked-family : (pick : NetworkSet) (s : StateView) (n : Network) → picks pick s.default n ≡ true → class_of n.kind ≡ network_class pick
picked-family OfLocal s n h = eqb-true (class_of n.kind) 0 h
picked-family OfPhysical s n h = eqb-true (class_of n.kind) 1 h
picked-family OfFree s n h = free-family n.kind h
picked-family OfDefault s n h = eqb-true (class_of n.kind) 1 (and_parts (class_of n.kind == 1) (is_default s.default n.id) h).0
picked-family OfVirtual s n h = eqb-true (class_of n.kind) 2 h
picked-family OfSecure s n h = secure-family n.kind h
picked-family OfBypass s n h = bypass-family n.kind h

default-id : (d : Option ℕ) (m n : ℕ) → is_default d m ≡ true → is_default d n ≡ true → m ≡ n
default-id None m n g h = absurd (false≢true g)
default-id (Some d) m n g h = sym (eqb-true d m g) ∙ eqb-true d n h

pub picked-default : (pick : NetworkSet) → is_of_default pick ≡ true → (s t : StateView) → s.default ≡ t.default → (m n : Network) → picks pick s.default m ≡ true → picks pick t.default n ≡ true → m.id ≡ n.id
picked-default OfLocal is s t same m n g h = absurd (false≢true is)
picked-default OfPhysical is s t same m n g h = absurd (false≢true is)
picked-default OfFree is s t same m n g h = absurd (false≢true is)
picked-default OfDefault is s t same m n g h =
    default-id t.default m.id n.id
    (subst (λ d. is_default d m.id ≡ true) same (and_parts (class_of m.kind == 1) (is_default s.default m.id) g).1)
    (and_parts (class_of n.kind == 1) (is_default t.default n.id) h).1
picked-default OfVirtual is s t same m n g h = absurd (false≢true is)
picked-default OfSecure is s t same m n g h = absurd (false≢true is)
picked-default OfBypass is s t same m n g h = absurd (false≢true is)

-- Lists in which nothing stands twice.

pub once-append : {A : Type 0} (xs ys : List A) → Once xs → Once ys → ((z : A) → Has xs z → Has ys z → ⊥) → Once (xs ++ ys)
once-append [] ys one other apart = other
once-append (x ∷ xs) ys one other apart = (
  (λ h. elim (of_append xs ys x h) [ inl t ↦ one.0 t | inr t ↦ apart x (inl refl) t ]),
  once-append xs ys one.1 other (λ z h. apart z (inr h)),
)

pub once-map : {A B : Type 0} (f : A → B) (xs : List A) → Once xs → ((x y : A) → Has xs x → Has xs y → f x ≡ f y → x ≡ y) → Once (map f xs)
once-map f [] once told = tt
once-map {A = A} {B = B} f (x ∷ xs) once told = (
  (λ h. let it : OfMap f xs (f x) = of_map f xs (f x) h in once.0 (subst (λ (y : A). Has xs y) (sym (told x it.one (inl refl) (inr it.there) it.is)) it.there)),
  once-map f xs once.1 (λ y z g h. told y z (inr g) (inr h)),
)

pub once-flat : {A B : Type 0} (f : A → List B) (xs : List A) → Once xs → ((x : A) → Has xs x → Once (f x)) → ((x y : A) (z : B) → Has xs x → Has xs y → Has (f x) z → Has (f y) z → x ≡ y) → Once (flat_map f xs)
once-flat f [] once each told = tt
once-flat {A = A} {B = B} f (x ∷ xs) once each told =
    once-append (f x) (flat_map f xs) (each x (inl refl))
    (once-flat f xs once.1 (λ y h. each y (inr h)) (λ y z w g h. told y z w (inr g) (inr h)))
    (λ z h t.
    let it : OfFlat f xs z = of_flat f xs z t in
    once.0 (subst (λ (y : A). Has xs y) (sym (told x it.one z (inl refl) (inr it.there) h it.has)) it.there))

pub once-test : {A : Type 0} (b : Bool) (xs : List A) → Once xs → Once (if b then xs else [])
once-test true xs h = h
once-test false xs h = tt

pub once-has : (rules : List Rule) → Once rules → HasEachOnce rule_kind rules
once-has [] h = tt
once-has (x ∷ xs) h = (false_from_ne_true (has rule_kind xs x) (λ t. h.0 (of_rules xs x t)), once-has xs h.1)

-- The rules of a row for a network, and lists that are made of parts.

-- the rules of a row for a network
abbrev pub part : Row → NetworkSet → NetworkPart → StateView → Network → List Rule
part row pick spread u n = map (rule_of row) (items_at pick spread u.default (default_of u) n)

pub has_front : {A : Type 0} (xs ys : List A) (x : A) → Has xs x → Has (xs ++ ys) x
has_front [] ys x h = absurd h
has_front (y ∷ xs) ys x (inl e) = inl e
has_front (y ∷ xs) ys x (inr h) = inr (has_front xs ys x h)

pub has_behind : {A : Type 0} (xs ys : List A) (x : A) → Has ys x → Has (xs ++ ys) x
has_behind [] ys x h = h
has_behind (y ∷ xs) ys x h = inr (has_behind xs ys x h)

pub has_flat : {A B : Type 0} (f : A → List B) (xs : List A) (x : A) (y : B) → Has xs x → Has (f x) y → Has (flat_map f xs) y
has_flat f [] x y there h = absurd there
has_flat {A = A} f (z ∷ zs) x y (inl e) h = has_front (f z) (flat_map f zs) y (subst (λ (a : A). Has (f a) y) (sym e) h)
has_flat f (z ∷ zs) x y (inr there) h = has_behind (f z) (flat_map f zs) y (has_flat f zs x y there h)

pub has_map : {A B : Type 0} (f : A → B) (xs : List A) (x : A) → Has xs x → Has (map f xs) (f x)
has_map f [] x h = absurd h
has_map f (y ∷ ys) x (inl e) = inl (ap f e)
has_map f (y ∷ ys) x (inr h) = inr (has_map f ys x h)

pub has_at : (pick : NetworkSet) (spread : NetworkPart) (u : StateView) (n : Network) (i : Item) → Has u.networks n → Has (items_at pick spread u.default (default_of u) n) i → Has (items (EachOf pick spread) u) i
has_at pick spread u n i there h = has_flat (items_at pick spread u.default (default_of u)) u.networks n i there h

pub map-flat : {A B C : Type 0} (f : B → C) (g : A → List B) (xs : List A) → map f (flat_map g xs) ≡ flat_map (λ x. map f (g x)) xs
map-flat f g [] = refl
map-flat f g (x ∷ xs) = map-append f (g x) (flat_map g xs) ∙ ap (λ ys. map f (g x) ++ ys) (map-flat f g xs)

pub flat-map : {A B C : Type 0} (f : B → List C) (g : A → B) (xs : List A) → flat_map f (map g xs) ≡ flat_map (λ x. f (g x)) xs
flat-map f g [] = refl
flat-map f g (x ∷ xs) = ap (λ ys. f (g x) ++ ys) (flat-map f g xs)

pub has-rule : (rules : List Rule) (x : Rule) → Has rules x → has rule_kind rules x ≡ true
has-rule [] x h = absurd h
has-rule (y ∷ ys) x (inl e) = subst (λ (z : Rule). (rule_kind.same x z || has rule_kind ys x) ≡ true) (sym e) (rw (rule_kind.same_self x) refl)
has-rule (y ∷ ys) x (inr h) = rw (has-rule ys x h) (by (rule_kind.same x y))
  where
    by : (b : Bool) → (b || true) ≡ true
    by true = refl
    by false = refl
