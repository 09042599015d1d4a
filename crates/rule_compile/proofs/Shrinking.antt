-- A change by which nothing comes: a table turns into what is left of it, all rows at once.
use Rattle.std.proofs.Common.{◌≡◌, ◌∙◌, Bool, true, false, List, [], ◌∷◌, ◌++◌, refl, sym, ap, subst, arith, filter, map, ℕ, Option, Some, None, inl, inr}
use Rattle.std.specs.Prelude.{flat_map, if◌then◌else◌, ◌⊎◌}
use Rattle.std.proofs.lemmas.Bool.{false≢true, false_from_ne_true}
use Rattle.uid_ranges.specs.declared.range.UidRange.{UidRange}
use Rattle.rule_law.specs.Rules.{Kind, has, HasEachOnce}
use Rattle.rule_law.specs.Parts.{TurnsInto}
use Rattle.rule_law.proofs.Membership.{filter-same}
use Rattle.rule_law.proofs.Turning.{TurnsInto-part}
use Rattle.rule_kinds.specs.Kind.{rule_kind}
use Rattle.rule_compile.proofs.Changes.{Goes, Left, Nothing, Shrinks, Stays}
use Rattle.policy_state.specs.declared.tether.TetherPair.{TetherPair}
use Rattle.policy_state.specs.View.{StateView}
use Rattle.uid_ranges.specs.declared.ranked.Ranked.{Ranked}
use Rattle.networks.specs.declared.network.Network.{Network}
use Rattle.policy_state.specs.declared.row.OnePer.TheVariants.{Once, EachLockdown, EachPair, EachOf}
use Rattle.policy_state.specs.Rows.{items, nothing, range_item, pair_item, items_in, items_at, picks, links_of, needs_of, link_item, user_item, split_item}
use Rattle.policy_state.specs.declared.row.Item.{Item}
use Rattle.policy_state.specs.declared.row.NetworkSet.{NetworkSet}
use Rattle.policy_state.specs.declared.row.NetworkSet.TheVariants.{OfLocal, OfPhysical, OfFree, OfDefault, OfVirtual, OfSecure, OfBypass}
use Rattle.policy_state.specs.declared.row.NetworkPart.{NetworkPart}
use Rattle.policy_state.specs.declared.row.NetworkPart.TheVariants.{Whole, EachInterface, EachRange, EachDefault}
use Rattle.networks.specs.Kinds.{permission_of, ranges_of, class_of}
use Rattle.policy_state.specs.Table.{rule_of, rules_in, rows, table_by_rows}
use Rattle.policy_state.proofs.Sorted.{turns-in_order}
use Rattle.fwmark.specs.declared.permission.Permission.{Permission}

pub left-same : {A : Type 0} (xs : List A) → Left xs xs
left-same [] = Nothing
left-same (x ∷ xs) = Stays x xs xs (left-same xs)

pub left-none : {A : Type 0} (xs : List A) → Left xs []
left-none [] = Nothing
left-none (x ∷ xs) = Goes x xs [] (left-none xs)

pub left-filter : {A : Type 0} (p : A → Bool) (xs : List A) → Left xs (filter p xs)
left-filter p [] = Nothing
left-filter {A = A} p (x ∷ xs) = by (p x) (left-filter p xs)
  where
    by : (b : Bool) → Left xs (filter p xs) → Left (x ∷ xs) (if b then x ∷ filter p xs else filter p xs)
    by true h = Stays x xs (filter p xs) h
    by false h = Goes x xs (filter p xs) h

pub left-append : {A : Type 0} (xs ys : List A) (zs ws : List A) → Left xs ys → Left zs ws → Left (xs ++ zs) (ys ++ ws)
left-append _ _ zs ws Nothing other = other
left-append _ _ zs ws (Stays x xs ys h) other = Stays x (xs ++ zs) (ys ++ ws) (left-append xs ys zs ws h other)
left-append _ _ zs ws (Goes x xs ys h) other = Goes x (xs ++ zs) (ys ++ ws) (left-append xs ys zs ws h other)

pub left-map : {A B : Type 0} (f : A → B) (xs ys : List A) → Left xs ys → Left (map f xs) (map f ys)
left-map f _ _ Nothing = Nothing
left-map f _ _ (Stays x xs ys h) = Stays (f x) (map f xs) (map f ys) (left-map f xs ys h)
left-map f _ _ (Goes x xs ys h) = Goes (f x) (map f xs) (map f ys) (left-map f xs ys h)

pub left-flat : {A B : Type 0} (f : A → List B) (xs ys : List A) → Left xs ys → Left (flat_map f xs) (flat_map f ys)
left-flat f _ _ Nothing = Nothing
left-flat f _ _ (Stays x xs ys h) = left-append (f x) (f x) (flat_map f xs) (flat_map f ys) (left-same (f x)) (left-flat f xs ys h)
left-flat f _ _ (Goes x xs ys h) = left-append (f x) [] (flat_map f xs) (flat_map f ys) (left-none (f x)) (left-flat f xs ys h)

pub left-each : {A B : Type 0} (f g : A → List B) (xs : List A) → ((x : A) → Left (f x) (g x)) → Left (flat_map f xs) (flat_map g xs)
left-each f g [] h = Nothing
left-each f g (x ∷ xs) h = left-append (f x) (g x) (flat_map f xs) (flat_map g xs) (h x) (left-each f g xs h)

pub left-then : {A : Type 0} (xs ys zs : List A) → Left xs ys → Left ys zs → Left xs zs
left-then _ _ zs Nothing other = other
left-then _ _ _ (Stays x xs ys l) (Stays _ _ zs m) = Stays x xs zs (left-then xs ys zs l m)
left-then _ _ _ (Stays x xs ys l) (Goes _ _ zs m) = Goes x xs zs (left-then xs ys zs l m)
left-then _ _ zs (Goes x xs ys l) other = Goes x xs zs (left-then xs ys zs l other)

module _ {R : Type 0} (k : Kind R) where
  absent : (xs ys : List R) (x : R) → Left xs ys → has k xs x ≡ false → has k ys x ≡ false
  absent _ _ x Nothing h = refl
  absent _ _ x (Stays y ys zs l) h = let rest : has k ys x ≡ false → has k zs x ≡ false = absent ys zs x l in grind (arith, rest)
  absent _ _ x (Goes y ys zs l) h = absent ys zs x l (grind arith)

  what_is_left : (xs ys : List R) → Left xs ys → HasEachOnce k xs → filter (has k ys) xs ≡ ys
  what_is_left _ _ Nothing once = refl
  what_is_left _ _ (Stays x xs ys l) once =
      let rest : filter (has k (x ∷ ys)) xs ≡ ys =
      filter-same k (has k (x ∷ ys)) (has k ys) xs (λ y h.
      let other : k.same y x ≡ false = false_from_ne_true (k.same y x) (λ e. false≢true (sym once.0 ∙ subst (λ z. has k xs z ≡ true) (k.same_is y x e) h)) in
      rw other refl)
      ∙ what_is_left xs ys l once.1 in
      rw (k.same_self x) (ap (λ zs. x ∷ zs) rest)
  what_is_left _ _ (Goes x xs ys l) once = rw (absent xs ys x l once.0) (what_is_left xs ys l once.1)

  pub turns-left : (old new : List R) → Left old new → HasEachOnce k old → TurnsInto k old new
  turns-left old new l once = subst (λ zs. TurnsInto k old zs) (what_is_left old new l once) (TurnsInto-part k (has k new) old)

pub table-shrinks : (s t : StateView) → Shrinks s t → HasEachOnce rule_kind (flat_map (rules_in s) rows) → TurnsInto rule_kind (table_by_rows s) (table_by_rows t)
table-shrinks s t h once =
    turns-in_order rule_kind (flat_map (rules_in s) rows) (flat_map (rules_in t) rows)
    (turns-left rule_kind (flat_map (rules_in s) rows) (flat_map (rules_in t) rows)
    (left-each (rules_in s) (rules_in t) rows (λ row. left-map (rule_of row) (items row.per s) (items row.per t) (h row.per))) once)

-- Commands that only take something away. Each is shown for all rows.

-- a list of the state is thinned
pub shrinks-lockdown : (s : StateView) (test : UidRange → Bool) → Shrinks s (record s { lockdown = filter test s.lockdown })
shrinks-lockdown s test Once = left-same (nothing ∷ [])
shrinks-lockdown s test EachLockdown = left-map range_item s.lockdown (filter test s.lockdown) (left-filter test s.lockdown)
shrinks-lockdown s test EachPair = left-same (map pair_item s.pairs)
shrinks-lockdown s test (EachOf pick spread) = left-same (items (EachOf pick spread) s)

pub shrinks-pairs : (s : StateView) (test : TetherPair → Bool) → Shrinks s (record s { pairs = filter test s.pairs })
shrinks-pairs s test Once = left-same (nothing ∷ [])
shrinks-pairs s test EachLockdown = left-same (map range_item s.lockdown)
shrinks-pairs s test EachPair = left-map pair_item s.pairs (filter test s.pairs) (left-filter test s.pairs)
shrinks-pairs s test (EachOf pick spread) = left-same (items (EachOf pick spread) s)

-- Networks go, or lose interfaces or ranges, and with them perhaps the default: for all rows.

-- what is left of a network
pub record IsLeft (n m : Network) : Type 0 where
  pub id : m.id ≡ n.id
  pub kind : class_of m.kind ≡ class_of n.kind
  pub picked : (pick : NetworkSet) (d : Option ℕ) → picks pick d m ≡ picks pick d n
  pub permission : permission_of m.kind ≡ permission_of n.kind
  pub interfaces : Left n.interfaces m.interfaces
  pub ranges : Left (ranges_of n.kind) (ranges_of m.kind)

-- what is left of the default
pub record IsLeftDefault (d e : Option ℕ) (home home' : Option Network) : Type 0 where
  pub default : (n : Network) → picks OfDefault e n ≡ true → picks OfDefault d n ≡ true
  pub links : Left (links_of home) (links_of home')
  pub needs : (needs_of home' ≡ needs_of home) ⊎ (links_of home' ≡ [])

picked-before : (pick : NetworkSet) (d e : Option ℕ) → ((n : Network) → picks OfDefault e n ≡ true → picks OfDefault d n ≡ true) → (n : Network) → picks pick e n ≡ true → picks pick d n ≡ true
picked-before OfLocal d e h n t = t
picked-before OfPhysical d e h n t = t
picked-before OfFree d e h n t = t
picked-before OfDefault d e h n t = h n t
picked-before OfVirtual d e h n t = t
picked-before OfSecure d e h n t = t
picked-before OfBypass d e h n t = t

in-left : (spread : NetworkPart) (d e : Option ℕ) (home home' : Option Network) → IsLeftDefault d e home home' → (n m : Network) → IsLeft n m → Left (items_in spread home n) (items_in spread home' m)
in-left Whole d e home home' default n m left =
    subst (λ (is : List Item). Left (items_in Whole home n) is)
    (ap (λ (i : ℕ). let it : Item = record { net = i; needs = permission_of n.kind; incoming = 0; link = 0; users = None; rank = 0 } in it ∷ []) (sym left.id)
    ∙ ap (λ (p : Permission). let it : Item = record { net = m.id; needs = p; incoming = 0; link = 0; users = None; rank = 0 } in it ∷ []) (sym left.permission))
    (left-same (items_in Whole home n))
in-left EachInterface d e home home' default n m left =
    subst (λ (is : List Item). Left (map (link_item n) n.interfaces) is)
    (ap (λ (i : ℕ). map (λ (link : ℕ). let it : Item = record { net = i; needs = permission_of n.kind; incoming = link; link = link; users = None; rank = 0 } in it) m.interfaces) (sym left.id)
    ∙ ap (λ (p : Permission). map (λ (link : ℕ). let it : Item = record { net = m.id; needs = p; incoming = link; link = link; users = None; rank = 0 } in it) m.interfaces) (sym left.permission))
    (left-map (link_item n) n.interfaces m.interfaces left.interfaces)
in-left EachRange d e home home' default n m left =
    subst (λ (is : List Item). Left (items_in EachRange home n) is)
    (ap (λ (i : ℕ). flat_map (λ (link : ℕ). map (λ (r : Ranked). let it : Item = record { net = i; needs = permission_of n.kind; incoming = link; link = link; users = Some r.users; rank = r.rank } in it) (ranges_of m.kind)) m.interfaces) (sym left.id)
    ∙ ap (λ (p : Permission). flat_map (λ (link : ℕ). map (λ (r : Ranked). let it : Item = record { net = m.id; needs = p; incoming = link; link = link; users = Some r.users; rank = r.rank } in it) (ranges_of m.kind)) m.interfaces) (sym left.permission))
    (both n.interfaces m.interfaces left.interfaces)
  where
    both : (xs ys : List ℕ) → Left xs ys → Left (flat_map (λ link. map (user_item n link) (ranges_of n.kind)) xs) (flat_map (λ link. map (user_item n link) (ranges_of m.kind)) ys)
    both xs ys l =
        left-then (flat_map (λ link. map (user_item n link) (ranges_of n.kind)) xs) (flat_map (λ link. map (user_item n link) (ranges_of n.kind)) ys) (flat_map (λ link. map (user_item n link) (ranges_of m.kind)) ys)
        (left-flat (λ link. map (user_item n link) (ranges_of n.kind)) xs ys l) (left-each (λ link. map (user_item n link) (ranges_of n.kind)) (λ link. map (user_item n link) (ranges_of m.kind)) ys (λ link. left-map (user_item n link) (ranges_of n.kind) (ranges_of m.kind) left.ranges))
in-left EachDefault d e home home' default n m left = by default.needs
  where
    by : (needs_of home' ≡ needs_of home) ⊎ (links_of home' ≡ []) → Left (items_in EachDefault home n) (items_in EachDefault home' m)
    by (inl same) =
        subst (λ (is : List Item). Left (items_in EachDefault home n) is)
        (ap (λ (i : ℕ). map (λ (link : ℕ). let it : Item = record { net = i; needs = needs_of home; incoming = 0; link = link; users = None; rank = 0 } in it) (links_of home')) (sym left.id)
        ∙ ap (λ (p : Permission). map (split_item m p) (links_of home')) (sym same))
        (left-map (split_item n (needs_of home)) (links_of home) (links_of home') default.links)
    by (inr none) = subst (λ (links : List ℕ). Left (items_in EachDefault home n) (map (split_item m (needs_of home')) links)) (sym none) (left-none (items_in EachDefault home n))

part-left : (b c : Bool) (xs ys : List Item) → (c ≡ true → b ≡ true) → Left xs ys → Left (if b then xs else []) (if c then ys else [])
part-left true true xs ys h l = l
part-left true false xs ys h l = left-none xs
part-left false true xs ys h l = absurd (false≢true (h refl))
part-left false false xs ys h l = left-none []

-- some networks go, and of the others something is left
pub networks-left : (pick : NetworkSet) (spread : NetworkPart) (d e : Option ℕ) (home home' : Option Network) → IsLeftDefault d e home home' → (stays : Network → Bool) (change : Network → Network) → ((n : Network) → IsLeft n (change n)) → (ns : List Network)
    → Left (flat_map (items_at pick spread d home) ns) (flat_map (items_at pick spread e home') (map change (filter stays ns)))
networks-left pick spread d e home home' default stays change left [] = left-none []
networks-left pick spread d e home home' default stays change left (n ∷ ns) = by (stays n) (networks-left pick spread d e home home' default stays change left ns)
  where
    by : (b : Bool) → Left (flat_map (items_at pick spread d home) ns) (flat_map (items_at pick spread e home') (map change (filter stays ns)))
        → Left (items_at pick spread d home n ++ flat_map (items_at pick spread d home) ns) (flat_map (items_at pick spread e home') (map change (if b then n ∷ filter stays ns else filter stays ns)))
    by true rest =
        left-append (items_at pick spread d home n) (items_at pick spread e home' (change n)) (flat_map (items_at pick spread d home) ns) (flat_map (items_at pick spread e home') (map change (filter stays ns)))
        (part-left (picks pick d n) (picks pick e (change n)) (items_in spread home n) (items_in spread home' (change n))
        (λ h. picked-before pick d e default.default n (sym ((left n).picked pick e) ∙ h))
        (in-left spread d e home home' default n (change n) (left n))) rest
    by false rest = left-append (items_at pick spread d home n) [] (flat_map (items_at pick spread d home) ns) (flat_map (items_at pick spread e home') (map change (filter stays ns))) (left-none (items_at pick spread d home n)) rest
