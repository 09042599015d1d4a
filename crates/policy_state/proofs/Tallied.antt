-- The rows have as many rules as the tallies say.
use Rattle.std.proofs.Common.{◌≡◌, ◌∙◌, ◌+◌, ◌*◌, ◌==◌, ℕ, Bool, true, false, cond, not, List, [], ◌∷◌, Option, Some, None, length, map, refl, sym, ap, ap₂, inl, inr, arith}
use Rattle.std.specs.Prelude.{◌&&◌, sum_by, if◌then◌else◌}
use Rattle.std.specs.List.{list_any}
use Rattle.std.proofs.lemmas.Bool.{cases_Bool, and_parts, or_parts, not-true, eqb-true}
use Rattle.list_lemmas.proofs.Numbers.{unlike-sym}
use Rattle.std.proofs.lemmas.List.Sums.{sum_by-cons}
use Rattle.fwmark.specs.declared.permission.Permission.TheVariants as needs
use Rattle.networks.specs.Kinds.{is_virtual, class_of}
use Rattle.networks.specs.Lists.{AreKeyed, are_distinct}
use Rattle.networks.specs.declared.network.LinkRoute.{LinkRoute}
use Rattle.policy_state.specs.Counts.{count_at, count_per, count_by_rows}
use Rattle.policy_state.specs.Rows.{Row, OnePer, OfDefault, EachInterface, Once, EachLockdown, EachPair, EachOf, is_default, links_of, default_among}
use Rattle.policy_state.specs.Table.{rows}
use Rattle.policy_state.specs.Tallies.{own, own_rules, virtuals, default_links, rules_in_all, tallied}
use Rattle.policy_state.specs.View.{Kind, Local, Physical, Virtual, Network, StateView}

-- the rules that a row has for one network
abbrev for_net : Option ℕ → ℕ → Network → OnePer → ℕ
for_net default links n Once = 0
for_net default links n EachLockdown = 0
for_net default links n EachPair = 0
for_net default links n (EachOf set part) = count_at set part default links n

-- those that it has as the default network
abbrev by_default : Option ℕ → Network → ℕ
by_default default n = count_at OfDefault EachInterface default 0 n

-- and those that lead to the default network's interfaces
abbrev by_split : ℕ → Network → ℕ
by_split links n = if is_virtual n.kind then links else 0

abbrev of_net : Option ℕ → ℕ → Network → ℕ
of_net default links n = own n + by_split links n + by_default default n

module _ (default : Option ℕ) (links id : ℕ) (is : List ℕ) (routes : List LinkRoute) where
  abbrev net : Kind → Network
  net k = record { id = id; kind = k; interfaces = is; routes = routes }

  abbrev in_rows : Kind → ℕ
  in_rows k = sum_by (λ (row : Row). for_net default links (net k) row.per) rows

  each-kind : (k : Kind) → in_rows k ≡ of_net default links (net k)
  each-kind Local = omega arith
  each-kind (Physical needs.Nothing apps) = elim (cases_Bool (is_default default id)) as (λ _. in_rows (Physical needs.Nothing apps) ≡ of_net default links (net (Physical needs.Nothing apps))) [ inl e ↦ rw e (omega arith) | inr e ↦ rw e (omega arith) ]
  each-kind (Physical needs.Network apps) = elim (cases_Bool (is_default default id)) as (λ _. in_rows (Physical needs.Network apps) ≡ of_net default links (net (Physical needs.Network apps))) [ inl e ↦ rw e (omega arith) | inr e ↦ rw e (omega arith) ]
  each-kind (Physical needs.System apps) = elim (cases_Bool (is_default default id)) as (λ _. in_rows (Physical needs.System apps) ≡ of_net default links (net (Physical needs.System apps))) [ inl e ↦ rw e (omega arith) | inr e ↦ rw e (omega arith) ]
  each-kind (Virtual true users) = omega arith
  each-kind (Virtual false users) = omega arith

-- sums over lists
sum-add : {A : Type 0} (f g : A → ℕ) (xs : List A) → sum_by (λ x. f x + g x) xs ≡ sum_by f xs + sum_by g xs
sum-add f g [] = refl
sum-add f g (x ∷ xs) = omega (arith, sum_by-cons (λ x. f x + g x) x xs, sum_by-cons f x xs, sum_by-cons g x xs, sum-add f g xs)

sum-equal : {A : Type 0} (f g : A → ℕ) (xs : List A) → ((x : A) → f x ≡ g x) → sum_by f xs ≡ sum_by g xs
sum-equal f g [] same = refl
sum-equal f g (x ∷ xs) same = sum_by-cons f x xs ∙ (ap₂ (λ (m n : ℕ). m + n) (same x) (sum-equal f g xs same) ∙ sym (sum_by-cons g x xs))

module _ (default : Option ℕ) (links ranges pairs : ℕ) where
  abbrev by_rows : List Network → ℕ
  by_rows ns = sum_by (λ (row : Row). count_per row.per default links ranges pairs ns) rows

  row-cons : (n : Network) (ns : List Network) (per : OnePer)
      → count_per per default links ranges pairs (n ∷ ns) ≡ count_per per default links ranges pairs ns + for_net default links n per
  row-cons n ns Once = refl
  row-cons n ns EachLockdown = omega arith
  row-cons n ns EachPair = omega arith
  row-cons n ns (EachOf set part) = omega (arith, sum_by-cons (count_at set part default links) n ns)

  by_rows-cons : (n : Network) (ns : List Network) → by_rows (n ∷ ns) ≡ by_rows ns + of_net default links n
  by_rows-cons n ns =
      sum-equal (λ (row : Row). count_per row.per default links ranges pairs (n ∷ ns)) (λ (row : Row). count_per row.per default links ranges pairs ns + for_net default links n row.per) rows (λ row. row-cons n ns row.per)
      ∙ (sum-add (λ (row : Row). count_per row.per default links ranges pairs ns) (λ (row : Row). for_net default links n row.per) rows
      ∙ ap (λ m. by_rows ns + m) (each-kind default links n.id n.interfaces n.routes n.kind))

  by_rows-is : (ns : List Network) → by_rows ns ≡ sum_by (of_net default links) ns + ranges + pairs + 2
  by_rows-is [] = omega arith
  by_rows-is (n ∷ ns) = omega (arith, by_rows-cons n ns, by_rows-is ns, sum_by-cons (of_net default links) n ns)

split-is : (links : ℕ) (ns : List Network) → sum_by (by_split links) ns ≡ virtuals ns * links
split-is links [] = omega arith
split-is links (n ∷ ns) =
    sum_by-cons (by_split links) n ns
    ∙ (ap₂ (λ (a b : ℕ). a + b) (one (is_virtual n.kind)) (split-is links ns)
    ∙ (both (cond (is_virtual n.kind) 1 0) (virtuals ns) ∙ ap (λ m. m * links) (sym (sum_by-cons (λ (m : Network). cond (is_virtual m.kind) 1 0) n ns))))
  where
    one : (b : Bool) → (if b then links else 0) ≡ cond b 1 0 * links
    one true = omega arith
    one false = omega arith

    both : (a b : ℕ) → a * links + b * links ≡ (a + b) * links
    both a b = grind arith

-- only one network is the default one

module _ (default : Option ℕ) where
  abbrev is_it : Network → Bool
  is_it n = (class_of n.kind == 1) && is_default default n.id

  -- where one has the id, no other has
  none_after : (n : Network) (ns : List Network) → is_it n ≡ true → list_any (λ i. i == n.id) (map (λ m. m.id) ns) ≡ false → sum_by (by_default default) ns ≡ 0
  none_after n [] here absent = refl
  none_after n (m ∷ ms) here absent =
      let parts = or_parts (m.id == n.id) (list_any (λ i. i == n.id) (map (λ o. o.id) ms)) absent in
      let other : is_default default m.id ≡ false = by default (and_parts (class_of n.kind == 1) (is_default default n.id) here).1 parts.0 in
      sum_by-cons (by_default default) m ms ∙ ap₂ (λ (a b : ℕ). a + b) (zero (class_of m.kind == 1) (is_default default m.id) other) (none_after n ms here parts.1)
    where
      by : (o : Option ℕ) → is_default o n.id ≡ true → (m.id == n.id) ≡ false → is_default o m.id ≡ false
      by None is apart = refl
      by (Some id) is apart = ap (λ i. i == m.id) (eqb-true id n.id is) ∙ unlike-sym m.id n.id apart

      zero : (a b : Bool) → b ≡ false → (if a && b then length m.interfaces else 0) ≡ 0
      zero true b h = rw h refl
      zero false b h = refl

  default-is : (ns : List Network) → AreKeyed ns → sum_by (by_default default) ns ≡ length (links_of (default_among ns default))
  default-is [] keyed = refl
  default-is (n ∷ ns) keyed =
      let parts = and_parts (not (list_any (λ i. i == n.id) (map (λ m. m.id) ns))) (are_distinct (map (λ m. m.id) ns)) keyed in
      sum_by-cons (by_default default) n ns ∙ elim (cases_Bool (is_it n)) as (λ _. by_default default n + sum_by (by_default default) ns ≡ length (links_of (default_among (n ∷ ns) default))) [
        | inl e ↦ rw e (omega (arith, none_after n ns e (not-true _ parts.0)))
        | inr e ↦ rw e (omega (arith, default-is ns parts.1))
      ]

pub count-tallied : (s : StateView) → AreKeyed s.networks → count_by_rows s ≡ tallied s
count-tallied s keyed =
    by_rows-is s.default (default_links s) (length s.lockdown) (length s.pairs) s.networks
    ∙ total (sum_by (of_net s.default (default_links s)) s.networks) (own_rules s.networks) (virtuals s.networks) (default_links s) (length s.lockdown) (length s.pairs) parts
  where
    parts : sum_by (of_net s.default (default_links s)) s.networks ≡ own_rules s.networks + virtuals s.networks * default_links s + default_links s
    parts =
        sum-add (λ n. own n + by_split (default_links s) n) (by_default s.default) s.networks
        ∙ ap₂ (λ (a b : ℕ). a + b) (sum-add own (by_split (default_links s)) s.networks ∙ ap (λ m. own_rules s.networks + m) (split-is (default_links s) s.networks)) (default-is s.default s.networks keyed)

    total : (all own vpns links ranges pairs : ℕ) → all ≡ own + vpns * links + links → all + ranges + pairs + 2 ≡ rules_in_all own vpns links ranges pairs
    total all own vpns links ranges pairs is = grind arith
