-- The table has as many rules as the lengths say.
use Rattle.std.proofs.lemmas.Option.{slice_get_within, get_or_from_slice_get}
use Rattle.std.proofs.lemmas.List.Sums.{sum_by_more}
use Rattle.std.proofs.Common.{Some, slice_get, take, ◌<◌, ◌≡◌, ◌∙◌, ℕ, ◌+◌, ◌*◌, suc, Bool, true, false, List, [], ◌∷◌, length, map, refl, sym, ap, ap₂, inl, inr, arith, leb}
use Rattle.std.specs.Prelude.{flat_map, sum_by, if◌then◌else◌}
use Rattle.std.proofs.lemmas.Bool.{cases_Bool}
use Rattle.std.proofs.lemmas.List.{length-append, length-map}
use Rattle.std.proofs.lemmas.List.Sums.{sum_by-cons}
use Rattle.rule_law.specs.Rules.{Kind}
use Rattle.rule_kinds.specs.Kind.{rule_kind}
use Rattle.policy_state.specs.View.{Network, StateView}
use Rattle.policy_state.specs.Rows.{Item, Row, NetworkPart, Whole, EachInterface, EachRange, EachDefault, OnePer, Once, EachLockdown, EachPair, EachOf, items, items_in, items_at, picks, ranges_of, links_of, needs_of, default_of, link_item, user_item, split_item, range_item, pair_item}
use Rattle.policy_state.specs.Table.{put, in_order, rule_of, rules_in, rows, table_by_rows}
use Rattle.policy_state.specs.Counts.{count_in, count_at, count_of, count_by_rows}

length-flat : {A B : Type 0} (f : A → List B) (count : A → ℕ) (xs : List A) → ((x : A) → length (f x) ≡ count x) → length (flat_map f xs) ≡ sum_by count xs
length-flat f count [] each = refl
length-flat f count (x ∷ xs) each = length-append (f x) (flat_map f xs) ∙ (ap₂ (λ (m n : ℕ). m + n) (each x) (length-flat f count xs each) ∙ sym (sum_by-cons count x xs))

sum-same : {A : Type 0} (count : ℕ) (xs : List A) → sum_by (λ x. count) xs ≡ length xs * count
sum-same count [] = omega arith
sum-same count (x ∷ xs) = sum_by-cons (λ x. count) x xs ∙ (ap (λ n. count + n) (sum-same count xs) ∙ more count (length xs))
  where
    more : (c n : ℕ) → c + n * c ≡ suc n * c
    more c n = grind arith

length-put : {R : Type 0} (k : Kind R) (x : R) (xs : List R) → length (put k x xs) ≡ suc (length xs)
length-put k x [] = refl
length-put k x (y ∷ ys) = elim (cases_Bool (leb (k.priority x) (k.priority y))) [ inl e ↦ rw e refl | inr e ↦ rw e (ap suc (length-put k x ys)) ]

length-order : {R : Type 0} (k : Kind R) (xs : List R) → length (in_order k xs) ≡ length xs
length-order k [] = refl
length-order k (x ∷ xs) = length-put k x (in_order k xs) ∙ ap suc (length-order k xs)

module _ (s : StateView) where
  net-items : (spread : NetworkPart) (n : Network) → length (items_in spread (default_of s) n) ≡ count_in spread (length (links_of (default_of s))) n
  net-items Whole n = refl
  net-items EachInterface n = length-map n.interfaces (link_item n)
  net-items EachRange n = length-flat (λ link. map (user_item n link) (ranges_of n.kind)) (λ link. length (ranges_of n.kind)) n.interfaces (λ link. length-map (ranges_of n.kind) (user_item n link)) ∙ sum-same (length (ranges_of n.kind)) n.interfaces
  net-items EachDefault n = length-map (links_of (default_of s)) (split_item n (needs_of (default_of s)))

  tested : (b : Bool) (xs : List Item) → length (if b then xs else []) ≡ (if b then length xs else 0)
  tested true xs = refl
  tested false xs = refl

  row-items : (per : OnePer) → length (items per s) ≡ count_of per s
  row-items Once = refl
  row-items EachLockdown = length-map s.lockdown range_item
  row-items EachPair = length-map s.pairs pair_item
  row-items (EachOf pick spread) = length-flat (items_at pick spread s.default (default_of s)) (count_at pick spread s.default (length (links_of (default_of s)))) s.networks
      (λ n. tested (picks pick s.default n) (items_in spread (default_of s) n) ∙ ap (λ m. if picks pick s.default n then m else 0) (net-items spread n))

  pub table-count : length (table_by_rows s) ≡ count_by_rows s
  table-count = length-order rule_kind (flat_map (rules_in s) rows) ∙ length-flat (rules_in s) (λ (row : Row). count_of row.per s) rows (λ row. length-map (items row.per s) (rule_of row) ∙ row-items row.per)

-- one more item of a sum
pub sum-more : {N : Type 0} (f : N → ℕ) (items : List N) (place : ℕ) (item : N) → slice_get items place ≡ Some item
    → sum_by f (take (place + 1) items) ≡ sum_by f (take place items) + f item
sum-more f items place item h =
    let within : place < length items = slice_get_within items place item h in
    sum_by_more f items place item within ∙ ap (λ n. sum_by f (take place items) + f n) (get_or_from_slice_get items place item item h)
