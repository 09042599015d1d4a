-- Lists of links in which no name stands twice: one more, and some fewer.
use Rattle.std.proofs.Common.{◌≡◌, ℕ, Bool, true, false, cond, not, List, [], ◌∷◌, ◌++◌, filter, refl, sym}
use Rattle.std.specs.List.{list_any}
use Rattle.std.specs.Str.{bytes_eq}
use Rattle.std.proofs.lemmas.Bool.{and_from, and_parts, or_parts, not-true, not_from_false, both_ways, false_from_ne_true}
use Rattle.std.proofs.lemmas.Slice.Eq.{bytes_eq-Decides}
use Rattle.list_lemmas.proofs.Anys.{none-push, none-filter}
use Rattle.policy_state.specs.Good.{are_names_distinct}
use Rattle.link_table.specs.declared.link.Link.{Link}

pub names_unlike-sym : (a b : List ℕ) → bytes_eq a b ≡ false → bytes_eq b a ≡ false
names_unlike-sym a b unlike =
    false_from_ne_true (bytes_eq b a) (λ same. both_ways (bytes_eq a b) unlike ((bytes_eq-Decides a b).1 (sym ((bytes_eq-Decides b a).0 same))))

pub are_names_distinct-push : (ls : List Link) (l : Link) → are_names_distinct ls ≡ true → list_any (λ m. bytes_eq m.name l.name) ls ≡ false → are_names_distinct (ls ++ l ∷ []) ≡ true
are_names_distinct-push [] l distinct absent = refl
are_names_distinct-push (k ∷ ls) l distinct absent =
    let parts = and_parts (not (list_any (λ m. bytes_eq m.name k.name) ls)) (are_names_distinct ls) distinct in
    let others = or_parts (bytes_eq k.name l.name) (list_any (λ m. bytes_eq m.name l.name) ls) absent in
    and_from _ _ (not_from_false _ (none-push (λ m. bytes_eq m.name k.name) ls l (not-true _ parts.0) (names_unlike-sym k.name l.name others.0))) (are_names_distinct-push ls l parts.1 others.1)

pub are_names_distinct-filter : (q : Link → Bool) (ls : List Link) → are_names_distinct ls ≡ true → are_names_distinct (filter q ls) ≡ true
are_names_distinct-filter q [] distinct = refl
are_names_distinct-filter q (l ∷ ls) distinct =
    let parts = and_parts (not (list_any (λ m. bytes_eq m.name l.name) ls)) (are_names_distinct ls) distinct in
    kept (q l) (are_names_distinct-filter q ls parts.1) (none-filter (λ m. bytes_eq m.name l.name) q ls (not-true _ parts.0))
  where
    kept : (b : Bool) → are_names_distinct (filter q ls) ≡ true → list_any (λ m. bytes_eq m.name l.name) (filter q ls) ≡ false → are_names_distinct (cond b (l ∷ filter q ls) (filter q ls)) ≡ true
    kept true rest absent = and_from _ _ (not_from_false _ absent) rest
    kept false rest absent = rest
