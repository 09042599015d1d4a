-- The links of a state, with one more and one fewer.
use Rattle.std.proofs.Common.{◌≡◌, ℕ, ◌≤◌, ◌<◌, ◌==◌, ◌||◌, Bool, true, false, not, List, [], ◌∷◌, ◌++◌, map, filter, length, Option, Some, None, codes, refl, sym, ap, subst, ◌∙◌, arith, inl, inr}
use Rattle.std.specs.List.{list_any, find, AllByRecursion}
use Rattle.std.specs.Option.{option_map}
use Rattle.std.specs.Str.{bytes_eq}
use Rattle.std.proofs.lemmas.Bool.{cases_Bool, and_parts, or_left, or_right, not-true, both_ways, eq-eqb, eqb-true, false_from_ne_true}
use Rattle.std.proofs.lemmas.List.{map-append, length-append}
use Rattle.std.proofs.lemmas.Option.{none-some, same_Some}
use Rattle.std.proofs.lemmas.Slice.Eq.{bytes_eq-Decides}
use Rattle.policy_state.proofs.Lists.{are_names_distinct-push, are_names_distinct-filter, names_unlike-sym}
use Rattle.networks.proofs.Distinct.{are_distinct-push, are_distinct-filter}
use Rattle.list_lemmas.proofs.Alls.{all-push, all-filter}
use Rattle.list_lemmas.proofs.Anys.{any-map, length-filter-le, filter-others}
use Rattle.networks.specs.Lists.{are_distinct}
use Rattle.policy_state.specs.Good.{AreLinks, are_names_distinct, most_links}
use Rattle.link_table.specs.declared.link.Link.{Link}
use Rattle.link_table.proofs.LinkMaps.{none-either}

pub links-add : (ls : List Link) (name : List ℕ) (index : ℕ) → AreLinks ls → 2 ≤ index → index < 65536
    → list_any (λ l. bytes_eq l.name name || l.index == index) ls ≡ false → length ls < most_links → AreLinks (ls ++ record { name = name; index = index } ∷ [])
links-add ls name index good least most free room =
    let more : Link = record { name = name; index = index } in
    let two = none-either (λ l. bytes_eq l.name name) (λ l. l.index == index) ls free in
    record {
      others = good.others ++ more ∷ [];
      loopback_first = ap (λ l. l ++ more ∷ []) good.loopback_first;
      from_two = all-push (λ l. (2 ≤ l.index) × (l.index < 65536)) good.others more good.from_two (least, most);
      names_distinct = are_names_distinct-push ls more good.names_distinct two.0;
      indices_distinct = subst (λ is. are_distinct is ≡ true) (sym (map-append (λ l. l.index) ls (more ∷ [])))
          (are_distinct-push (map (λ l. l.index) ls) index good.indices_distinct (any-map (λ l. l.index) (λ m. m == index) ls ∙ two.1));
      few = omega (arith, length-append ls (more ∷ []), room);
    }

pub links-remove : (ls : List Link) (name : List ℕ) → AreLinks ls → bytes_eq name (codes "lo") ≡ false → AreLinks (filter (λ l. not (bytes_eq l.name name)) ls)
links-remove ls name good not_lo =
    let stays : Link → Bool = λ l. not (bytes_eq l.name name) in
    let first : bytes_eq (codes "lo") name ≡ false = names_unlike-sym name (codes "lo") not_lo in
    record {
      others = filter stays good.others;
      loopback_first = ap (filter stays) good.loopback_first ∙ rw first refl;
      from_two = all-filter (λ l. (2 ≤ l.index) × (l.index < 65536)) stays good.others good.from_two;
      names_distinct = are_names_distinct-filter stays ls good.names_distinct;
      indices_distinct = are_distinct-filter (λ l. l.index) stays ls good.indices_distinct;
      few = omega (arith, length-filter-le stays ls, good.few);
    }

-- an index that a link has stays that of a link where another one goes
pub index_kept : (name : List ℕ) (gone i : ℕ) (ls : List Link) → are_names_distinct ls ≡ true → option_map (λ l. l.index) (find (λ l. bytes_eq l.name name) ls) ≡ Some gone
    → (i == gone) ≡ false → list_any (λ l. l.index == i) ls ≡ true → list_any (λ l. l.index == i) (filter (λ l. not (bytes_eq l.name name)) ls) ≡ true
index_kept name gone i [] distinct named other there = there
index_kept name gone i (l ∷ ls) distinct named other there =
    let parts = and_parts (not (list_any (λ m. bytes_eq m.name l.name) ls)) (are_names_distinct ls) distinct in
    elim (cases_Bool (bytes_eq l.name name)) as (λ _. list_any (λ m. m.index == i) (filter (λ m. not (bytes_eq m.name name)) (l ∷ ls)) ≡ true) [
      | inl here ↦
          let is : Some l.index ≡ Some gone = rw here at named in
          let index : l.index ≡ gone = same_Some l.index gone is in
          let unlike : (l.index == i) ≡ false = false_from_ne_true (l.index == i) (λ same. both_ways (i == gone) other (eq-eqb i gone (sym (eqb-true l.index i same) ∙ index))) in
          let rest : list_any (λ m. m.index == i) ls ≡ true = rw unlike at there in
          let same_name : l.name ≡ name = (bytes_eq-Decides l.name name).0 here in
          let stay : filter (λ m. not (bytes_eq m.name name)) ls ≡ ls = filter-others (λ m. bytes_eq m.name name) ls (subst (λ n. list_any (λ m. bytes_eq m.name n) ls ≡ false) same_name (not-true _ parts.0)) in
          rw here (subst (λ k. list_any (λ m. m.index == i) k ≡ true) (sym stay) rest)
      | inr unnamed ↦
          rw unnamed (elim (cases_Bool (l.index == i)) as (λ _. ((l.index == i) || list_any (λ m. m.index == i) (filter (λ m. not (bytes_eq m.name name)) ls)) ≡ true) [
            | inl same ↦ or_left _ _ same
            | inr unlike ↦ or_right _ _ (index_kept name gone i ls parts.1 (rw unnamed at named) other (rw unlike at there))
          ])
    ]

-- the link that a name finds
pub link_at : (ls : List Link) (name : List ℕ) (link : ℕ) → option_map (λ l. l.index) (find (λ l. bytes_eq l.name name) ls) ≡ Some link → (l : Link) × ((find (λ m. bytes_eq m.name name) ls ≡ Some l) × (l.index ≡ link))
link_at ls name link h = by (find (λ l. bytes_eq l.name name) ls) refl h
  where
    by : (o : Option Link) → find (λ l. bytes_eq l.name name) ls ≡ o → option_map (λ (l : Link). l.index) o ≡ Some link → (l : Link) × ((find (λ m. bytes_eq m.name name) ls ≡ Some l) × (l.index ≡ link))
    by None is h = absurd (none-some link h)
    by (Some l) is h = (l, (is, same_Some l.index link h))

found_all : (P : Link → Type 0) (p : Link → Bool) (ls : List Link) (l : Link) → AllByRecursion P ls → find p ls ≡ Some l → P l
found_all P p [] l each found = absurd (none-some l found)
found_all P p (k ∷ ls) l each found = elim (cases_Bool (p k)) as (λ _. P l) [
  | inl here ↦ let both : Some k ≡ Some l = rw here at found in subst P (same_Some k l both) each.0
  | inr other ↦ found_all P p ls l each.1 (rw other at found)
]

found_any : (p q : Link → Bool) (ls : List Link) (l : Link) → find p ls ≡ Some l → q l ≡ true → list_any q ls ≡ true
found_any p q [] l found passes = absurd (none-some l found)
found_any p q (k ∷ ls) l found passes = elim (cases_Bool (p k)) as (λ _. (q k || list_any q ls) ≡ true) [
  | inl here ↦ let both : Some k ≡ Some l = rw here at found in or_left (q k) (list_any q ls) (ap q (same_Some k l both) ∙ passes)
  | inr other ↦ or_right (q k) (list_any q ls) (found_any p q ls l (rw other at found) passes)
]

-- a link that a name other than `lo` finds may be an interface
pub may_be_interface : (ls : List Link) (name : List ℕ) (link : ℕ) → AreLinks ls → bytes_eq name (codes "lo") ≡ false
    → option_map (λ l. l.index) (find (λ l. bytes_eq l.name name) ls) ≡ Some link → (2 ≤ link) × (list_any (λ l. l.index == link) ls ≡ true)
may_be_interface ls name link good not_lo named =
    let at = link_at ls name link named in
    let first : bytes_eq (codes "lo") name ≡ false = names_unlike-sym name (codes "lo") not_lo in
    let behind : find (λ l. bytes_eq l.name name) good.others ≡ Some at.0 = rw first at (subst (λ l. find (λ m. bytes_eq m.name name) l ≡ Some at.0) good.loopback_first at.1.0) in
    let bounds : (2 ≤ at.0.index) × (at.0.index < 65536) = found_all (λ l. (2 ≤ l.index) × (l.index < 65536)) (λ l. bytes_eq l.name name) good.others at.0 good.from_two behind in
    (subst (λ i. 2 ≤ i) at.1.1 bounds.0, found_any (λ l. bytes_eq l.name name) (λ l. l.index == link) ls at.0 at.1.0 (eq-eqb at.0.index link at.1.1))
