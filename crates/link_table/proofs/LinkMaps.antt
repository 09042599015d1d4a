-- Links with one more and one fewer are still apart, and found by name and by index.
use Rattle.std.proofs.Common.{◌≡◌, ℕ, ◌==◌, ◌<◌, ◌||◌, Bool, true, false, cond, not, List, [], ◌∷◌, ◌++◌, filter, Some, None, is_some, refl, sym, ap, subst, ◌∙◌, arith, nat_eq, vec_len, vec_capacity, inl, inr}
use Rattle.std.specs.List.{list_any, list_all}
use Rattle.std.specs.Map.{lookup}
use Rattle.std.specs.Str.{bytes_eq}
use Rattle.std.specs.declared.vec.Vec.{Vec}
use Rattle.std.proofs.lemmas.Bool.{cases_Bool, and_parts, or_parts, or_from, not-true, both_ways, false_from_ne_true, eqb-true}
use Rattle.std.proofs.lemmas.Option.{none-some, same_Some}
use Rattle.std.proofs.lemmas.Slice.Eq.{bytes_eq-Decides}
use Rattle.indexmap.specs.IndexMap.{IndexMap, spare}
use Rattle.list_lemmas.proofs.Anys.{filter-others}
use Rattle.list_lemmas.proofs.Found.{found-push, found-filter, nat-Decides, some-any}
use Rattle.list_lemmas.proofs.Numbers.{eqb-refl, unlike-sym}
use Rattle.list_lemmas.proofs.Pairs.{pairwise-filter, pairwise-push}
use Rattle.link_table.specs.Links.{index_of, name_of, is_taken, clash, are_apart}
use Rattle.link_table.specs.Table.{room_of, AreIndexed}
use Rattle.link_table.specs.declared.link.Link.{Link}

pub room-each : {A S T : Type 0} (links : Vec Link A) (names : IndexMap (List ℕ) ℕ S) (indices : IndexMap ℕ (List ℕ) T) → 0 < room_of links names indices
    → (vec_len links < vec_capacity links) × (0 < spare names) × (0 < spare indices)
room-each links names indices room = (omega (arith, room), omega (arith, room), omega (arith, room))

pub none-either : (p q : Link → Bool) (ls : List Link) → list_any (λ l. p l || q l) ls ≡ false → (list_any p ls ≡ false) × (list_any q ls ≡ false)
none-either p q [] none = (refl, refl)
none-either p q (l ∷ ls) none =
    let parts = or_parts (p l || q l) (list_any (λ m. p m || q m) ls) none in
    let here = or_parts (p l) (q l) parts.0 in
    let rest = none-either p q ls parts.1 in
    (or_from _ _ here.0 rest.0, or_from _ _ here.1 rest.1)

pub indexed-add : (links : List Link) (names names' : List (List ℕ × ℕ)) (indices indices' : List (ℕ × List ℕ)) (link : Link) → AreIndexed links names indices
    → is_taken link.name link.index links ≡ false
    → ((q : List ℕ) → lookup (bytes_eq q) names' ≡ cond (bytes_eq link.name q) (Some link.index) (lookup (bytes_eq q) names))
    → ((q : ℕ) → lookup (nat_eq q) indices' ≡ cond (nat_eq link.index q) (Some link.name) (lookup (nat_eq q) indices))
    → AreIndexed (links ++ link ∷ []) names' indices'
indexed-add links names names' indices indices' link old fresh put_name put_index =
    let two = none-either (λ l. bytes_eq l.name link.name) (λ l. l.index == link.index) links fresh in
    record {
      by_name = λ q. put_name q ∙ ap (λ r. cond (bytes_eq link.name q) (Some link.index) r) (old.by_name q) ∙ sym (found-push bytes_eq bytes_eq-Decides (λ (l : Link). l.name) (λ l. l.index) q links link two.0);
      by_index = λ q. put_index q ∙ ap (λ r. cond (nat_eq link.index q) (Some link.name) r) (old.by_index q) ∙ sym (found-push nat_eq nat-Decides (λ (l : Link). l.index) (λ l. l.name) q links link two.1);
      apart = pairwise-push clash links link old.apart fresh;
    }

bytes-turned : (a b : List ℕ) → bytes_eq a b ≡ false → bytes_eq b a ≡ false
bytes-turned a b unlike = false_from_ne_true (bytes_eq b a) (λ h. both_ways (bytes_eq a b) unlike ((bytes_eq-Decides a b).1 (sym ((bytes_eq-Decides b a).0 h))))

-- no link of the list has the name or the index of one that clashes with none
others : (l : Link) (ls : List Link) → list_all (λ m. not (clash l m)) ls ≡ true → (list_any (λ m. bytes_eq m.name l.name) ls ≡ false) × (list_any (λ m. m.index == l.index) ls ≡ false)
others l [] apart = (refl, refl)
others l (m ∷ ms) apart =
    let parts = and_parts (not (clash l m)) (list_all (λ k. not (clash l k)) ms) apart in
    let here = or_parts (bytes_eq l.name m.name) (l.index == m.index) (not-true _ parts.0) in
    let rest = others l ms parts.1 in
    (or_from _ _ (bytes-turned l.name m.name here.0) rest.0, or_from _ _ (unlike-sym l.index m.index here.1) rest.1)

index-there : (name : List ℕ) (index : ℕ) (ls : List Link) → index_of name ls ≡ Some index → list_any (λ l. l.index == index) ls ≡ true
index-there name index [] is = absurd (none-some index is)
index-there name index (l ∷ ls) is = elim (cases_Bool (bytes_eq l.name name)) as (λ _. list_any (λ l. l.index == index) (l ∷ ls) ≡ true) [
  | inl e ↦ let at : l.index ≡ index = same_Some l.index index (rw e at is) in rw (at, eqb-refl index) refl
  | inr e ↦ elim (cases_Bool (l.index == index)) as (λ _. list_any (λ l. l.index == index) (l ∷ ls) ≡ true) [
    | inl t ↦ rw t refl
    | inr t ↦ rw t (index-there name index ls (rw e at is))
  ]
]

-- the link of the name is the link of the index
pub gone-alike : (name : List ℕ) (index : ℕ) (ls : List Link) → are_apart ls ≡ true → index_of name ls ≡ Some index
    → filter (λ l. not (l.index == index)) ls ≡ filter (λ l. not (bytes_eq l.name name)) ls
gone-alike name index [] apart is = refl
gone-alike name index (l ∷ ls) apart is =
    let Goal : Type 0 = filter (λ l. not (l.index == index)) (l ∷ ls) ≡ filter (λ l. not (bytes_eq l.name name)) (l ∷ ls) in
    let parts = and_parts (list_all (λ m. not (clash l m)) ls) (are_apart ls) apart in
    let rest = others l ls parts.0 in
    elim (cases_Bool (bytes_eq l.name name)) as (λ _. Goal) [
      | inl e ↦
          let at : l.index ≡ index = same_Some l.index index (rw e at is) in
          let named : l.name ≡ name = (bytes_eq-Decides l.name name).0 e in
          let no_index : list_any (λ m. m.index == index) ls ≡ false = subst (λ i. list_any (λ m. m.index == i) ls ≡ false) at rest.1 in
          let no_name : list_any (λ m. bytes_eq m.name name) ls ≡ false = subst (λ n. list_any (λ m. bytes_eq m.name n) ls ≡ false) named rest.0 in
          let same_index : (l.index == index) ≡ true = ap (λ i. i == index) at ∙ eqb-refl index in
          rw (e, same_index) (filter-others (λ m. m.index == index) ls no_index ∙ sym (filter-others (λ m. bytes_eq m.name name) ls no_name))
      | inr e ↦
          let later : index_of name ls ≡ Some index = rw e at is in
          let other : (l.index == index) ≡ false =
          false_from_ne_true (l.index == index) (λ h. both_ways (list_any (λ m. m.index == index) ls) (subst (λ i. list_any (λ m. m.index == i) ls ≡ false) (eqb-true l.index index h) rest.1) (index-there name index ls later)) in
          rw (e, other) (ap (λ ms. l ∷ ms) (gone-alike name index ls parts.1 later))
    ]

pub indexed-remove : (links : List Link) (names names' : List (List ℕ × ℕ)) (indices indices' : List (ℕ × List ℕ)) (name : List ℕ) (index : ℕ) → AreIndexed links names indices
    → index_of name links ≡ Some index
    → ((q : List ℕ) → lookup (bytes_eq q) names' ≡ cond (bytes_eq name q) None (lookup (bytes_eq q) names))
    → ((q : ℕ) → lookup (nat_eq q) indices' ≡ cond (nat_eq index q) None (lookup (nat_eq q) indices))
    → AreIndexed (filter (λ l. not (bytes_eq l.name name)) links) names' indices'
indexed-remove links names names' indices indices' name index old is take_name take_index =
    record {
      by_name = λ q. take_name q ∙ ap (λ r. cond (bytes_eq name q) None r) (old.by_name q) ∙ sym (found-filter bytes_eq bytes_eq-Decides (λ (l : Link). l.name) (λ l. l.index) q name links);
      by_index = λ q.
          take_index q ∙ ap (λ r. cond (nat_eq index q) None r) (old.by_index q) ∙ sym (found-filter nat_eq nat-Decides (λ (l : Link). l.index) (λ l. l.name) q index links)
          ∙ ap (λ ls. name_of q ls) (gone-alike name index links old.apart is);
      apart = pairwise-filter (λ a b. not (clash a b)) (λ l. not (bytes_eq l.name name)) links old.apart;
    }

-- a name that no link has takes nothing out
pub remove-none : (name : List ℕ) (ls : List Link) → index_of name ls ≡ None → ls ≡ filter (λ l. not (bytes_eq l.name name)) ls
remove-none name ls none = sym (filter-others (λ l. bytes_eq l.name name) ls (sym (some-any (λ l. bytes_eq l.name name) (λ l. l.index) ls) ∙ ap is_some none))
