-- Going down: what is known at each node.
use Rattle.std.proofs.Common.{◌≡◌, ℕ, ◌+◌, ◌<◌, ◌≤◌, ◌⊎◌, nat_lt, Bool, true, List, [], ◌∷◌, Option, Some, None, refl, sym, ◌∙◌, ap, subst, arith, inl, inr}
use Rattle.std.specs.Bool.{IsTrue, IsFalse}
use Rattle.std.specs.List.{All}
use Rattle.std.proofs.lemmas.Bool.{cases_Bool, cases_lt, lt-ltb, le-ltb, both_ways, and_parts}
use Rattle.std.proofs.lemmas.Option.{none-some, same_Some}
use Rattle.std.proofs.lemmas.List.Elements.{All-weaker}
use Rattle.prefixes.specs.Addr.{family_of, width_of}
use Rattle.prefixes.specs.Prefix.{covers}
use Rattle.prefixes.specs.Route.{fits}
use Rattle.prefixes.specs.Best.{best}
use Rattle.prefixes.specs.declared.addr.Addr.{Addr}
use Rattle.prefixes.specs.declared.addr.Addr.TheVariants as addr
use Rattle.prefixes.specs.declared.addr.Family.{Family}
use Rattle.prefixes.specs.declared.addr.Family.TheVariants as family
use Rattle.prefixes.specs.declared.prefix.Prefix.{Prefix}
use Rattle.prefixes.specs.declared.route.Route.{Route}
use Rattle.fib_search.specs.Node.{TrieNode, node_at, child, bit_at, root_of, first_of, or_else, level_of, view_of, onward}
use Rattle.fib_search.specs.Trie.{Leads, IsTrie, IsChild, IsRoot}
use Rattle.fib_search.proofs.Bits.{covers-Alike, covers-trans, covers-bit, len-within, width-family}
use Rattle.fib_search.proofs.Ways.{Onward, leads_from, leads_nowhere}
use Rattle.fib_search.proofs.Down.{shorter, best-alike, best-node, filter-all}

abbrev pub level : List (Option TrieNode) → ℕ → ℕ
level nodes place = level_of (node_at nodes place)

-- found is the best of the routes that are shorter than the node here, and each of the others leads on from here
pub record Going (nodes : List (Option TrieNode)) (routes : List Route) (addr : Addr) (bound : Option ℕ) (place : ℕ) (found : Option Route) : Type 0 where
  pub so_far : found ≡ best (shorter (level nodes place) routes) addr bound
  pub ahead : All (λ r. IsTrue (covers r.prefix addr) → level nodes place ≤ r.prefix.len → Leads nodes r.prefix place) routes
  pub family : (node : TrieNode) → node_at nodes place ≡ Some node → family_of node.prefix.base ≡ family_of addr

module _ (routes : List Route) (addr : Addr) (bound : Option ℕ) where
  raise : (n m : ℕ) → n ≤ m → All (λ r. IsTrue (covers r.prefix addr) → n ≤ r.prefix.len → m ≤ r.prefix.len) routes
      → best (shorter n routes) addr bound ≡ best (shorter m routes) addr bound
  raise n m up none =
      best-alike addr bound (λ r. nat_lt r.prefix.len n) (λ r. nat_lt r.prefix.len m) routes
      (All-weaker (λ r. IsTrue (covers r.prefix addr) → n ≤ r.prefix.len → m ≤ r.prefix.len) (λ r. IsTrue (fits r addr bound) → nat_lt r.prefix.len n ≡ nat_lt r.prefix.len m)
      (λ r skips fit. elim (cases_lt r.prefix.len n) as (λ _. nat_lt r.prefix.len n ≡ nat_lt r.prefix.len m) [
        | inl less ↦ lt-ltb r.prefix.len n less ∙ sym (lt-ltb r.prefix.len m (omega arith))
        | inr more ↦ le-ltb r.prefix.len n more ∙ sym (le-ltb r.prefix.len m (skips (and_parts (covers r.prefix addr) _ fit).0 more))
      ]) routes none)

  finish : (n : ℕ) → All (λ r. IsTrue (covers r.prefix addr) → n ≤ r.prefix.len → ⊥) routes → best (shorter n routes) addr bound ≡ best routes addr bound
  finish n none =
      best-alike addr bound (λ r. nat_lt r.prefix.len n) (λ _. true) routes
      (All-weaker (λ r. IsTrue (covers r.prefix addr) → n ≤ r.prefix.len → ⊥) (λ r. IsTrue (fits r addr bound) → nat_lt r.prefix.len n ≡ true)
      (λ r never fit. elim (cases_lt r.prefix.len n) as (λ _. nat_lt r.prefix.len n ≡ true) [
        | inl less ↦ lt-ltb r.prefix.len n less
        | inr more ↦ absurd (never (and_parts (covers r.prefix addr) _ fit).0 more)
      ]) routes none)
      ∙ ap (λ rs. best rs addr bound) (filter-all addr bound routes)

shorter-none : (xs : List Route) → shorter 0 xs ≡ []
shorter-none [] = refl
shorter-none (x ∷ xs) = rw (le-ltb x.prefix.len 0 (omega arith)) (shorter-none xs)

pub record AtRoot (nodes : List (Option TrieNode)) (f : Family) : Type 0 where
  pub low : level nodes (root_of f) ≡ 0
  pub family : (node : TrieNode) → node_at nodes (root_of f) ≡ Some node → family_of node.prefix.base ≡ f

root_is : (nodes : List (Option TrieNode)) (f : Family) (base : Addr) → family_of base ≡ f → IsRoot nodes (root_of f) base → AtRoot nodes f
root_is nodes f base of root = record {
  low = ap level_of root.stands ∙ root.short;
  family = λ node at. ap (λ (n : TrieNode). family_of n.prefix.base) (same_Some node root.node (sym at ∙ root.stands)) ∙ ap family_of root.from ∙ of;
}

no_root : (f : Family) → AtRoot [] f
no_root f = record { low = refl; family = λ node at. absurd (none-some node at) }

pub at_root : (nodes : List (Option TrieNode)) (routes : List Route) → IsTrie nodes routes → (f : Family) → AtRoot nodes f
at_root nodes routes trie f = elim trie.rooted as (λ _. AtRoot nodes f) [
  | inl none ↦ subst (λ ns. AtRoot ns f) (sym none) (no_root f)
  | inr both ↦ of f both
]
  where
    of : (f : Family) → IsRoot nodes 0 (addr.V4 0) × IsRoot nodes 1 (addr.V6 0) → AtRoot nodes f
    of family.V4 both = root_is nodes family.V4 (addr.V4 0) refl both.0
    of family.V6 both = root_is nodes family.V6 (addr.V6 0) refl both.1

module _ (nodes : List (Option TrieNode)) (routes : List Route) (trie : IsTrie nodes routes) (addr : Addr) (bound : Option ℕ) where
  pub start : Going nodes routes addr bound (root_of (family_of addr)) None
  start =
      let root = at_root nodes routes trie (family_of addr) in
      record {
        so_far = sym (ap (λ n. best (shorter n routes) addr bound) root.low ∙ ap (λ rs. best rs addr bound) (shorter-none routes));
        ahead = All-weaker (λ r. Leads nodes r.prefix (root_of (family_of r.prefix.base))) (λ r. IsTrue (covers r.prefix addr) → level nodes (root_of (family_of addr)) ≤ r.prefix.len → Leads nodes r.prefix (root_of (family_of addr)))
            (λ r way cover _. subst (λ f. Leads nodes r.prefix (root_of f)) (covers-Alike r.prefix addr cover).family way) routes trie.found;
        family = root.family;
      }

  module _ (place : ℕ) (found : Option Route) (going : Going nodes routes addr bound place found) where
    abbrev Ahead : Route → Type 0
    Ahead r = IsTrue (covers r.prefix addr) → level nodes place ≤ r.prefix.len → Leads nodes r.prefix place

    pub level-within : level nodes place ≤ width_of addr
    level-within = of (node_at nodes place) refl
      where
        of : (o : Option TrieNode) → node_at nodes place ≡ o → level_of o ≤ width_of addr
        of None at = omega arith
        of (Some node) at = let within = node.prefix.is_prefix.0 in omega (arith, within, width-family node.prefix.base addr (going.family node at))

    -- there is no node here
    pub ended : node_at nodes place ≡ None → found ≡ best routes addr bound
    ended none = going.so_far ∙ finish routes addr bound (level nodes place)
        (All-weaker Ahead (λ r. IsTrue (covers r.prefix addr) → level nodes place ≤ r.prefix.len → ⊥) (λ r ahead cover more. leads_nowhere nodes r.prefix place (ahead cover more) none) routes going.ahead)

    module _ (node : TrieNode) (stands : node_at nodes place ≡ Some node) where
      level_is : level nodes place ≡ node.prefix.len
      level_is = ap level_of stands

      from : (r : Route) → Ahead r → IsTrue (covers r.prefix addr) → node.prefix.len ≤ r.prefix.len → (node.prefix ≡ r.prefix) ⊎ Onward nodes r.prefix node
      from r ahead cover more = leads_from nodes r.prefix place node (ahead cover (omega (arith, level_is, more))) stands

      -- the node here doesn't cover the address
      pub strayed : IsFalse (covers node.prefix addr) → found ≡ best routes addr bound
      strayed apart = going.so_far ∙ finish routes addr bound (level nodes place)
          (All-weaker Ahead (λ r. IsTrue (covers r.prefix addr) → level nodes place ≤ r.prefix.len → ⊥)
          (λ r ahead cover more. both_ways (covers node.prefix addr) apart
          (elim (from r ahead cover (omega (arith, level_is, more))) as (λ _. covers node.prefix addr ≡ true) [
            | inl same ↦ subst (λ p. covers p addr ≡ true) (sym same) cover
            | inr on ↦ let longer = on.longer in covers-trans node.prefix r.prefix addr (omega (arith, longer)) on.within cover
          ])) routes going.ahead)

      module _ (cover : IsTrue (covers node.prefix addr)) where
        abbrev Later : Route → Type 0
        Later r = IsTrue (covers r.prefix addr) → node.prefix.len + 1 ≤ r.prefix.len → Onward nodes r.prefix node

        later : All Later routes
        later = All-weaker Ahead Later
            (λ r ahead covered more. elim (from r ahead covered (omega (arith, more))) as (λ _. Onward nodes r.prefix node) [
              | inl same ↦ let e = ap (λ (q : Prefix). q.len) same in absurd (omega (arith, e, more))
              | inr on ↦ on
            ]) routes going.ahead

        met : or_else (first_of node.routes bound) found ≡ best (shorter (node.prefix.len + 1) routes) addr bound
        met =
            ap (λ o. or_else (first_of node.routes bound) o) (going.so_far ∙ ap (λ n. best (shorter n routes) addr bound) level_is)
            ∙ ap (λ rs. or_else (first_of rs bound) (best (shorter node.prefix.len routes) addr bound)) (trie.filed place node stands)
            ∙ sym (best-node addr bound node.prefix cover routes
            (All-weaker Ahead (λ r. IsTrue (fits r addr bound) → (r.prefix.len < node.prefix.len) ⊎ ((node.prefix ≡ r.prefix) ⊎ (node.prefix.len < r.prefix.len)))
            (λ r ahead fit. elim (cases_lt r.prefix.len node.prefix.len) as (λ _. (r.prefix.len < node.prefix.len) ⊎ ((node.prefix ≡ r.prefix) ⊎ (node.prefix.len < r.prefix.len))) [
              | inl less ↦ inl less
              | inr more ↦ elim (from r ahead (and_parts (covers r.prefix addr) _ fit).0 more) as (λ _. (r.prefix.len < node.prefix.len) ⊎ ((node.prefix ≡ r.prefix) ⊎ (node.prefix.len < r.prefix.len))) [
                | inl same ↦ inr (inl same)
                | inr on ↦ inr (inr on.longer)
              ]
            ]) routes going.ahead))

        -- the child that a later route leads on by
        by : (r : Route) → Later r → (covered : IsTrue (covers r.prefix addr)) → (more : node.prefix.len + 1 ≤ r.prefix.len) → (next : ℕ) × (onward (view_of bound node) addr ≡ Some next) × Leads nodes r.prefix next
        by r late covered more =
            let on = late covered more in
            let longer = on.longer in
            let within = len-within r.prefix addr covered in
            (on.next, rw (lt-ltb node.prefix.len (width_of addr) (omega (arith, longer, within))) (ap (child node) (sym (covers-bit r.prefix addr node.prefix.len longer covered)) ∙ on.by), on.rest)

        -- there is no way on
        pub done : onward (view_of bound node) addr ≡ None → or_else (first_of node.routes bound) found ≡ best routes addr bound
        done none = met ∙ finish routes addr bound (node.prefix.len + 1)
            (All-weaker Later (λ r. IsTrue (covers r.prefix addr) → node.prefix.len + 1 ≤ r.prefix.len → ⊥)
            (λ r late covered more. let way = by r late covered more in none-some way.0 (sym none ∙ way.1)) routes later)

        module _ (next : ℕ) (is : onward (view_of bound node) addr ≡ Some next) where
          is_child : (bit : Bool) × IsChild nodes node bit next
          is_child = elim (cases_Bool (nat_lt node.prefix.len (width_of addr))) as (λ _. (bit : Bool) × IsChild nodes node bit next) [
            | inl less ↦ (bit_at addr node.prefix.len, trie.children place node (bit_at addr node.prefix.len) next stands (rw less at is))
            | inr more ↦ absurd (none-some next (rw more at is))
          ]

          pub deeper : level nodes place < level nodes next
          deeper =
              let one = is_child.1 in
              let longer = one.longer in
              omega (arith, level_is, longer, ap level_of one.stands)

          -- on by the child
          pub down : Going nodes routes addr bound next (or_else (first_of node.routes bound) found)
          down =
              let one = is_child.1 in
              let longer = one.longer in
              let here : level nodes next ≡ one.below.prefix.len = ap level_of one.stands in
              let Next : Route → Type 0 = λ r. IsTrue (covers r.prefix addr) → node.prefix.len + 1 ≤ r.prefix.len → Leads nodes r.prefix next in
              let leads : All Next routes = All-weaker Later Next
              (λ r late covered more. let way = by r late covered more in subst (Leads nodes r.prefix) (same_Some way.0 next (sym way.1 ∙ is)) way.2) routes later in
              record {
                so_far = met ∙ raise routes addr bound (node.prefix.len + 1) (level nodes next) (omega (arith, here, longer))
                    (All-weaker Next (λ r. IsTrue (covers r.prefix addr) → node.prefix.len + 1 ≤ r.prefix.len → level nodes next ≤ r.prefix.len)
                    (λ r leads covered more. elim (leads_from nodes r.prefix next one.below (leads covered more) one.stands) as (λ _. level nodes next ≤ r.prefix.len) [
                      | inl same ↦ let e = ap (λ (q : Prefix). q.len) same in omega (arith, here, e)
                      | inr on ↦ let further = on.longer in omega (arith, here, further)
                    ]) routes leads);
                ahead = All-weaker Next (λ r. IsTrue (covers r.prefix addr) → level nodes next ≤ r.prefix.len → Leads nodes r.prefix next)
                    (λ r leads covered more. leads covered (omega (arith, here, longer, more))) routes leads;
                family = λ below at.
                    ap (λ (n : TrieNode). family_of n.prefix.base) (same_Some below one.below (sym at ∙ one.stands))
                    ∙ sym (covers-Alike node.prefix one.below.prefix.base one.within).family ∙ (covers-Alike node.prefix addr cover).family;
              }
