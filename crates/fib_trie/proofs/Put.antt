-- At the last place on the way.
use Rattle.std.proofs.Common.{◌≡◌, ℕ, ◌+◌, ◌*◌, ◌/◌, ◌%◌, ◌^◌, ◌-◌, ◌<◌, ◌≤◌, false, List, [], Option, Some, None, sym, ◌∙◌, ap, subst, arith, inl, inr}
use Rattle.std.specs.Bool.{IsTrue, if◌then◌else◌}
use Rattle.std.proofs.lemmas.Bool.{cases_Bool, lt-ltb}
use Rattle.std.proofs.Math.Nat.{div-add-mod}
use Rattle.std.specs.Option.{option_map}
use Rattle.std.proofs.lemmas.Option.{none-some, same_Some}
use Rattle.prefixes.specs.Addr.{family_of, width_of, value_of}
use Rattle.prefixes.specs.Prefix.{covers}
use Rattle.prefixes.proofs.Sames.{prefix_is}
use Rattle.prefixes.specs.declared.addr.Addr.{Addr}
use Rattle.prefixes.specs.declared.addr.Addr.TheVariants as addr
use Rattle.prefixes.specs.declared.prefix.Prefix.{Prefix}
use Rattle.fib_trie.specs.declared.branch.Branch.{Branch}
use Rattle.fib_search.specs.Node.{pick, bit_at}
use Rattle.fib_search.specs.Trie.{LeadsTo, IsTrie, ends}
use Rattle.fib_trie.specs.Ways.{IsStop}
use Rattle.fib_trie.specs.Made.{IsMade, IsAbove}
use Rattle.fib_trie.specs.Branches.{node_of, nodes_of, leads_on, kept_on, step_from}
use Rattle.route_chains.specs.Places.{held}
use Rattle.fib_search.proofs.Bits.{covers-Alike, width-family}
use Rattle.fib_trie.proofs.Shapes.{of_node}
use Rattle.fib_trie.proofs.Stops.{at_branch}
use Rattle.fib_trie.proofs.Joins.{leads_by}

addr_is : (a b : Addr) → family_of a ≡ family_of b → value_of a ≡ value_of b → a ≡ b
addr_is (addr.V4 v) (addr.V4 u) same value = ap addr.V4 value
addr_is (addr.V6 v) (addr.V6 u) same value = ap addr.V6 value
addr_is (addr.V4 v) (addr.V6 u) same value = cc
addr_is (addr.V6 v) (addr.V4 u) same value = cc

whole : (v u m : ℕ) → v / m ≡ u / m → v % m ≡ 0 → u % m ≡ 0 → v ≡ u
whole v u m same none none' = sym (div-add-mod v m) ∙ ap (λ x. m * (v / m) + x) none ∙ ap (λ x. m * x + 0) same ∙ ap (λ x. m * (u / m) + x) (sym none') ∙ div-add-mod u m

-- two prefixes of one length, of which one covers the other's base, are one
pub covers-same : (p q : Prefix) → IsTrue (covers p q.base) → p.len ≡ q.len → p ≡ q
covers-same p q cover same =
    let alike = covers-Alike p q.base cover in
    let w : width_of p.base ≡ width_of q.base = width-family p.base q.base alike.family in
    let bits : value_of p.base / 2 ^ (width_of q.base - q.len) ≡ value_of q.base / 2 ^ (width_of q.base - q.len) =
    ap (λ x. value_of p.base / 2 ^ (x - q.len)) (sym w) ∙ ap (λ x. value_of p.base / 2 ^ (width_of p.base - x)) (sym same) ∙ alike.bits ∙ ap (λ x. value_of q.base / 2 ^ (width_of q.base - x)) same in
    let none : value_of p.base % 2 ^ (width_of q.base - q.len) ≡ 0 = ap (λ x. value_of p.base % 2 ^ (x - q.len)) (sym w) ∙ ap (λ x. value_of p.base % 2 ^ (width_of p.base - x)) (sym same) ∙ p.is_prefix.1 in
    prefix_is p q (addr_is p.base q.base alike.family (whole (value_of p.base) (value_of q.base) (2 ^ (width_of q.base - q.len)) bits none q.is_prefix.1)) same

module _ (bs : List (Option Branch)) (p : Prefix) (here : ℕ) (b : Branch) (stop : IsStop bs p here) (stands : held bs here ≡ Some b) where
  branch_is : stop.on.branch ≡ b
  branch_is = same_Some stop.on.branch b (sym stop.on.stands ∙ stands)

  within_here : IsTrue (covers b.prefix p.base)
  within_here = subst (λ (x : Branch). IsTrue (covers x.prefix p.base)) branch_is stop.on.within

  pub above_of : b.prefix.len < p.len → IsAbove bs here b p
  above_of longer = record { stands = stands; longer = longer; within = within_here; way = stop.on.way }

  pub off_of : b.prefix.len < p.len → (next : ℕ) (x : Branch) → pick (bit_at p.base b.prefix.len) b.zero b.one ≡ Some next → held bs next ≡ Some x → leads_on (Some x) p ≡ false
  off_of longer next x by at =
      let last : step_from bs p b ≡ None = subst (λ (y : Branch). step_from bs p y ≡ None) branch_is stop.last in
      let kept : kept_on bs p (pick (bit_at p.base b.prefix.len) b.zero b.one) ≡ None = rw (lt-ltb b.prefix.len p.len longer) at last in
      let follows : kept_on bs p (Some next) ≡ None = subst (λ o. kept_on bs p o ≡ None) by kept in
      let mine : (if leads_on (Some x) p then Some next else None) ≡ None = subst (λ o. (if leads_on o p then Some next else None) ≡ None) at follows in
      elim (cases_Bool (leads_on (Some x) p)) as (λ _. leads_on (Some x) p ≡ false) [
        | inl on ↦ absurd (none-some next (sym (rw on at mine)))
        | inr off ↦ off
      ]

  -- the prefix is there
  pub made_here : p.len ≤ b.prefix.len → IsMade bs bs p here
  made_here more =
      let short : b.prefix.len ≤ p.len = subst (λ (x : Branch). x.prefix.len ≤ p.len) branch_is stop.on.short in
      let lead : LeadsTo (nodes_of [] bs) p here here = ends (node_of [] b) (at_branch [] bs here b stands) (covers-same b.prefix p within_here (omega (arith, more, short))) in
      record {
        keeps = λ rs trie. trie;
        leads = leads_by (nodes_of [] bs) (nodes_of [] bs) here (λ j n _ at. at) p here lead here stop.on.way lead;
        reaches = λ trie reached. reached;
        stays = λ j x at. ap (option_map (λ (y : Branch). y.prefix)) at;
      }

  -- a child stands
  pub child_stands : IsTrie (nodes_of [] bs) [] → (next : ℕ) → pick (bit_at p.base b.prefix.len) b.zero b.one ≡ Some next → held bs next ≡ None → ⊥
  child_stands trie next by none =
      let kid = trie.children here (node_of [] b) (bit_at p.base b.prefix.len) next (at_branch [] bs here b stands) by in
      let o = of_node [] bs next kid.below kid.stands in
      none-some o.branch (sym none ∙ o.stands)

pub stop_stands : (bs : List (Option Branch)) (p : Prefix) (here : ℕ) → IsStop bs p here → held bs here ≡ None → ⊥
stop_stands bs p here stop none = none-some stop.on.branch (sym none ∙ stop.on.stands)
