-- Going to the node above another.
use Rattle.std.proofs.Common.{◌≡◌, ℕ, ◌<◌, ◌-◌, List, [], Option, Some, None, sym, ◌∙◌, ap, subst, arith, inl, inr}
use Rattle.std.specs.Bool.{IsTrue}
use Rattle.std.proofs.lemmas.Option.{none-some, same_Some}
use Rattle.prefixes.specs.Addr.{width_of}
use Rattle.prefixes.specs.Prefix.{covers}
use Rattle.prefixes.specs.declared.prefix.Prefix.{Prefix}
use Rattle.fib_search.specs.Node.{pick, bit_at, level_of}
use Rattle.fib_search.specs.Trie.{LeadsTo, IsTrie}
use Rattle.fib_search.proofs.Bits.{width-most}
use Rattle.fib_search.proofs.Going.{level}
use Rattle.fib_search.proofs.Ways.{OnwardTo, leads_to_from, leads_to_starts}
use Rattle.route_chains.specs.Places.{held}
use Rattle.fib_trie.specs.declared.branch.Branch.{Branch}
use Rattle.fib_trie.specs.Branches.{node_of, nodes_of}
use Rattle.fib_trie.proofs.Shapes.{of_node}
use Rattle.fib_trie.proofs.Stops.{at_branch, level_branch}

module _ (bs : List (Option Branch)) (p : Prefix) (place here : ℕ) (lead : LeadsTo (nodes_of [] bs) p place here) where
  pub up_stands : held bs here ≡ None → ⊥
  up_stands none =
      let starts = leads_to_starts (nodes_of [] bs) p place here lead in
      let o = of_node [] bs here starts.node starts.stands in
      none-some o.branch (sym none ∙ o.stands)

  module _ (apart : here ≡ place → ⊥) (b : Branch) (at : held bs here ≡ Some b) where
    on : OnwardTo (nodes_of [] bs) p place (node_of [] b)
    on = elim (leads_to_from (nodes_of [] bs) p place here (node_of [] b) lead (at_branch [] bs here b at)) as (λ _. OnwardTo (nodes_of [] bs) p place (node_of [] b)) [
      | inl same ↦ absurd (apart (sym same.0))
      | inr ahead ↦ ahead
    ]

    pub up_shorter : b.prefix.len < p.len
    up_shorter = on.longer

    pub up_within : IsTrue (covers b.prefix p.base)
    up_within = on.within

    pub up_fits : b.prefix.len < width_of p.base
    up_fits = let less = up_shorter in let within = p.is_prefix.0 in omega (arith, less, within)

    pub up_some : pick (bit_at p.base b.prefix.len) b.zero b.one ≡ None → ⊥
    up_some none = none-some on.next (sym none ∙ on.by)

    pub up_next : (next : ℕ) → pick (bit_at p.base b.prefix.len) b.zero b.one ≡ Some next → LeadsTo (nodes_of [] bs) p place next
    up_next next by = subst (LeadsTo (nodes_of [] bs) p place) (same_Some on.next next (sym on.by ∙ by)) on.rest

    pub up_deeper : IsTrie (nodes_of [] bs) [] → (next : ℕ) → pick (bit_at p.base b.prefix.len) b.zero b.one ≡ Some next → 129 - level (nodes_of [] bs) next < 129 - level (nodes_of [] bs) here
    up_deeper trie next by =
        let kid = trie.children here (node_of [] b) (bit_at p.base b.prefix.len) next (at_branch [] bs here b at) by in
        let longer = kid.longer in
        let less = up_shorter in
        let within = p.is_prefix.0 in
        omega (arith, longer, less, within, width-most p.base, level_branch bs here b at, ap level_of kid.stands)
