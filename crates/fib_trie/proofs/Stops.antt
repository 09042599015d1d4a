-- The last place on the way to a prefix.
use Rattle.std.proofs.Common.{◌≡◌, ◌≢◌, ℕ, ◌-◌, ◌/◌, ◌^◌, ◌<◌, ◌≤◌, nat_lt, true, not, List, [], ◌∷◌, Option, Some, None, refl, sym, ◌∙◌, ap, subst, arith, inl, inr}
use Rattle.std.specs.Bool.{IsTrue}
use Rattle.std.specs.Option.{option_map, option_and_then}
use Rattle.std.proofs.Math.Nat.{div-eq_of_lt}
use Rattle.std.proofs.lemmas.Nat.{pow_pos}
use Rattle.std.proofs.lemmas.Bool.{cases_Bool, ltb-true, ltb-false, and_parts, not-true, false≢true}
use Rattle.std.proofs.lemmas.Option.{none-some, same_Some}
use Rattle.prefixes.specs.Addr.{family_of, width_of, value_of, first_bits, IsAddr}
use Rattle.prefixes.specs.Prefix.{covers}
use Rattle.prefixes.specs.declared.addr.Addr.{Addr}
use Rattle.prefixes.specs.declared.addr.Addr.TheVariants as addr
use Rattle.prefixes.specs.declared.addr.Family.{Family}
use Rattle.prefixes.specs.declared.addr.Family.TheVariants as family
use Rattle.prefixes.specs.declared.prefix.Prefix.{Prefix}
use Rattle.prefixes.specs.declared.route.Route.{Route}
use Rattle.fib_trie.specs.declared.branch.Branch.{Branch}
use Rattle.fib_search.specs.Node.{TrieNode, node_at, pick, bit_at, root_of, level_of}
use Rattle.fib_search.specs.Trie.{IsTrie, IsRoot}
use Rattle.fib_trie.specs.Ways.{starts, steps, IsOn, IsStop}
use Rattle.fib_trie.specs.Branches.{node_of, nodes_of, leads_on, kept_on, step_from, step_to}
use Rattle.route_chains.specs.Places.{held}
use Rattle.fib_search.proofs.Bits.{Alike-covers, width-family}
use Rattle.fib_trie.proofs.Shapes.{node_at-nodes_of, of_node}
use Rattle.fib_search.proofs.Going.{level}

pub at_branch : (rs : List Route) (bs : List (Option Branch)) (place : ℕ) (b : Branch) → held bs place ≡ Some b → node_at (nodes_of rs bs) place ≡ Some (node_of rs b)
at_branch rs bs place b at = node_at-nodes_of rs bs place ∙ ap (option_map (node_of rs)) at

pub level_branch : (bs : List (Option Branch)) (place : ℕ) (b : Branch) → held bs place ≡ Some b → level (nodes_of [] bs) place ≡ b.prefix.len
level_branch bs place b at = ap level_of (at_branch [] bs place b at)

-- a prefix without bits covers every address of its family
root_covers : (p : Prefix) (base a : Addr) → p.base ≡ base → p.len ≡ 0 → value_of base ≡ 0 → family_of base ≡ family_of a → IsAddr a → IsTrue (covers p a)
root_covers p base a is short none same fits =
    let w : width_of base ≡ width_of a = width-family base a same in
    Alike-covers p a (record {
      family = ap family_of is ∙ same;
      bits = ap (first_bits p.base) short ∙ ap (λ x. first_bits x 0) is ∙ ap (λ v. v / 2 ^ (width_of base - 0)) none ∙ zero_first (width_of base) ∙ sym (div-eq_of_lt (below fits)) ∙ ap (first_bits a) (sym short);
    })
  where
    zero_first : (w : ℕ) → 0 / 2 ^ (w - 0) ≡ 0
    zero_first w = div-eq_of_lt (pow_pos (w - 0))

    sub_none : (n : ℕ) → n ≡ n - 0
    sub_none n = omega arith

    below : value_of a < 2 ^ width_of a → value_of a < 2 ^ (width_of a - 0)
    below h = subst (λ n. value_of a < 2 ^ n) (sub_none (width_of a)) h

pub on_root : (bs : List (Option Branch)) → IsTrie (nodes_of [] bs) [] → bs ≢ [] → (p : Prefix) → IsAddr p.base → IsOn bs p (root_of (family_of p.base))
on_root bs trie some p fits = elim trie.rooted as (λ _. IsOn bs p (root_of (family_of p.base))) [
  | inl none ↦ absurd (some (empty bs none))
  | inr both ↦ of (family_of p.base) refl both
]
  where
    empty : (bs : List (Option Branch)) → nodes_of [] bs ≡ [] → bs ≡ []
    empty [] none = refl
    empty (b ∷ bs) none = cc

    from : (f : Family) (base : Addr) → family_of p.base ≡ f → family_of base ≡ f → value_of base ≡ 0 → IsRoot (nodes_of [] bs) (root_of f) base → IsOn bs p (root_of (family_of p.base))
    from f base is of none root =
        let o = of_node [] bs (root_of f) root.node root.stands in
        let same : root.node.prefix ≡ o.branch.prefix = ap (λ (n : TrieNode). n.prefix) o.is in
        let short : o.branch.prefix.len ≡ 0 = ap (λ (q : Prefix). q.len) (sym same) ∙ root.short in
        record {
          branch = o.branch;
          stands = ap (λ g. held bs (root_of g)) is ∙ o.stands;
          short = omega (arith, short);
          within = root_covers o.branch.prefix base p.base (ap (λ (q : Prefix). q.base) (sym same) ∙ root.from) short none (of ∙ sym is) fits;
          way = starts;
        }

    of : (f : Family) → family_of p.base ≡ f → IsRoot (nodes_of [] bs) 0 (addr.V4 0) × IsRoot (nodes_of [] bs) 1 (addr.V6 0) → IsOn bs p (root_of (family_of p.base))
    of family.V4 is both = from family.V4 (addr.V4 0) is refl refl both.0
    of family.V6 is both = from family.V6 (addr.V6 0) is refl refl both.1

-- a step on
pub record Stepped (bs : List (Option Branch)) (p : Prefix) (here : Branch) (next : ℕ) : Type 0 where
  pub longer : here.prefix.len < p.len
  pub by : pick (bit_at p.base here.prefix.len) here.zero here.one ≡ Some next
  pub below : Branch
  pub stands : held bs next ≡ Some below
  pub within : IsTrue (covers below.prefix p.base)
  pub short : below.prefix.len ≤ p.len

kept_is : (bs : List (Option Branch)) (p : Prefix) (o : Option ℕ) (next : ℕ) → kept_on bs p o ≡ Some next → (o ≡ Some next) × (leads_on (held bs next) p ≡ true)
kept_is bs p None next is = absurd (none-some next is)
kept_is bs p (Some c) next is = elim (cases_Bool (leads_on (held bs c) p)) as (λ _. (Some c ≡ Some next) × (leads_on (held bs next) p ≡ true)) [
  | inl on ↦ let e : c ≡ next = same_Some c next (rw on at is) in (ap Some e, ap (λ x. leads_on (held bs x) p) (sym e) ∙ on)
  | inr off ↦ absurd (none-some next (rw off at is))
]

pub stepped : (bs : List (Option Branch)) (p : Prefix) (here : Branch) (next : ℕ) → step_from bs p here ≡ Some next → Stepped bs p here next
stepped bs p here next is = elim (cases_Bool (nat_lt here.prefix.len p.len)) as (λ _. Stepped bs p here next) [
  | inl less ↦
      let kept = kept_is bs p (pick (bit_at p.base here.prefix.len) here.zero here.one) next (rw less at is) in
      of (held bs next) refl kept.1 (ltb-true here.prefix.len p.len less) kept.0
  | inr more ↦ absurd (none-some next (rw more at is))
]
  where
    of : (o : Option Branch) → held bs next ≡ o → leads_on o p ≡ true → here.prefix.len < p.len → pick (bit_at p.base here.prefix.len) here.zero here.one ≡ Some next → Stepped bs p here next
    of None at on less by = absurd (false≢true on)
    of (Some x) at on less by =
        let parts = and_parts (covers x.prefix p.base) (not (nat_lt p.len x.prefix.len)) on in
        record { longer = less; by = by; below = x; stands = at; within = parts.0; short = ltb-false p.len x.prefix.len (not-true (nat_lt p.len x.prefix.len) parts.1) }

module _ (bs : List (Option Branch)) (trie : IsTrie (nodes_of [] bs) []) (p : Prefix) (place : ℕ) (on : IsOn bs p place) where
  pub step_is : step_to bs p place ≡ step_from bs p on.branch
  step_is = ap (option_and_then (step_from bs p)) on.stands

  pub on_next : (next : ℕ) → step_to bs p place ≡ Some next → IsOn bs p next
  on_next next is =
      let s = stepped bs p on.branch next (sym step_is ∙ is) in
      record {
        branch = s.below;
        stands = s.stands;
        short = s.short;
        within = s.within;
        way = steps place (node_of [] on.branch) on.way (at_branch [] bs place on.branch on.stands) s.longer on.within next s.by;
      }

  pub on_longer : (next : ℕ) → step_to bs p place ≡ Some next → level (nodes_of [] bs) place < level (nodes_of [] bs) next
  on_longer next is =
      let s = stepped bs p on.branch next (sym step_is ∙ is) in
      let kid = trie.children place (node_of [] on.branch) (bit_at p.base on.branch.prefix.len) next (at_branch [] bs place on.branch on.stands) s.by in
      let longer = kid.longer in
      omega (arith, level_branch bs place on.branch on.stands, longer, ap level_of kid.stands)

  pub on_within : level (nodes_of [] bs) place ≤ width_of p.base
  on_within =
      let short = on.short in
      let within = p.is_prefix.0 in
      omega (arith, level_branch bs place on.branch on.stands, short, within)

  pub on_stop : step_to bs p place ≡ None → IsStop bs p place
  on_stop none = record { on = on; last = sym step_is ∙ none }
