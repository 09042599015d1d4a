-- A prefix and the child that it doesn't lead on by.
use Rattle.std.proofs.Common.{◌≡◌, ◌≢◌, ℕ, ◌+◌, ◌<◌, ◌≤◌, nat_lt, true, false, List, [], Option, Some, sym, ◌∙◌, ap, subst, arith, inl, inr}
use Rattle.std.specs.Bool.{IsTrue, if◌then◌else◌}
use Rattle.std.proofs.lemmas.Bool.{cases_Bool, ltb-true, ltb-false, cases_lt, and_from, both_ways, le-ltb, not_from_false}
use Rattle.std.proofs.lemmas.Option.{same_Some}
use Rattle.prefixes.specs.Prefix.{covers}
use Rattle.prefixes.specs.declared.prefix.Prefix.{Prefix}
use Rattle.fib_trie.specs.declared.branch.Branch.{Branch}
use Rattle.fib_search.specs.Alike.{IsAlike as Alike}
use Rattle.fib_search.specs.Node.{TrieNode, bit_at}
use Rattle.fib_search.specs.Trie.{IsTrie, IsChild}
use Rattle.fib_trie.specs.Made.{IsAbove, IsBelow, IsFork}
use Rattle.fib_trie.specs.Branches.{node_of, nodes_of, leads_on}
use Rattle.fib_search.proofs.Bits.{Alike-sym, Alike-trans, Alike-more, Alike-covers, covers-Alike}
use Rattle.fib_trie.proofs.Stops.{at_branch}

module _ (bs : List (Option Branch)) (trie : IsTrie (nodes_of [] bs) []) (here : ℕ) (b : Branch) (p : Prefix) (above : IsAbove bs here b p) (next : ℕ) (x : Branch) (under : IsBelow bs b p next x) where
  kid : IsChild (nodes_of [] bs) (node_of [] b) (bit_at p.base b.prefix.len) next
  kid = trie.children here (node_of [] b) (bit_at p.base b.prefix.len) next (at_branch [] bs here b above.stands) under.by

  kid_is : kid.below ≡ node_of [] x
  kid_is = same_Some kid.below (node_of [] x) (sym kid.stands ∙ at_branch [] bs next x under.stands)

  pub child_longer : b.prefix.len < x.prefix.len
  child_longer = subst (λ (n : TrieNode). b.prefix.len < n.prefix.len) kid_is kid.longer

  pub from_alike : Alike p.base x.prefix.base (b.prefix.len + 1)
  from_alike =
      let one = covers-Alike b.prefix p.base above.within in
      let other = covers-Alike b.prefix x.prefix.base (subst (λ (n : TrieNode). IsTrue (covers b.prefix n.prefix.base)) kid_is kid.within) in
      let bit : bit_at x.prefix.base b.prefix.len ≡ bit_at p.base b.prefix.len = ap (λ (n : TrieNode). bit_at n.prefix.base b.prefix.len) (sym kid_is) ∙ kid.next in
      let longer = above.longer in
      let within = p.is_prefix.0 in
      Alike-more p.base x.prefix.base b.prefix.len (omega (arith, longer, within)) (Alike-trans p.base b.prefix.base x.prefix.base b.prefix.len (Alike-sym b.prefix.base p.base b.prefix.len one) other) (sym bit)

-- a child that covers the prefix and isn't longer leads on
on_by : (p : Prefix) (x : Branch) → Alike p.base x.prefix.base x.prefix.len → x.prefix.len ≤ p.len → leads_on (Some x) p ≡ true
on_by p x alike short =
    and_from _ _ (Alike-covers x.prefix p.base (Alike-sym p.base x.prefix.base x.prefix.len alike)) (not_from_false _ (le-ltb p.len x.prefix.len short))

pub over_shorter : (p : Prefix) (x : Branch) → leads_on (Some x) p ≡ false → Alike p.base x.prefix.base p.len → p.len ≤ x.prefix.len → p.len < x.prefix.len
over_shorter p x off alike le = elim (cases_lt p.len x.prefix.len) as (λ _. p.len < x.prefix.len) [
  | inl less ↦ less
  | inr more ↦
      let same : p.len ≡ x.prefix.len = omega (arith, le, more) in
      absurd (both_ways (leads_on (Some x) p) off (on_by p x (subst (Alike p.base x.prefix.base) same alike) more))
]

pub fork_shorter : (p : Prefix) (x : Branch) (len : ℕ) → leads_on (Some x) p ≡ false → Alike p.base x.prefix.base len → len ≤ x.prefix.len → len < p.len → len < x.prefix.len
fork_shorter p x len off alike le less = elim (cases_lt len x.prefix.len) as (λ _. len < x.prefix.len) [
  | inl shorter ↦ shorter
  | inr more ↦
      let same : len ≡ x.prefix.len = omega (arith, le, more) in
      absurd (both_ways (leads_on (Some x) p) off (on_by p x (subst (Alike p.base x.prefix.base) same alike) (omega (arith, same, less))))
]

pub forked : (p : Prefix) (x : Branch) (fork : Prefix) (len : ℕ) → fork.len ≡ len → Alike fork.base p.base len → Alike p.base x.prefix.base len → len < p.len → len < x.prefix.len
    → bit_at p.base len ≢ bit_at x.prefix.base len → IsFork fork p x.prefix
forked p x fork len is one other less less_other apart = record {
  covers_one = Alike-covers fork p.base (subst (Alike fork.base p.base) (sym is) one);
  covers_other = Alike-covers fork x.prefix.base (subst (Alike fork.base x.prefix.base) (sym is) (Alike-trans fork.base p.base x.prefix.base len one other));
  shorter = subst (λ n. n < p.len) (sym is) less;
  shorter_other = subst (λ n. n < x.prefix.len) (sym is) less_other;
  apart = subst (λ n. bit_at p.base n ≢ bit_at x.prefix.base n) (sym is) apart;
}

pub within_least : (n a b : ℕ) → n < a → n < b → n + 1 ≤ (if nat_lt a b then a else b)
within_least n a b one other = elim (cases_Bool (nat_lt a b)) as (λ _. n + 1 ≤ (if nat_lt a b then a else b)) [
  | inl less ↦ rw less (omega arith)
  | inr more ↦ rw more (omega arith)
]

pub least_one : (a b : ℕ) → (if nat_lt a b then a else b) ≤ a
least_one a b = elim (cases_Bool (nat_lt a b)) as (λ _. (if nat_lt a b then a else b) ≤ a) [
  | inl less ↦ rw less (omega arith)
  | inr more ↦ rw more (ltb-false a b more)
]

pub least_other : (a b : ℕ) → (if nat_lt a b then a else b) ≤ b
least_other a b = elim (cases_Bool (nat_lt a b)) as (λ _. (if nat_lt a b then a else b) ≤ b) [
  | inl less ↦ rw less (let h = ltb-true a b less in omega (arith, h))
  | inr more ↦ rw more (omega arith)
]

-- where the common bits end before the limit, or at it
pub least_which : (a b n : ℕ) → n < a → n < b → n < (if nat_lt a b then a else b)
least_which a b n one other = elim (cases_Bool (nat_lt a b)) as (λ _. n < (if nat_lt a b then a else b)) [
  | inl less ↦ rw less one
  | inr more ↦ rw more other
]
