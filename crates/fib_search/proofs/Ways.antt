-- The way to a prefix.
use Rattle.std.proofs.Common.{◌≡◌, ℕ, ◌<◌, ◌⊎◌, List, Option, Some, None, refl, sym, ◌∙◌, subst, inl, inr}
use Rattle.std.specs.Bool.{IsTrue}
use Rattle.std.proofs.lemmas.Option.{none-some, same_Some}
use Rattle.prefixes.specs.Prefix.{covers}
use Rattle.prefixes.specs.declared.prefix.Prefix.{Prefix}
use Rattle.fib_search.specs.Node.{TrieNode, node_at, child, bit_at}
use Rattle.fib_search.specs.Trie.{LeadsTo, Leads, ends, goes_on}

-- on from a node
pub record OnwardTo (nodes : List (Option TrieNode)) (p : Prefix) (goal : ℕ) (node : TrieNode) : Type 0 where
  pub longer : node.prefix.len < p.len
  pub within : IsTrue (covers node.prefix p.base)
  pub next : ℕ
  pub by : child node (bit_at p.base node.prefix.len) ≡ Some next
  pub rest : LeadsTo nodes p goal next

pub record Onward (nodes : List (Option TrieNode)) (p : Prefix) (node : TrieNode) : Type 0 where
  pub longer : node.prefix.len < p.len
  pub within : IsTrue (covers node.prefix p.base)
  pub next : ℕ
  pub by : child node (bit_at p.base node.prefix.len) ≡ Some next
  pub rest : Leads nodes p next

pub leads_to_from : (nodes : List (Option TrieNode)) (p : Prefix) (goal place : ℕ) (node : TrieNode) → LeadsTo nodes p goal place → node_at nodes place ≡ Some node
    → ((goal ≡ place) × (node.prefix ≡ p)) ⊎ OnwardTo nodes p goal node
leads_to_from nodes p goal _ node (ends m at is) stands = inl (refl, subst (λ (x : TrieNode). x.prefix ≡ p) (same_Some m node (sym at ∙ stands)) is)
leads_to_from nodes p goal _ node (goes_on place m at longer within next by rest) stands =
    inr (subst (OnwardTo nodes p goal) (same_Some m node (sym at ∙ stands)) (record { longer = longer; within = within; next = next; by = by; rest = rest }))

pub leads_from : (nodes : List (Option TrieNode)) (p : Prefix) (place : ℕ) (node : TrieNode) → Leads nodes p place → node_at nodes place ≡ Some node
    → (node.prefix ≡ p) ⊎ Onward nodes p node
leads_from nodes p place node way stands = elim (leads_to_from nodes p way.0 place node way.1 stands) as (λ _. (node.prefix ≡ p) ⊎ Onward nodes p node) [
  | inl here ↦ inl here.1
  | inr on ↦ inr (record { longer = on.longer; within = on.within; next = on.next; by = on.by; rest = (way.0, on.rest) })
]

-- the node here, on the way
pub record Starts (nodes : List (Option TrieNode)) (p : Prefix) (place : ℕ) : Type 0 where
  pub node : TrieNode
  pub stands : node_at nodes place ≡ Some node

pub leads_to_starts : (nodes : List (Option TrieNode)) (p : Prefix) (goal place : ℕ) → LeadsTo nodes p goal place → Starts nodes p place
leads_to_starts nodes p goal _ (ends m at is) = record { node = m; stands = at }
leads_to_starts nodes p goal _ (goes_on place m at longer within next by rest) = record { node = m; stands = at }

pub leads_nowhere : (nodes : List (Option TrieNode)) (p : Prefix) (place : ℕ) → Leads nodes p place → node_at nodes place ≡ None → ⊥
leads_nowhere nodes p place way none = let here = leads_to_starts nodes p way.0 place way.1 in none-some here.node (sym none ∙ here.stands)
