-- Nodes with the same prefixes and children.
use Rattle.std.proofs.Common.{◌≡◌, ℕ, zero, suc, ◌<◌, ◌⊎◌, Bool, List, [], ◌∷◌, Option, Some, None, refl, sym, ◌∙◌, ap, subst, inl, inr}
use Rattle.std.specs.Bool.{IsTrue}
use Rattle.std.specs.List.{All, filter}
use Rattle.std.specs.Option.{option_map}
use Rattle.std.proofs.lemmas.Option.{none-some, same_Some}
use Rattle.prefixes.specs.Addr.{family_of}
use Rattle.prefixes.specs.Prefix.{covers, same_prefix}
use Rattle.prefixes.specs.declared.addr.Addr.{Addr}
use Rattle.prefixes.specs.declared.addr.Addr.TheVariants as addr
use Rattle.prefixes.specs.declared.prefix.Prefix.{Prefix}
use Rattle.prefixes.specs.declared.route.Route.{Route}
use Rattle.fib_trie.specs.declared.branch.Branch.{Branch}
use Rattle.fib_search.specs.Node.{TrieNode, node_at, child, bit_at, root_of}
use Rattle.fib_search.specs.Trie.{LeadsTo, Leads, IsTrie, IsChild, IsRoot, ends, goes_on}
use Rattle.fib_trie.specs.Branches.{node_of, nodes_of}
use Rattle.route_chains.specs.Places.{held}

pub node_at-nodes_of : (rs : List Route) (bs : List (Option Branch)) (place : ℕ) → node_at (nodes_of rs bs) place ≡ option_map (node_of rs) (held bs place)
node_at-nodes_of rs [] place = refl
node_at-nodes_of rs (here ∷ bs) zero = refl
node_at-nodes_of rs (here ∷ bs) (suc place) = node_at-nodes_of rs bs place

-- a node at this place with this prefix and these children
pub record Twin (nodes : List (Option TrieNode)) (place : ℕ) (node : TrieNode) : Type 0 where
  pub twin : TrieNode
  pub stands : node_at nodes place ≡ Some twin
  pub prefix : twin.prefix ≡ node.prefix
  pub children : (bit : Bool) → child twin bit ≡ child node bit

abbrev pub Twins : List (Option TrieNode) → List (Option TrieNode) → Type 0
Twins nodes others = (place : ℕ) (node : TrieNode) → node_at nodes place ≡ Some node → Twin others place node

pub LeadsTo-twins : (nodes others : List (Option TrieNode)) → Twins nodes others → (p : Prefix) (goal place : ℕ) → LeadsTo nodes p goal place → LeadsTo others p goal place
LeadsTo-twins nodes others twins p goal _ (ends node at is) = let t = twins goal node at in ends t.twin t.stands (t.prefix ∙ is)
LeadsTo-twins nodes others twins p goal _ (goes_on place node at longer within next by rest) =
    let t = twins place node at in
    goes_on place t.twin t.stands (subst (λ (q : Prefix). q.len < p.len) (sym t.prefix) longer) (subst (λ q. IsTrue (covers q p.base)) (sym t.prefix) within)
    next (ap (λ (q : Prefix). child t.twin (bit_at p.base q.len)) t.prefix ∙ t.children (bit_at p.base node.prefix.len) ∙ by) (LeadsTo-twins nodes others twins p goal next rest)

pub Leads-twins : (nodes others : List (Option TrieNode)) → Twins nodes others → (p : Prefix) (place : ℕ) → Leads nodes p place → Leads others p place
Leads-twins nodes others twins p place way = (way.0, LeadsTo-twins nodes others twins p way.0 place way.1)

-- the place of a node is kept, with its prefix
pub record Stays (nodes : List (Option TrieNode)) (place : ℕ) (p : Prefix) : Type 0 where
  pub node : TrieNode
  pub stands : node_at nodes place ≡ Some node
  pub prefix : node.prefix ≡ p

pub IsChild-stays : (nodes others : List (Option TrieNode)) → ((place : ℕ) (node : TrieNode) → node_at nodes place ≡ Some node → Stays others place node.prefix)
    → (node other : TrieNode) → other.prefix ≡ node.prefix → (bit : Bool) (place : ℕ) → IsChild nodes node bit place → IsChild others other bit place
IsChild-stays nodes others stays node other same bit place is =
    let s = stays place is.below is.stands in
    record {
      below = s.node;
      stands = s.stands;
      longer = subst (λ (q : Prefix). other.prefix.len < q.len) (sym s.prefix) (subst (λ (q : Prefix). q.len < is.below.prefix.len) (sym same) is.longer);
      within = subst (λ (q : Prefix). IsTrue (covers other.prefix q.base)) (sym s.prefix) (subst (λ q. IsTrue (covers q is.below.prefix.base)) (sym same) is.within);
      next = ap (λ (q : Prefix). bit_at q.base other.prefix.len) s.prefix ∙ ap (λ (q : Prefix). bit_at is.below.prefix.base q.len) same ∙ is.next;
    }

IsRoot-stays : (nodes others : List (Option TrieNode)) → ((place : ℕ) (node : TrieNode) → node_at nodes place ≡ Some node → Stays others place node.prefix)
    → (place : ℕ) (base : Addr) → IsRoot nodes place base → IsRoot others place base
IsRoot-stays nodes others stays place base is =
    let s = stays place is.node is.stands in
    record { node = s.node; stands = s.stands; from = ap (λ (q : Prefix). q.base) s.prefix ∙ is.from; short = ap (λ (q : Prefix). q.len) s.prefix ∙ is.short }

pub rooted-stays : (nodes others : List (Option TrieNode)) → ((place : ℕ) (node : TrieNode) → node_at nodes place ≡ Some node → Stays others place node.prefix)
    → IsRoot nodes 0 (addr.V4 0) × IsRoot nodes 1 (addr.V6 0) → IsRoot others 0 (addr.V4 0) × IsRoot others 1 (addr.V6 0)
rooted-stays nodes others stays both = (IsRoot-stays nodes others stays 0 (addr.V4 0) both.0, IsRoot-stays nodes others stays 1 (addr.V6 0) both.1)

-- the branch of a node
pub record Of (rs : List Route) (bs : List (Option Branch)) (place : ℕ) (node : TrieNode) : Type 0 where
  pub branch : Branch
  pub stands : held bs place ≡ Some branch
  pub is : node ≡ node_of rs branch

pub of_node : (rs : List Route) (bs : List (Option Branch)) (place : ℕ) (node : TrieNode) → node_at (nodes_of rs bs) place ≡ Some node → Of rs bs place node
of_node rs bs place node at = of (held bs place) refl (sym (node_at-nodes_of rs bs place) ∙ at)
  where
    of : (o : Option Branch) → held bs place ≡ o → option_map (node_of rs) o ≡ Some node → Of rs bs place node
    of None here is = absurd (none-some node is)
    of (Some branch) here is = record { branch = branch; stands = here; is = sym (same_Some (node_of rs branch) node is) }

pub twins_of : (rs others : List Route) (bs : List (Option Branch)) → Twins (nodes_of rs bs) (nodes_of others bs)
twins_of rs others bs place node at =
    let o = of_node rs bs place node at in
    record {
      twin = node_of others o.branch;
      stands = node_at-nodes_of others bs place ∙ ap (option_map (node_of others)) o.stands;
      prefix = sym (ap (λ (n : TrieNode). n.prefix) o.is);
      children = λ bit. sym (ap (λ (n : TrieNode). child n bit) o.is);
    }

stays_of : (nodes others : List (Option TrieNode)) → Twins nodes others → (place : ℕ) (node : TrieNode) → node_at nodes place ≡ Some node → Stays others place node.prefix
stays_of nodes others twins place node at = let t = twins place node at in record { node = t.twin; stands = t.stands; prefix = t.prefix }

-- the same branches are the trie of any routes that they lead to
pub restated : (rs others : List Route) (bs : List (Option Branch)) → IsTrie (nodes_of rs bs) rs
    → All (λ r. Leads (nodes_of rs bs) r.prefix (root_of (family_of r.prefix.base))) others → IsTrie (nodes_of others bs) others
restated rs others bs trie lead = record {
  rooted = elim trie.rooted as (λ _. (nodes_of others bs ≡ []) ⊎ (IsRoot (nodes_of others bs) 0 (addr.V4 0) × IsRoot (nodes_of others bs) 1 (addr.V6 0))) [
    | inl none ↦ inl (empty bs none)
    | inr both ↦ inr (rooted-stays (nodes_of rs bs) (nodes_of others bs) (stays_of (nodes_of rs bs) (nodes_of others bs) (twins_of rs others bs)) both)
  ];
  children = λ place node bit below at by.
      let t = twins_of others rs bs place node at in
      IsChild-stays (nodes_of rs bs) (nodes_of others bs) (stays_of (nodes_of rs bs) (nodes_of others bs) (twins_of rs others bs)) t.twin node (sym t.prefix) bit below
      (trie.children place t.twin bit below t.stands (t.children bit ∙ by));
  filed = λ place node at. let o = of_node others bs place node at in
      ap (λ (n : TrieNode). n.routes) o.is ∙ ap (λ (n : TrieNode). filter (λ r. same_prefix r.prefix n.prefix) others) (sym o.is);
  found = λ k d within. Leads-twins (nodes_of rs bs) (nodes_of others bs) (twins_of rs others bs) _ _ (lead k d within);
}
  where
    empty : (bs : List (Option Branch)) → nodes_of rs bs ≡ [] → nodes_of others bs ≡ []
    empty [] none = refl
    empty (b ∷ bs) none = cc
