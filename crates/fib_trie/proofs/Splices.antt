-- A node put between a node and its child.
use Rattle.std.proofs.Common.{◌≡◌, ℕ, ◌<◌, ◌⊎◌, Bool, true, false, List, [], Option, Some, None, refl, sym, ◌∙◌, ap, subst, arith, inl, inr}
use Rattle.std.specs.Bool.{IsTrue}
use Rattle.std.specs.List.{filter}
use Rattle.std.proofs.lemmas.Bool.{cases_eq, both_ways}
use Rattle.std.proofs.lemmas.Option.{none-some, same_Some}
use Rattle.std.proofs.lemmas.List.Elements.{All-weaker}
use Rattle.prefixes.specs.Addr.{family_of}
use Rattle.prefixes.specs.Prefix.{covers, same_prefix}
use Rattle.prefixes.specs.declared.addr.Addr.TheVariants as addr
use Rattle.prefixes.specs.declared.prefix.Prefix.{Prefix}
use Rattle.prefixes.specs.declared.route.Route.{Route}
use Rattle.fib_search.specs.Node.{TrieNode, node_at, child, bit_at, root_of}
use Rattle.fib_search.specs.Trie.{LeadsTo, Leads, IsTrie, IsChild, IsRoot, ends, goes_on}
use Rattle.fib_search.proofs.Bits.{covers-trans, covers-bit}
use Rattle.fib_search.proofs.Ways.{leads_to_from}
use Rattle.fib_trie.proofs.Shapes.{Stays, IsChild-stays, rooted-stays}

-- A node `new` at an empty place goes between the node here and its child for a bit, if there is one.
pub record Spliced (nodes others : List (Option TrieNode)) (here : ℕ) (node : TrieNode) (bit : Bool) (place : ℕ) (new : TrieNode) : Type 0 where
  pub stands : node_at nodes here ≡ Some node
  pub free : node_at nodes place ≡ None
  pub changed : TrieNode
  pub stands_changed : node_at others here ≡ Some changed
  pub same_prefix : changed.prefix ≡ node.prefix
  pub same_routes : changed.routes ≡ node.routes
  pub to_new : child changed bit ≡ Some place
  pub other_child : (b : Bool) → (b ≡ bit → ⊥) → child changed b ≡ child node b
  pub stands_new : node_at others place ≡ Some new
  pub rest : (j : ℕ) → (j ≡ here → ⊥) → (j ≡ place → ⊥) → node_at others j ≡ node_at nodes j
  pub longer : node.prefix.len < new.prefix.len
  pub within : IsTrue (covers node.prefix new.prefix.base)
  pub next : bit_at new.prefix.base node.prefix.len ≡ bit
  pub children : (b : Bool) (c : ℕ) → child new b ≡ Some c → IsChild nodes new b c
  pub below : (c : ℕ) (x : TrieNode) → child node bit ≡ Some c → node_at nodes c ≡ Some x → child new (bit_at x.prefix.base new.prefix.len) ≡ Some c

module _ (nodes others : List (Option TrieNode)) (here : ℕ) (node : TrieNode) (bit : Bool) (place : ℕ) (new : TrieNode) (s : Spliced nodes others here node bit place new) where
  stays : (j : ℕ) (n : TrieNode) → node_at nodes j ≡ Some n → Stays others j n.prefix
  stays j n at = elim (cases_eq j here) as (λ _. Stays others j n.prefix) [
    | inl is ↦
        let e : n ≡ node = same_Some n node (sym at ∙ ap (node_at nodes) is ∙ s.stands) in
        record { node = s.changed; stands = ap (node_at others) is ∙ s.stands_changed; prefix = s.same_prefix ∙ sym (ap (λ (m : TrieNode). m.prefix) e) }
    | inr differs ↦ record { node = n; stands = s.rest j differs (λ is. none-some n (sym s.free ∙ ap (node_at nodes) (sym is) ∙ at)) ∙ at; prefix = refl }
  ]

  -- a way to a prefix goes on to lead there, now by the new node where it went by the child
  pub LeadsTo-spliced : ((j : ℕ) (n : TrieNode) (b : Bool) (c : ℕ) → node_at nodes j ≡ Some n → child n b ≡ Some c → IsChild nodes n b c) → (p : Prefix) (goal j : ℕ) → LeadsTo nodes p goal j → LeadsTo others p goal j
  LeadsTo-spliced kids p goal _ (ends n at is) = let t = stays goal n at in ends t.node t.stands (t.prefix ∙ is)
  LeadsTo-spliced kids p goal _ (goes_on j n at longer within next by rest) =
      let later = LeadsTo-spliced kids p goal next rest in
      elim (cases_eq j here) as (λ _. LeadsTo others p goal j) [
        | inl is ↦
            let e : n ≡ node = same_Some n node (sym at ∙ ap (node_at nodes) is ∙ s.stands) in
            let pe : n.prefix ≡ s.changed.prefix = ap (λ (m : TrieNode). m.prefix) e ∙ sym s.same_prefix in
            let longer' : s.changed.prefix.len < p.len = subst (λ (q : Prefix). q.len < p.len) pe longer in
            let within' : IsTrue (covers s.changed.prefix p.base) = subst (λ q. IsTrue (covers q p.base)) pe within in
            let by' : child node (bit_at p.base s.changed.prefix.len) ≡ Some next = ap (λ m. child m (bit_at p.base s.changed.prefix.len)) (sym e) ∙ ap (λ (q : Prefix). child n (bit_at p.base q.len)) (sym pe) ∙ by in
            subst (LeadsTo others p goal) (sym is)
            (elim (same_bit (bit_at p.base s.changed.prefix.len) bit) as (λ _. LeadsTo others p goal here) [
              | inl same ↦
                  let down : child node bit ≡ Some next = subst (λ b. child node b ≡ Some next) same by' in
                  goes_on here s.changed s.stands_changed longer' within' place (ap (child s.changed) same ∙ s.to_new) (by_new p goal next down rest later)
              | inr differs ↦ goes_on here s.changed s.stands_changed longer' within' next (s.other_child (bit_at p.base s.changed.prefix.len) differs ∙ by') later
            ])
        | inr differs ↦ goes_on j n (s.rest j differs (λ is. none-some n (sym s.free ∙ ap (node_at nodes) (sym is) ∙ at)) ∙ at) longer within next by later
      ]
    where
      same_bit : (a b : Bool) → (a ≡ b) ⊎ (a ≡ b → ⊥)
      same_bit true true = inl refl
      same_bit true false = inr (λ e. both_ways true e refl)
      same_bit false true = inr (λ e. both_ways true (sym e) refl)
      same_bit false false = inl refl

      by_new : (p : Prefix) (goal next : ℕ) → child node bit ≡ Some next → LeadsTo nodes p goal next → LeadsTo others p goal next → LeadsTo others p goal place
      by_new p goal next down rest later =
          let kid = kids here node bit next s.stands down in
          let to = s.below next kid.below down kid.stands in
          let one = s.children (bit_at kid.below.prefix.base new.prefix.len) next to in
          let x : one.below ≡ kid.below = same_Some one.below kid.below (sym one.stands ∙ kid.stands) in
          let long : new.prefix.len < kid.below.prefix.len = subst (λ (m : TrieNode). new.prefix.len < m.prefix.len) x one.longer in
          let in_new : IsTrue (covers new.prefix kid.below.prefix.base) = subst (λ (m : TrieNode). IsTrue (covers new.prefix m.prefix.base)) x one.within in
          elim (leads_to_from nodes p goal next kid.below rest kid.stands) as (λ _. LeadsTo others p goal place) [
            | inl is ↦
                goes_on place new s.stands_new (subst (λ (q : Prefix). new.prefix.len < q.len) is.1 long) (subst (λ (q : Prefix). IsTrue (covers new.prefix q.base)) is.1 in_new)
                next (subst (λ (q : Prefix). child new (bit_at q.base new.prefix.len) ≡ Some next) is.1 to) later
            | inr on ↦
                let further = on.longer in
                goes_on place new s.stands_new (omega (arith, long, further)) (covers-trans new.prefix kid.below.prefix p.base (omega (arith, long)) in_new on.within)
                next (ap (child new) (sym (covers-bit kid.below.prefix p.base new.prefix.len long on.within)) ∙ to) later
          ]

  -- the nodes are the trie of the same routes, none of which has exactly the new prefix
  pub splice_keeps : (routes : List Route) → IsTrie nodes routes → new.routes ≡ filter (λ r. same_prefix r.prefix new.prefix) routes → IsTrie others routes
  splice_keeps routes trie filed = record {
    rooted = elim trie.rooted as (λ _. (others ≡ []) ⊎ (IsRoot others 0 (addr.V4 0) × IsRoot others 1 (addr.V6 0))) [
      | inl none ↦ absurd (none-some node (sym (ap (λ ns. node_at ns here) none) ∙ s.stands))
      | inr both ↦ inr (rooted-stays nodes others stays both)
    ];
    children = kids;
    filed = files;
    found = All-weaker (λ r. Leads nodes r.prefix (root_of (family_of r.prefix.base))) (λ r. Leads others r.prefix (root_of (family_of r.prefix.base)))
        (λ r way. (way.0, LeadsTo-spliced trie.children r.prefix way.0 (root_of (family_of r.prefix.base)) way.1)) routes trie.found;
  }
    where
      where_is : (j : ℕ) (n : TrieNode) → node_at others j ≡ Some n → ((j ≡ here) × (n ≡ s.changed)) ⊎ (((j ≡ place) × (n ≡ new)) ⊎ (node_at nodes j ≡ Some n))
      where_is j n at = elim (cases_eq j here) as (λ _. ((j ≡ here) × (n ≡ s.changed)) ⊎ (((j ≡ place) × (n ≡ new)) ⊎ (node_at nodes j ≡ Some n))) [
        | inl is ↦ inl (is, same_Some n s.changed (sym at ∙ ap (node_at others) is ∙ s.stands_changed))
        | inr differs ↦ elim (cases_eq j place) as (λ _. ((j ≡ here) × (n ≡ s.changed)) ⊎ (((j ≡ place) × (n ≡ new)) ⊎ (node_at nodes j ≡ Some n))) [
          | inl is ↦ inr (inl (is, same_Some n new (sym at ∙ ap (node_at others) is ∙ s.stands_new)))
          | inr other ↦ inr (inr (sym (s.rest j differs other) ∙ at))
        ]
      ]

      same_bit : (a b : Bool) → (a ≡ b) ⊎ (a ≡ b → ⊥)
      same_bit true true = inl refl
      same_bit true false = inr (λ e. both_ways true e refl)
      same_bit false true = inr (λ e. both_ways true (sym e) refl)
      same_bit false false = inl refl

      new_child : IsChild others s.changed bit place
      new_child = record {
        below = new;
        stands = s.stands_new;
        longer = subst (λ (q : Prefix). q.len < new.prefix.len) (sym s.same_prefix) s.longer;
        within = subst (λ q. IsTrue (covers q new.prefix.base)) (sym s.same_prefix) s.within;
        next = ap (λ (q : Prefix). bit_at new.prefix.base q.len) s.same_prefix ∙ s.next;
      }

      kids : (j : ℕ) (n : TrieNode) (b : Bool) (c : ℕ) → node_at others j ≡ Some n → child n b ≡ Some c → IsChild others n b c
      kids j n b c at by = elim (where_is j n at) as (λ _. IsChild others n b c) [
        | inl at_here ↦
            subst (λ m. IsChild others m b c) (sym at_here.1)
            (let by' : child s.changed b ≡ Some c = ap (λ m. child m b) (sym at_here.1) ∙ by in
            elim (same_bit b bit) as (λ _. IsChild others s.changed b c) [
              | inl same ↦
                  subst (λ x. IsChild others s.changed x c) (sym same)
                  (subst (IsChild others s.changed bit) (same_Some place c (sym s.to_new ∙ ap (child s.changed) (sym same) ∙ by')) new_child)
              | inr differs ↦ IsChild-stays nodes others stays node s.changed s.same_prefix b c (trie.children here node b c s.stands (sym (s.other_child b differs) ∙ by'))
            ])
        | inr rest ↦ elim rest as (λ _. IsChild others n b c) [
          | inl at_new ↦ subst (λ m. IsChild others m b c) (sym at_new.1) (IsChild-stays nodes others stays new new refl b c (s.children b c (ap (λ m. child m b) (sym at_new.1) ∙ by)))
          | inr before ↦ IsChild-stays nodes others stays n n refl b c (trie.children j n b c before by)
        ]
      ]

      files : (j : ℕ) (n : TrieNode) → node_at others j ≡ Some n → n.routes ≡ filter (λ r. same_prefix r.prefix n.prefix) routes
      files j n at = elim (where_is j n at) as (λ _. n.routes ≡ filter (λ r. same_prefix r.prefix n.prefix) routes) [
        | inl at_here ↦
            subst (λ (m : TrieNode). m.routes ≡ filter (λ r. same_prefix r.prefix m.prefix) routes) (sym at_here.1)
            (s.same_routes ∙ trie.filed here node s.stands ∙ ap (λ q. filter (λ r. same_prefix r.prefix q) routes) (sym s.same_prefix))
        | inr rest ↦ elim rest as (λ _. n.routes ≡ filter (λ r. same_prefix r.prefix n.prefix) routes) [
          | inl at_new ↦ subst (λ (m : TrieNode). m.routes ≡ filter (λ r. same_prefix r.prefix m.prefix) routes) (sym at_new.1) filed
          | inr before ↦ trie.filed j n before
        ]
      ]
