-- A node taken out between the node above it and its only child.
use Rattle.std.proofs.Common.{◌≡◌, ℕ, ◌<◌, ◌≤◌, ◌⊎◌, Bool, true, false, List, [], ◌∷◌, Option, Some, None, refl, sym, ◌∙◌, ap, subst, arith, inl, inr, length, set}
use Rattle.std.specs.Bool.{IsTrue}
use Rattle.std.specs.List.{All, list_any}
use Rattle.std.proofs.lemmas.Bool.{cases_eq, cases_order, both_ways, or_parts}
use Rattle.std.proofs.lemmas.List.Elements.{All-nil, All-cons, All-head, All-tail}
use Rattle.std.proofs.lemmas.Option.{none-some, same_Some}
use Rattle.prefixes.specs.Addr.{family_of}
use Rattle.prefixes.specs.Prefix.{covers, same_prefix}
use Rattle.prefixes.proofs.Sames.{same_prefix-refl}
use Rattle.prefixes.specs.declared.addr.Addr.{Addr}
use Rattle.prefixes.specs.declared.addr.Addr.TheVariants as addr
use Rattle.prefixes.specs.declared.addr.Family.{Family}
use Rattle.prefixes.specs.declared.addr.Family.TheVariants as family
use Rattle.prefixes.specs.declared.prefix.Prefix.{Prefix}
use Rattle.prefixes.specs.declared.route.Route.{Route}
use Rattle.fib_search.specs.Node.{TrieNode, node_at, child, bit_at, pick, root_of}
use Rattle.fib_search.specs.Trie.{LeadsTo, Leads, IsTrie, IsRoot, IsChild, ends, goes_on}
use Rattle.fib_search.proofs.Bits.{covers-Alike, covers-bit, covers-both, covers-trans}
use Rattle.fib_search.proofs.Ways.{leads_to_from}
use Rattle.std.proofs.lemmas.List.{length-set}
use Rattle.route_chains.specs.Places.{held}
use Rattle.route_chains.proofs.Standing.{held-within, held-set, held-unset}
use Rattle.fib_trie.specs.declared.branch.Branch.{Branch}
use Rattle.fib_trie.specs.Branches.{node_of, nodes_of}
use Rattle.fib_trie.specs.Reached.{IsPlaceOf, AreReached}
use Rattle.fib_trie.specs.Pruned.{linked, only, only_child, IsPruned}
use Rattle.fib_trie.proofs.Adding.{shape}
use Rattle.fib_trie.proofs.Filed.{routes_lead}
use Rattle.fib_trie.proofs.Finding.{one_goal}
use Rattle.fib_trie.proofs.Put.{covers-same}
use Rattle.fib_trie.proofs.Shapes.{of_node, restated}
use Rattle.fib_trie.proofs.Stops.{at_branch}

-- the way to a longer prefix goes by the place of a shorter one that covers it
on_the_way : (nodes : List (Option TrieNode)) (p q : Prefix) (h g k : ℕ) → p.len ≤ q.len → IsTrue (covers p q.base) → LeadsTo nodes p h k → LeadsTo nodes q g k → LeadsTo nodes q g h
on_the_way nodes p q h g _ less cover (ends m at is) lead = lead
on_the_way nodes p q h g _ less cover (goes_on k m at longer within next by rest) lead =
    elim (leads_to_from nodes q g k m lead at) as (λ _. LeadsTo nodes q g h) [
      | inl here ↦ absurd (omega (arith, less, longer, ap (λ (r : Prefix). r.len) here.1))
      | inr on ↦
          let same : on.next ≡ next = same_Some on.next next (sym on.by ∙ ap (child m) (sym (covers-bit p q.base m.prefix.len longer cover)) ∙ by) in
          on_the_way nodes p q h g next less cover rest (subst (LeadsTo nodes q g) same on.rest)
    ]

-- a child, by branches
record Kid (bs : List (Option Branch)) (y : Branch) (side : Bool) (c : ℕ) : Type 0 where
  below : Branch
  stands : held bs c ≡ Some below
  longer : y.prefix.len < below.prefix.len
  within : IsTrue (covers y.prefix below.prefix.base)
  next : bit_at below.prefix.base y.prefix.len ≡ side

kid_of : (bs : List (Option Branch)) (y : Branch) (side : Bool) (c : ℕ) → IsChild (nodes_of [] bs) (node_of [] y) side c → Kid bs y side c
kid_of bs y side c is =
    let o = of_node [] bs c is.below is.stands in
    record {
      below = o.branch;
      stands = o.stands;
      longer = subst (λ (n : TrieNode). y.prefix.len < n.prefix.len) o.is is.longer;
      within = subst (λ (n : TrieNode). IsTrue (covers y.prefix n.prefix.base)) o.is is.within;
      next = ap (λ (n : TrieNode). bit_at n.prefix.base y.prefix.len) (sym o.is) ∙ is.next;
    }

same_bit : (s t : Bool) → (s ≡ t) ⊎ (s ≡ t → ⊥)
same_bit true true = inl refl
same_bit true false = inr (λ e. both_ways true e refl)
same_bit false true = inr (λ e. both_ways true (sym e) refl)
same_bit false false = inl refl

to_linked : (bit : Bool) (c : Option ℕ) (b : Branch) → pick bit (linked bit c b).zero (linked bit c b).one ≡ c
to_linked true c b = refl
to_linked false c b = refl

to_other : (bit side : Bool) (c : Option ℕ) (b : Branch) → (side ≡ bit → ⊥) → pick side (linked bit c b).zero (linked bit c b).one ≡ pick side b.zero b.one
to_other true true c b differs = absurd (differs refl)
to_other true false c b differs = refl
to_other false true c b differs = refl
to_other false false c b differs = absurd (differs refl)

-- the only child of a branch
only_parts : (zero one c : Option ℕ) → only zero one ≡ Some c → (side : Bool) (k : ℕ) → pick side zero one ≡ Some k → c ≡ Some k
only_parts None one c is true k to = sym (same_Some one c is) ∙ to
only_parts None one c is false k to = absurd (none-some k to)
only_parts (Some i) None c is true k to = absurd (none-some k to)
only_parts (Some i) None c is false k to = sym (same_Some (Some i) c is) ∙ to
only_parts (Some i) (Some j) c is side k to = absurd (none-some c is)

only_from : (zero one : Option ℕ) (k : ℕ) → only zero one ≡ Some (Some k) → (side : Bool) × (pick side zero one ≡ Some k)
only_from None one k is = (true, same_Some one (Some k) is)
only_from (Some i) None k is = (false, same_Some (Some i) (Some k) is)
only_from (Some i) (Some j) k is = absurd (none-some (Some k) is)

module _ (bs ds : List (Option Branch)) (above : ℕ) (b : Branch) (place : ℕ) (x : Branch) (c : Option ℕ)
    (at_above : held bs above ≡ Some b) (at_x : held bs place ≡ Some x) (shorter : b.prefix.len < x.prefix.len) (within : IsTrue (covers b.prefix x.prefix.base))
    (to : pick (bit_at x.prefix.base b.prefix.len) b.zero b.one ≡ Some place) (alone : only_child x ≡ Some c)
    (now_above : held ds above ≡ Some (linked (bit_at x.prefix.base b.prefix.len) c b)) (now_free : held ds place ≡ None) (rest : (j : ℕ) → (j ≡ above → ⊥) → (j ≡ place → ⊥) → held ds j ≡ held bs j) where
  abbrev bit : Bool
  bit = bit_at x.prefix.base b.prefix.len

  abbrev new : Branch
  new = linked bit c b

  pub stays_there : (j : ℕ) (y : Branch) → (j ≡ place → ⊥) → held bs j ≡ Some y → (z : Branch) × (held ds j ≡ Some z) × (z.prefix ≡ y.prefix)
  stays_there j y other at = elim (cases_eq j above) as (λ _. (z : Branch) × (held ds j ≡ Some z) × (z.prefix ≡ y.prefix)) [
    | inl is ↦ (new, ap (held ds) is ∙ now_above, ap (λ (z : Branch). z.prefix) (same_Some b y (sym at_above ∙ ap (held bs) (sym is) ∙ at)))
    | inr differs ↦ (y, rest j differs other ∙ at, refl)
  ]

  module _ (trie : IsTrie (nodes_of [] bs) []) (reached : AreReached bs) where
    kid : (j : ℕ) (y : Branch) (side : Bool) (k : ℕ) → held bs j ≡ Some y → pick side y.zero y.one ≡ Some k → Kid bs y side k
    kid j y side k at by = kid_of bs y side k (trie.children j (node_of [] y) side k (at_branch [] bs j y at) by)

    -- a child at the place
    to_x : (j : ℕ) (y : Branch) (side : Bool) → held bs j ≡ Some y → pick side y.zero y.one ≡ Some place → (y.prefix.len < x.prefix.len) × IsTrue (covers y.prefix x.prefix.base) × (bit_at x.prefix.base y.prefix.len ≡ side)
    to_x j y side at by =
        let k = kid j y side place at by in
        let e : k.below ≡ x = same_Some k.below x (sym k.stands ∙ at_x) in
        (subst (λ (z : Branch). y.prefix.len < z.prefix.len) e k.longer, subst (λ (z : Branch). IsTrue (covers y.prefix z.prefix.base)) e k.within, ap (λ (z : Branch). bit_at z.prefix.base y.prefix.len) (sym e) ∙ k.next)

    -- of two nodes above the place neither is shorter
    not_above : (h : ℕ) (z : Branch) (t : Bool) (j : ℕ) (y : Branch) (s : Bool) → held bs h ≡ Some z → pick t z.zero z.one ≡ Some place → held bs j ≡ Some y → pick s y.zero y.one ≡ Some place → z.prefix.len < y.prefix.len → ⊥
    not_above h z t j y s at_z by_z at_y by_y less =
        let kz = to_x h z t at_z by_z in
        let ky = to_x j y s at_y by_y in
        let cover : IsTrue (covers z.prefix y.prefix.base) = covers-both z.prefix y.prefix x.prefix.base (omega (arith, less)) kz.1 ky.1 in
        let from : LeadsTo (nodes_of [] bs) z.prefix h (root_of (family_of y.prefix.base)) = subst (λ f. LeadsTo (nodes_of [] bs) z.prefix h (root_of f)) (covers-Alike z.prefix y.prefix.base cover).family (reached h z at_z) in
        let lead = on_the_way (nodes_of [] bs) z.prefix y.prefix h j (root_of (family_of y.prefix.base)) (omega (arith, less)) cover from (reached j y at_y) in
        elim (leads_to_from (nodes_of [] bs) y.prefix j h (node_of [] z) lead (at_branch [] bs h z at_z)) as (λ _. ⊥) [
          | inl here ↦ omega (arith, less, ap (λ (r : Prefix). r.len) here.1)
          | inr on ↦
              let same : on.next ≡ place = same_Some on.next place (sym on.by ∙ ap (λ v. pick v z.zero z.one) (covers-bit y.prefix x.prefix.base z.prefix.len less ky.1 ∙ kz.2) ∙ by_z) in
              elim (leads_to_from (nodes_of [] bs) y.prefix j place (node_of [] x) (subst (LeadsTo (nodes_of [] bs) y.prefix j) same on.rest) (at_branch [] bs place x at_x)) as (λ _. ⊥) [
                | inl here ↦ let l = ky.0 in omega (arith, l, ap (λ (r : Prefix). r.len) here.1)
                | inr further ↦ let l = ky.0 in let m = further.longer in omega (arith, l, m)
              ]
        ]

    one_upper : (j : ℕ) (y : Branch) (side : Bool) → held bs j ≡ Some y → pick side y.zero y.one ≡ Some place → (j ≡ above) × (side ≡ bit)
    one_upper j y side at by = elim (cases_order y.prefix.len b.prefix.len) as (λ _. (j ≡ above) × (side ≡ bit)) [
      | inl same ↦
          let k = to_x j y side at by in
          let e : y.prefix ≡ b.prefix = covers-same y.prefix b.prefix (covers-both y.prefix b.prefix x.prefix.base (omega (arith, same)) k.1 within) same in
          (one_goal (nodes_of [] bs) b.prefix j above (root_of (family_of b.prefix.base)) (subst (λ q. IsPlaceOf bs q j) e (reached j y at)) (reached above b at_above), sym k.2 ∙ ap (bit_at x.prefix.base) same)
      | inr order ↦ elim order as (λ _. (j ≡ above) × (side ≡ bit)) [
        | inl less ↦ absurd (not_above j y side above b bit at by at_above to less)
        | inr more ↦ absurd (not_above above b bit j y side at_above to at by more)
      ]
    ]

    -- a child of the node isn't the node
    not_self : (side : Bool) (k : ℕ) → pick side x.zero x.one ≡ Some k → k ≡ place → ⊥
    not_self side k by is =
        let below = kid place x side k at_x by in
        let longer = below.longer in
        omega (arith, longer, ap (λ (y : Branch). y.prefix.len) (same_Some below.below x (sym below.stands ∙ ap (held bs) is ∙ at_x)))

    record Past (q : Prefix) (g : ℕ) : Type 0 where
      longer : x.prefix.len < q.len
      next : ℕ
      by : pick (bit_at q.base x.prefix.len) x.zero x.one ≡ Some next
      later : LeadsTo (nodes_of [] ds) q g next

    record Moved (q : Prefix) (g k : ℕ) : Type 0 where
      here : (k ≡ place → ⊥) → LeadsTo (nodes_of [] ds) q g k
      past : k ≡ place → Past q g

    -- on from a node
    module _ (q : Prefix) (g k next : ℕ) (y : Branch) (stands : held bs k ≡ Some y) (less : y.prefix.len < q.len) (cover : IsTrue (covers y.prefix q.base)) (by_y : pick (bit_at q.base y.prefix.len) y.zero y.one ≡ Some next) (ih : Moved q g next) where
      from_above : k ≡ above → LeadsTo (nodes_of [] ds) q g above
      from_above is =
          let e : y ≡ b = same_Some y b (sym stands ∙ ap (held bs) is ∙ at_above) in
          let short : b.prefix.len < q.len = subst (λ (z : Branch). z.prefix.len < q.len) e less in
          let in_b : IsTrue (covers b.prefix q.base) = subst (λ (z : Branch). IsTrue (covers z.prefix q.base)) e cover in
          let by_b : pick (bit_at q.base b.prefix.len) b.zero b.one ≡ Some next = subst (λ (z : Branch). pick (bit_at q.base z.prefix.len) z.zero z.one ≡ Some next) e by_y in
          elim (same_bit (bit_at q.base b.prefix.len) bit) as (λ _. LeadsTo (nodes_of [] ds) q g above) [
            | inl same ↦
                let p = ih.past (same_Some next place (sym by_b ∙ ap (λ v. pick v b.zero b.one) same ∙ to)) in
                goes_on above (node_of [] new) (at_branch [] ds above new now_above) short in_b p.next
                (ap (λ v. pick v new.zero new.one) same ∙ to_linked bit c b ∙ only_parts x.zero x.one c alone (bit_at q.base x.prefix.len) p.next p.by) p.later
            | inr differs ↦
                goes_on above (node_of [] new) (at_branch [] ds above new now_above) short in_b next (to_other bit (bit_at q.base b.prefix.len) c b differs ∙ by_b)
                (ih.here (λ same. differs (one_upper above b (bit_at q.base b.prefix.len) at_above (by_b ∙ ap Some same)).1))
          ]

      moved_on : Moved q g k
      moved_on = record {
        here = λ differs. elim (cases_eq k above) as (λ _. LeadsTo (nodes_of [] ds) q g k) [
          | inl is ↦ subst (LeadsTo (nodes_of [] ds) q g) (sym is) (from_above is)
          | inr apart ↦
              goes_on k (node_of [] y) (at_branch [] ds k y (rest k apart differs ∙ stands)) less cover next by_y
              (ih.here (λ same. apart (one_upper k y (bit_at q.base y.prefix.len) stands (by_y ∙ ap Some same)).0))
        ];
        past = λ is.
            let e : y ≡ x = same_Some y x (sym stands ∙ ap (held bs) is ∙ at_x) in
            let by_x : pick (bit_at q.base x.prefix.len) x.zero x.one ≡ Some next = subst (λ (z : Branch). pick (bit_at q.base z.prefix.len) z.zero z.one ≡ Some next) e by_y in
            record { longer = subst (λ (z : Branch). z.prefix.len < q.len) e less; next = next; by = by_x; later = ih.here (not_self (bit_at q.base x.prefix.len) next by_x) };
      }

    -- another prefix leads where it led
    moved : (q : Prefix) (g k : ℕ) → (q ≡ x.prefix → ⊥) → LeadsTo (nodes_of [] bs) q g k → Moved q g k
    moved q g _ other (ends m at is) =
        let o = of_node [] bs g m at in
        let y_is : o.branch.prefix ≡ q = ap (λ (n : TrieNode). n.prefix) (sym o.is) ∙ is in
        record {
          here = λ differs. let z = stays_there g o.branch differs o.stands in ends (node_of [] z.0) (at_branch [] ds g z.0 z.1) (z.2 ∙ y_is);
          past = λ same. absurd (other (sym y_is ∙ ap (λ (y : Branch). y.prefix) (same_Some o.branch x (sym o.stands ∙ ap (held bs) same ∙ at_x))));
        }
    moved q g _ other (goes_on k m at longer within' next by later) =
        let o = of_node [] bs k m at in
        let y = o.branch in
        let less : y.prefix.len < q.len = subst (λ (n : TrieNode). n.prefix.len < q.len) o.is longer in
        let cover : IsTrue (covers y.prefix q.base) = subst (λ (n : TrieNode). IsTrue (covers n.prefix q.base)) o.is within' in
        let by_y : pick (bit_at q.base y.prefix.len) y.zero y.one ≡ Some next = ap (λ (n : TrieNode). child n (bit_at q.base n.prefix.len)) (sym o.is) ∙ by in
        moved_on q g k next y o.stands less cover by_y (moved q g next other later)

    root_apart : (k : ℕ) (base : Addr) → IsRoot (nodes_of [] bs) k base → k ≡ place → ⊥
    root_apart k base root is =
        let o = of_node [] bs k root.node root.stands in
        let e : o.branch ≡ x = same_Some o.branch x (sym o.stands ∙ ap (held bs) is ∙ at_x) in
        omega (arith, shorter, ap (λ (y : Branch). y.prefix.len) e, ap (λ (n : TrieNode). n.prefix.len) o.is, root.short)

    root_stays : (k : ℕ) (base : Addr) → IsRoot (nodes_of [] bs) k base → IsRoot (nodes_of [] ds) k base
    root_stays k base root =
        let o = of_node [] bs k root.node root.stands in
        let z = stays_there k o.branch (root_apart k base root) o.stands in
        let same : z.0.prefix ≡ root.node.prefix = z.2 ∙ ap (λ (n : TrieNode). n.prefix) (sym o.is) in
        record { node = node_of [] z.0; stands = at_branch [] ds k z.0 z.1; from = ap (λ (q : Prefix). q.base) same ∙ root.from; short = ap (λ (q : Prefix). q.len) same ∙ root.short }

    both_roots : IsRoot (nodes_of [] bs) 0 (addr.V4 0) × IsRoot (nodes_of [] bs) 1 (addr.V6 0)
    both_roots = elim trie.rooted as (λ _. IsRoot (nodes_of [] bs) 0 (addr.V4 0) × IsRoot (nodes_of [] bs) 1 (addr.V6 0)) [
      | inl none ↦ absurd (none-some (node_of [] x) (sym (ap (λ ns. node_at ns place) none) ∙ at_branch [] bs place x at_x))
      | inr both ↦ both
    ]

    any_root_apart : (f : Family) → root_of f ≡ place → ⊥
    any_root_apart family.V4 = root_apart 0 (addr.V4 0) both_roots.0
    any_root_apart family.V6 = root_apart 1 (addr.V6 0) both_roots.1

    -- a child that stays, of a node with this prefix
    child_stays : (y : Branch) (z : Branch) → z.prefix ≡ y.prefix → (side : Bool) (k : ℕ) → Kid bs y side k → (k ≡ place → ⊥) → IsChild (nodes_of [] ds) (node_of [] z) side k
    child_stays y z same side k is other =
        let w = stays_there k is.below other is.stands in
        record {
          below = node_of [] w.0;
          stands = at_branch [] ds k w.0 w.1;
          longer = subst (λ (q : Prefix). z.prefix.len < q.len) (sym w.2) (subst (λ (q : Prefix). q.len < is.below.prefix.len) (sym same) is.longer);
          within = subst (λ (q : Prefix). IsTrue (covers z.prefix q.base)) (sym w.2) (subst (λ q. IsTrue (covers q is.below.prefix.base)) (sym same) is.within);
          next = ap (λ (q : Prefix). bit_at q.base z.prefix.len) w.2 ∙ ap (λ (q : Prefix). bit_at is.below.prefix.base q.len) same ∙ is.next;
        }

    -- the node's child is one of the node above
    grandchild : (k : ℕ) → c ≡ Some k → IsChild (nodes_of [] ds) (node_of [] new) bit k
    grandchild k is =
        let side = only_from x.zero x.one k (alone ∙ ap Some is) in
        let below = kid place x side.0 k at_x side.1 in
        let long = below.longer in
        let far : Kid bs b bit k =
        record {
          below = below.below;
          stands = below.stands;
          longer = omega (arith, shorter, long);
          within = covers-trans b.prefix x.prefix below.below.prefix.base (omega (arith, shorter)) within below.within;
          next = sym (covers-bit x.prefix below.below.prefix.base b.prefix.len shorter below.within);
        } in
        child_stays b new refl bit k far (not_self side.0 k side.1)

    kids_stay : (j : ℕ) (n : TrieNode) (side : Bool) (k : ℕ) → node_at (nodes_of [] ds) j ≡ Some n → child n side ≡ Some k → IsChild (nodes_of [] ds) n side k
    kids_stay j n side k at by =
        let o = of_node [] ds j n at in
        subst (λ m. IsChild (nodes_of [] ds) m side k) (sym o.is) (of o.branch o.stands (ap (λ (m : TrieNode). child m side) (sym o.is) ∙ by))
      where
        of : (y : Branch) → held ds j ≡ Some y → pick side y.zero y.one ≡ Some k → IsChild (nodes_of [] ds) (node_of [] y) side k
        of y stands by_y = elim (cases_eq j place) as (λ _. IsChild (nodes_of [] ds) (node_of [] y) side k) [
          | inl is ↦ absurd (none-some y (sym now_free ∙ ap (held ds) (sym is) ∙ stands))
          | inr other ↦ elim (cases_eq j above) as (λ _. IsChild (nodes_of [] ds) (node_of [] y) side k) [
            | inl is ↦
                let e : new ≡ y = same_Some new y (sym now_above ∙ ap (held ds) (sym is) ∙ stands) in
                let by_new : pick side new.zero new.one ≡ Some k = subst (λ (z : Branch). pick side z.zero z.one ≡ Some k) (sym e) by_y in
                subst (λ (z : Branch). IsChild (nodes_of [] ds) (node_of [] z) side k) e
                (elim (same_bit side bit) as (λ _. IsChild (nodes_of [] ds) (node_of [] new) side k) [
                  | inl same ↦
                      subst (λ s. IsChild (nodes_of [] ds) (node_of [] new) s k) (sym same)
                      (grandchild k (sym (to_linked bit c b) ∙ ap (λ s. pick s new.zero new.one) (sym same) ∙ by_new))
                  | inr differs ↦
                      let by_b : pick side b.zero b.one ≡ Some k = sym (to_other bit side c b differs) ∙ by_new in
                      child_stays b new refl side k (kid above b side k at_above by_b) (λ same. differs (one_upper above b side at_above (by_b ∙ ap Some same)).1)
                ])
            | inr apart ↦
                let was : held bs j ≡ Some y = sym (rest j apart other) ∙ stands in
                child_stays y y refl side k (kid j y side k was by_y) (λ same. apart (one_upper j y side was (by_y ∙ ap Some same)).0)
          ]
        ]

    pub bare_pruned : IsTrie (nodes_of [] ds) []
    bare_pruned = record {
      rooted = inr (root_stays 0 (addr.V4 0) both_roots.0, root_stays 1 (addr.V6 0) both_roots.1);
      children = kids_stay;
      filed = λ j n at. ap (λ (m : TrieNode). m.routes) (of_node [] ds j n at).is;
      found = All-nil _;
    }

    pub reached_pruned : AreReached ds
    reached_pruned j y at = elim (cases_eq j place) as (λ _. IsPlaceOf ds y.prefix j) [
      | inl is ↦ absurd (none-some y (sym now_free ∙ ap (held ds) (sym is) ∙ at))
      | inr other ↦ elim (cases_eq j above) as (λ _. IsPlaceOf ds y.prefix j) [
        | inl is ↦
            let e : b.prefix ≡ y.prefix = ap (λ (z : Branch). z.prefix) (same_Some new y (sym now_above ∙ ap (held ds) (sym is) ∙ at)) in
            subst (IsPlaceOf ds y.prefix) (sym is) (subst (λ q. IsPlaceOf ds q above) e
            ((moved b.prefix above (root_of (family_of b.prefix.base)) (λ same. omega (arith, shorter, ap (λ (q : Prefix). q.len) same)) (reached above b at_above)).here (any_root_apart (family_of b.prefix.base))))
        | inr apart ↦
            let was : held bs j ≡ Some y = sym (rest j apart other) ∙ at in
            (moved y.prefix j (root_of (family_of y.prefix.base)) (λ same. other (one_goal (nodes_of [] bs) x.prefix j place (root_of (family_of x.prefix.base)) (subst (λ q. IsPlaceOf bs q j) same (reached j y was)) (reached place x at_x)))
            (reached j y was)).here (any_root_apart (family_of y.prefix.base))
      ]
    ]

    leads_pruned : (rs : List Route) → list_any (λ r. same_prefix r.prefix x.prefix) rs ≡ false → All (λ r. Leads (nodes_of [] bs) r.prefix (root_of (family_of r.prefix.base))) rs
        → All (λ r. Leads (nodes_of [] ds) r.prefix (root_of (family_of r.prefix.base))) rs
    leads_pruned [] none lead = All-nil _
    leads_pruned (r ∷ rs) none lead =
        let parts = or_parts (same_prefix r.prefix x.prefix) (list_any (λ r. same_prefix r.prefix x.prefix) rs) none in
        let way = All-head (λ r. Leads (nodes_of [] bs) r.prefix (root_of (family_of r.prefix.base))) r rs lead in
        All-cons (λ r. Leads (nodes_of [] ds) r.prefix (root_of (family_of r.prefix.base))) r rs
        (way.0, (moved r.prefix way.0 (root_of (family_of r.prefix.base)) (λ same. both_ways (same_prefix r.prefix x.prefix) parts.0 (ap (λ q. same_prefix q x.prefix) same ∙ same_prefix-refl x.prefix)) way.1).here (any_root_apart (family_of r.prefix.base)))
        (leads_pruned rs parts.1 (All-tail (λ r. Leads (nodes_of [] bs) r.prefix (root_of (family_of r.prefix.base))) r rs lead))

  pub pruned : IsPruned bs ds x.prefix place
  pruned = record {
    keeps = λ reached rs none trie.
        let bare = shape rs bs trie in
        restated [] rs ds (bare_pruned bare reached)
        (leads_pruned bare reached rs none (routes_lead rs bs trie));
    reaches = λ trie reached. reached_pruned trie reached;
    stays = λ j y other at. stays_there j y other at;
    free = now_free;
  }

-- by two writes
pub pruned_by : (bs : List (Option Branch)) (above : ℕ) (b : Branch) (place : ℕ) (x : Branch) (c : Option ℕ) → held bs above ≡ Some b → held bs place ≡ Some x → b.prefix.len < x.prefix.len → IsTrue (covers b.prefix x.prefix.base)
    → pick (bit_at x.prefix.base b.prefix.len) b.zero b.one ≡ Some place → only_child x ≡ Some c
    → IsPruned bs (set (set bs above (Some (linked (bit_at x.prefix.base b.prefix.len) c b))) place None) x.prefix place
pruned_by bs above b place x c at_above at_x shorter within to alone =
    let new : Option Branch = Some (linked (bit_at x.prefix.base b.prefix.len) c b) in
    let mid : List (Option Branch) = set bs above new in
    let long : length mid ≡ length bs = length-set bs above new in
    let apart : above ≡ place → ⊥ = λ is. omega (arith, shorter, ap (λ (y : Branch). y.prefix.len) (same_Some b x (sym at_above ∙ ap (held bs) is ∙ at_x))) in
    pruned bs (set mid place None) above b place x c at_above at_x shorter within to alone
    (held-unset mid place above None apart ∙ held-set bs above new (held-within bs above b at_above))
    (held-set mid place None (let w = held-within bs place x at_x in omega (arith, w, long)))
    (λ j other differs. held-unset mid place j None differs ∙ held-unset bs above j new other)
