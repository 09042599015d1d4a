-- Placing branches makes a place for a prefix.
use Rattle.std.proofs.Common.{◌≡◌, ◌≢◌, ℕ, ◌<◌, Bool, true, false, List, [], Option, Some, None, refl, sym, ◌∙◌, ap, subst, arith, ◌⊎◌, inl, inr}
use Rattle.std.specs.Bool.{IsTrue}
use Rattle.std.specs.Option.{option_map}
use Rattle.std.proofs.lemmas.Option.{none-some, same_Some}
use Rattle.std.proofs.lemmas.Bool.{cases_eq}
use Rattle.prefixes.specs.Addr.{family_of}
use Rattle.prefixes.specs.Prefix.{covers}
use Rattle.prefixes.specs.declared.prefix.Prefix.{Prefix}
use Rattle.fib_trie.specs.declared.branch.Branch.{Branch}
use Rattle.fib_search.specs.Node.{TrieNode, node_at, pick, child, bit_at, root_of}
use Rattle.fib_search.specs.Trie.{LeadsTo, IsTrie, ends, goes_on}
use Rattle.fib_trie.specs.Made.{IsMade, IsAbove, IsBelow, IsFork}
use Rattle.fib_trie.specs.Branches.{node_of, nodes_of, with_child, bare, IsPlaced}
use Rattle.route_chains.specs.Places.{held}
use Rattle.fib_search.proofs.Bits.{covers-Alike, covers-bit, covers-both}
use Rattle.fib_trie.proofs.Shapes.{node_at-nodes_of}
use Rattle.fib_trie.proofs.Stops.{at_branch}
use Rattle.fib_trie.specs.Reached.{prefix_at, IsPlaceOf}
use Rattle.fib_trie.specs.Ways.{Way, starts, steps}
use Rattle.fib_trie.proofs.Splices.{LeadsTo-spliced}
use Rattle.fib_trie.proofs.Joins.{Fits, changed_here, spliced, placed_keeps, leads_by, fits_leaf, fits_over}

to_child : (bit : Bool) (place : ℕ) (b : Branch) → pick bit (with_child bit place b).zero (with_child bit place b).one ≡ Some place
to_child true place b = refl
to_child false place b = refl

-- a node that was there elsewhere is there yet
kept : (bs ds : List (Option Branch)) (here : ℕ) (bit : Bool) (place : ℕ) (new : Branch) → IsPlaced bs ds here bit place new
    → (j : ℕ) (n : TrieNode) → (j ≡ here → ⊥) → node_at (nodes_of [] bs) j ≡ Some n → node_at (nodes_of [] ds) j ≡ Some n
kept bs ds here bit place new put j n differs at =
    node_at-nodes_of [] ds j
    ∙ ap (option_map (node_of [])) (put.rest j differs (λ is. none-some n (ap (option_map (node_of [])) (sym (ap (held bs) is ∙ put.free)) ∙ sym (node_at-nodes_of [] bs j) ∙ at)))
    ∙ sym (node_at-nodes_of [] bs j) ∙ at

-- one branch of this prefix
pub made_one : (bs ds : List (Option Branch)) (here : ℕ) (b : Branch) (p : Prefix) (place : ℕ) (new : Branch) → IsAbove bs here b p → new.prefix ≡ p
    → IsPlaced bs ds here (bit_at p.base b.prefix.len) place new → Fits bs b (bit_at p.base b.prefix.len) new → IsMade bs ds p place
made_one bs ds here b p place new above of put fits = record {
  keeps = placed_keeps bs ds here bit place b new above.stands put fits;
  leads = leads;
  reaches = λ trie reached j x at. elim (cases_eq j place) as (λ _. IsPlaceOf ds x.prefix j) [
    | inl is ↦
        let e : new.prefix ≡ x.prefix = ap (λ (y : Branch). y.prefix) (same_Some new x (sym put.stands_new ∙ ap (held ds) (sym is) ∙ at)) in
        subst (IsPlaceOf ds x.prefix) (sym is) (subst (λ q. IsPlaceOf ds q place) (sym of ∙ e) leads)
    | inr other ↦ elim (cases_eq j here) as (λ _. IsPlaceOf ds x.prefix j) [
      | inl is ↦
          let e : b.prefix ≡ x.prefix = ap (λ (y : Branch). y.prefix) (same_Some (with_child bit place b) x (sym stands_here ∙ ap (held ds) (sym is) ∙ at)) in
          subst (IsPlaceOf ds x.prefix) (sym is) (subst (λ q. IsPlaceOf ds q here) e (moved trie b.prefix here (reached here b above.stands)))
      | inr differs ↦ moved trie x.prefix j (reached j x (sym (put.rest j differs other) ∙ at))
    ]
  ];
  stays = λ j x at. elim (cases_eq j here) as (λ _. prefix_at ds j ≡ Some x.prefix) [
    | inl is ↦
        ap (prefix_at ds) is ∙ ap (option_map (λ (y : Branch). y.prefix)) stands_here
        ∙ ap (λ (y : Branch). Some y.prefix) (same_Some b x (sym above.stands ∙ ap (held bs) (sym is) ∙ at))
    | inr differs ↦ ap (option_map (λ (y : Branch). y.prefix)) (put.rest j differs (λ is. none-some x (sym put.free ∙ ap (held bs) (sym is) ∙ at)) ∙ at)
  ];
}
  where
    bit : Bool
    bit = bit_at p.base b.prefix.len

    stands_here : held ds here ≡ Some (with_child bit place b)
    stands_here = changed_here bs ds here bit place b new above.stands put

    lead : LeadsTo (nodes_of [] ds) p place here
    lead =
        goes_on here (node_of [] (with_child bit place b)) (at_branch [] ds here (with_child bit place b) stands_here)
        above.longer above.within place (to_child bit place b) (ends (node_of [] new) (at_branch [] ds place new put.stands_new) of)

    leads : IsPlaceOf ds p place
    leads = leads_by (nodes_of [] bs) (nodes_of [] ds) here (kept bs ds here bit place new put) p place lead here above.way lead

    moved : IsTrie (nodes_of [] bs) [] → (q : Prefix) (j : ℕ) → IsPlaceOf bs q j → IsPlaceOf ds q j
    moved trie q j way =
        LeadsTo-spliced (nodes_of [] bs) (nodes_of [] ds) here (node_of [] b) bit place (node_of [] new) (spliced bs ds here bit place b new above.stands put fits []) trie.children
        q j (root_of (family_of q.base)) way

pub made_leaf : (bs ds : List (Option Branch)) (here : ℕ) (b : Branch) (p : Prefix) (place : ℕ) → IsAbove bs here b p → pick (bit_at p.base b.prefix.len) b.zero b.one ≡ None
    → IsPlaced bs ds here (bit_at p.base b.prefix.len) place (bare p) → IsMade bs ds p place
made_leaf bs ds here b p place above alone put =
    made_one bs ds here b p place (bare p) above refl put (fits_leaf bs b (bit_at p.base b.prefix.len) p above.longer above.within refl alone)

pub made_over : (bs ds : List (Option Branch)) (here : ℕ) (b : Branch) (p : Prefix) (place next : ℕ) (x : Branch) → IsAbove bs here b p → IsBelow bs b p next x
    → p.len < x.prefix.len → IsTrue (covers p x.prefix.base)
    → IsPlaced bs ds here (bit_at p.base b.prefix.len) place (with_child (bit_at x.prefix.base p.len) next (bare p)) → IsMade bs ds p place
made_over bs ds here b p place next x above under less covered put =
    made_one bs ds here b p place (with_child (bit_at x.prefix.base p.len) next (bare p)) above refl put
    (fits_over bs b (bit_at p.base b.prefix.len) p above.longer above.within refl next x under.by under.stands less covered)

-- the other side of a fork has no child
other_side : (s side : Bool) (c : ℕ) (p : Prefix) → side ≢ s → pick side (with_child s c (bare p)).zero (with_child s c (bare p)).one ≡ None
other_side true true c p differs = absurd (differs refl)
other_side true false c p differs = refl
other_side false true c p differs = refl
other_side false false c p differs = absurd (differs refl)

-- the way to what a prefix covers, as far as nodes are shorter, is the way to the prefix
way_short : (bs : List (Option Branch)) → IsTrie (nodes_of [] bs) [] → (p q : Prefix) → IsTrue (covers q p.base) → (place : ℕ) → Way (nodes_of [] bs) p place
    → (n : TrieNode) → node_at (nodes_of [] bs) place ≡ Some n → n.prefix.len < q.len → Way (nodes_of [] bs) q place
way_short bs trie p q cover _ starts n at less = subst (λ f. Way (nodes_of [] bs) q (root_of f)) (covers-Alike q p.base cover).family starts
way_short bs trie p q cover _ (steps place node way stands longer within next by) n at less =
    let kid = trie.children place node (bit_at p.base node.prefix.len) next stands by in
    let below : node.prefix.len < n.prefix.len = subst (λ (m : TrieNode). node.prefix.len < m.prefix.len) (same_Some kid.below n (sym kid.stands ∙ at)) kid.longer in
    let short : node.prefix.len < q.len = omega (arith, below, less) in
    steps place node (way_short bs trie p q cover place way node stands short) stands short (covers-both node.prefix q p.base (omega (arith, short)) within cover)
    next (ap (child node) (covers-bit q p.base node.prefix.len short cover) ∙ by)

-- a way to here is one yet, where the nodes elsewhere are as they were
way_kept : (nodes others : List (Option TrieNode)) (here : ℕ) → ((j : ℕ) (n : TrieNode) → (j ≡ here → ⊥) → node_at nodes j ≡ Some n → node_at others j ≡ Some n)
    → (p : Prefix) (j : ℕ) → Way nodes p j → Way others p here ⊎ Way others p j
way_kept nodes others here same p _ starts = inr starts
way_kept nodes others here same p _ (steps place node way at less within next by) =
    elim (way_kept nodes others here same p place way) as (λ _. Way others p here ⊎ Way others p next) [
      | inl done ↦ inl done
      | inr on ↦ elim (cases_eq place here) as (λ _. Way others p here ⊎ Way others p next) [
        | inl is ↦ inl (subst (Way others p) is on)
        | inr differs ↦ inr (steps place node on (same place node differs at) less within next by)
      ]
    ]

-- one change after another
pub made_both : (bs ms ds : List (Option Branch)) (q p : Prefix) (place last : ℕ) → IsMade bs ms q place → IsMade ms ds p last → IsMade bs ds p last
made_both bs ms ds q p place last first second = record {
  keeps = λ rs trie. second.keeps rs (first.keeps rs trie);
  leads = second.leads;
  reaches = λ trie reached. second.reaches (first.keeps [] trie) (first.reaches trie reached);
  stays = λ j x at. of j (held ms j) refl (first.stays j x at);
}
  where
    of : (j : ℕ) {q : Prefix} (o : Option Branch) → held ms j ≡ o → option_map (λ (y : Branch). y.prefix) o ≡ Some q → prefix_at ds j ≡ Some q
    of j None at is = absurd (none-some _ is)
    of j (Some y) at is = second.stays j y at ∙ is

pub made_fork : (bs ms ds : List (Option Branch)) → IsTrie (nodes_of [] bs) [] → (here : ℕ) (b : Branch) (p : Prefix) (place last next : ℕ) (x : Branch) (fork : Prefix) → IsAbove bs here b p → IsBelow bs b p next x
    → b.prefix.len < fork.len → IsFork fork p x.prefix
    → IsPlaced bs ms here (bit_at p.base b.prefix.len) place (with_child (bit_at x.prefix.base fork.len) next (bare fork))
    → IsPlaced ms ds place (bit_at p.base fork.len) last (bare p) → IsMade bs ds p last
made_fork bs ms ds trie here b p place last next x fork above under longer forks first second =
    made_both bs ms ds fork p place last
    (made_one bs ms here b fork place new
    (record { stands = above.stands; longer = longer; within = into; way = way_short bs trie p fork forks.covers_one here above.way (node_of [] b) (at_branch [] bs here b above.stands) longer })
    refl (subst (λ s. IsPlaced bs ms here s place new) (sym same) first) (subst (λ s. Fits bs b s new) (sym same) fits))
    (made_one ms ds place new p last (bare p) (record { stands = first.stands_new; longer = forks.shorter; within = forks.covers_one; way = way }) refl second leaf)
  where
    bit : Bool
    bit = bit_at p.base b.prefix.len

    side : Bool
    side = bit_at x.prefix.base fork.len

    new : Branch
    new = with_child side next (bare fork)

    same : bit_at fork.base b.prefix.len ≡ bit
    same = covers-bit fork p.base b.prefix.len longer forks.covers_one

    into : IsTrue (covers b.prefix fork.base)
    into = covers-both b.prefix fork p.base (omega (arith, longer)) above.within forks.covers_one

    fits : Fits bs b bit new
    fits = fits_over bs b bit fork longer into same next x under.by under.stands forks.shorter_other forks.covers_other

    leaf : Fits ms new (bit_at p.base fork.len) (bare p)
    leaf = fits_leaf ms new (bit_at p.base fork.len) p forks.shorter forks.covers_one refl (other_side side (bit_at p.base fork.len) next fork forks.apart)

    to_here : Way (nodes_of [] ms) p here
    to_here = elim (way_kept (nodes_of [] bs) (nodes_of [] ms) here (kept bs ms here bit place new first) p here above.way) as (λ _. Way (nodes_of [] ms) p here) [ inl way ↦ way | inr way ↦ way ]

    way : Way (nodes_of [] ms) p place
    way =
        steps here (node_of [] (with_child bit place b)) to_here (at_branch [] ms here (with_child bit place b) (changed_here bs ms here bit place b new above.stands first))
        above.longer above.within place (to_child bit place b)
