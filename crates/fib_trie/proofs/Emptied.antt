-- A node without routes is given back.
use Rattle.std.proofs.Common.{◌≡◌, ℕ, false, List, [], ◌∷◌, Option, Some, None, refl, sym, ◌∙◌, ap, inl, inr}
use Rattle.std.specs.List.{find, list_any}
use Rattle.std.specs.Option.{option_map}
use Rattle.std.proofs.lemmas.Bool.{cases_Bool, both_ways, or_parts, or_from}
use Rattle.std.proofs.lemmas.List.Elements.{All-nil, All-cons, All-head, All-tail}
use Rattle.std.proofs.lemmas.Option.{none-some, same_Some}
use Rattle.prefixes.specs.Prefix.{same_prefix}
use Rattle.prefixes.specs.Route.{link_of, suits}
use Rattle.prefixes.proofs.Sames.{same_prefix-refl}
use Rattle.prefixes.specs.declared.prefix.Prefix.{Prefix}
use Rattle.prefixes.specs.declared.route.Route.{Route}
use Rattle.route_chains.specs.Chains.{Chained, chain_of}
use Rattle.route_chains.specs.Places.{held}
use Rattle.fib_trie.specs.declared.branch.Branch.{Branch}
use Rattle.fib_trie.specs.Chained.{routes_of}
use Rattle.fib_trie.specs.Pruned.{IsPruned, IsFiledTrie}
use Rattle.fib_trie.specs.Reached.{prefix_at, AreFiled}
use Rattle.fib_trie.proofs.Adding.{shape}
use Rattle.fib_trie.proofs.Filed.{of_prefix, chain_of-place, at_of}

find_none : (rs : List Route) → find (λ r. suits (link_of r.out) None) rs ≡ None → rs ≡ []
find_none [] none = refl
find_none (r ∷ rs) none = absurd (none-some r (sym none))

no_prefix : (p : Prefix) (rs : List Route) → of_prefix p rs ≡ [] → list_any (λ r. same_prefix r.prefix p) rs ≡ false
no_prefix p [] none = refl
no_prefix p (r ∷ rs) none = elim (cases_Bool (same_prefix r.prefix p)) as (λ _. list_any (λ x. same_prefix x.prefix p) (r ∷ rs) ≡ false) [
  | inl same ↦ let h : (r ∷ of_prefix p rs) ≡ [] = rw same at none in cc
  | inr other ↦ or_from (same_prefix r.prefix p) (list_any (λ x. same_prefix x.prefix p) rs) other (no_prefix p rs (rw other at none))
]

filed_pruned : (bs ds : List (Option Branch)) (p : Prefix) (place : ℕ) → prefix_at bs place ≡ Some p
    → ((j : ℕ) (b : Branch) → (j ≡ place → ⊥) → held bs j ≡ Some b → (c : Branch) × (held ds j ≡ Some c) × (c.prefix ≡ b.prefix))
    → (es : List Chained) → list_any (λ r. same_prefix r.prefix p) (routes_of es) ≡ false → AreFiled bs es → AreFiled ds es
filed_pruned bs ds p place here stays [] none filed = All-nil _
filed_pruned bs ds p place here stays (e ∷ es) none filed =
    let parts = or_parts (same_prefix e.route.prefix p) (list_any (λ r. same_prefix r.prefix p) (routes_of es)) none in
    let was = All-head (λ x. prefix_at bs x.chain ≡ Some x.route.prefix) e es filed in
    let there = at_of bs e.chain e.route.prefix was in
    let now = stays e.chain there.branch
    (λ is. both_ways (same_prefix e.route.prefix p) parts.0 (ap (λ q. same_prefix q p) (same_Some e.route.prefix p (sym was ∙ ap (prefix_at bs) is ∙ here)) ∙ same_prefix-refl p)) there.stands in
    All-cons (λ x. prefix_at ds x.chain ≡ Some x.route.prefix) e es
    (ap (option_map (λ (b : Branch). b.prefix)) now.1 ∙ ap Some (now.2 ∙ there.prefix))
    (filed_pruned bs ds p place here stays es parts.1 (All-tail (λ x. prefix_at bs x.chain ≡ Some x.route.prefix) e es filed))

pub given_back : (bs ds : List (Option Branch)) (es : List Chained) (place : ℕ) (b : Branch) → held bs place ≡ Some b → find (λ r. suits (link_of r.out) None) (chain_of place es) ≡ None
    → IsPruned bs ds b.prefix place → IsFiledTrie bs es → IsFiledTrie ds es
given_back bs ds es place b at empty pruned old =
    let none : list_any (λ r. same_prefix r.prefix b.prefix) (routes_of es) ≡ false =
    no_prefix b.prefix (routes_of es) (sym (chain_of-place bs old.reached b.prefix place (old.reached place b at) es old.filed) ∙ find_none (chain_of place es) empty) in
    record {
      trie = pruned.keeps old.reached (routes_of es) none old.trie;
      reached = pruned.reaches (shape (routes_of es) bs old.trie) old.reached;
      filed = filed_pruned bs ds b.prefix place (ap (option_map (λ (x : Branch). x.prefix)) at) pruned.stays es none old.filed;
    }
