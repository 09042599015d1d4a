use Rattle.std.proofs.Common.{◌≡◌, sym, ◌∙◌, ap, subst, rules, [], ◌∷◌, ◌++◌, Some, List, Option, length, vec_len, arith}
use Rattle.fib_trie.specs.declared.branch.Branch.{Branch}
use Rattle.fib_search.specs.Trie.{IsTrie}
use Rattle.fib_trie.specs.Branches.{nodes_of}
use Rattle.fib_trie.proofs.Rooting.{roots_keep, roots_reached, no_items}
use Rattle.fib_trie.specs.Reached.{AreReached}
use Rattle.fib_trie.proofs.roots.ensure_roots.Goals as goal

pub returns-then-is_empty-clause-keeps : goal.returns-then-is_empty-clause-keeps
returns-then-is_empty-clause-keeps c =
    let long : length c.args.branches.now.items ≡ vec_len c.args.branches.now = search rules in
    let bare : vec_len c.args.branches.now ≡ 0 = first_of (search rules, grind (arith, c.if-is_empty.true, c.is_empty.ensures)) in
    let none : c.args.branches.now.items ≡ [] = no_items c.args.branches.now.items (long ∙ bare) in
    let now : c.push_held-then-is_empty.new.places.items ≡ Some c.root.result ∷ Some c.root-then-is_empty.result ∷ [] =
    c.push_held-then-is_empty.ensures.items ∙ ap (λ (xs : List (Option Branch)). xs ++ Some c.root-then-is_empty.result ∷ []) (c.push_held.ensures.items ∙ ap (λ (xs : List (Option Branch)). xs ++ Some c.root.result ∷ []) none) in
    λ rs trie. subst (λ xs. IsTrie (nodes_of rs xs) rs) (sym now)
    (roots_keep c.args.branches.now.items c.root.result c.root-then-is_empty.result none c.root.ensures c.root-then-is_empty.ensures rs trie)

pub returns-then-is_empty-clause-reaches : goal.returns-then-is_empty-clause-reaches
returns-then-is_empty-clause-reaches c =
    let long : length c.args.branches.now.items ≡ vec_len c.args.branches.now = search rules in
    let bare : vec_len c.args.branches.now ≡ 0 = first_of (search rules, grind (arith, c.if-is_empty.true, c.is_empty.ensures)) in
    let none : c.args.branches.now.items ≡ [] = no_items c.args.branches.now.items (long ∙ bare) in
    let now : c.push_held-then-is_empty.new.places.items ≡ Some c.root.result ∷ Some c.root-then-is_empty.result ∷ [] =
    c.push_held-then-is_empty.ensures.items ∙ ap (λ (xs : List (Option Branch)). xs ++ Some c.root-then-is_empty.result ∷ []) (c.push_held.ensures.items ∙ ap (λ (xs : List (Option Branch)). xs ++ Some c.root.result ∷ []) none) in
    λ _. subst AreReached (sym now) (roots_reached c.root.result c.root-then-is_empty.result c.root.ensures c.root-then-is_empty.ensures)

pub returns-then-is_empty-clause-stays : goal.returns-then-is_empty-clause-stays
returns-then-is_empty-clause-stays c =
    let long : length c.args.branches.now.items ≡ vec_len c.args.branches.now = search rules in
    let bare : vec_len c.args.branches.now ≡ 0 = first_of (search rules, grind (arith, c.if-is_empty.true, c.is_empty.ensures)) in
    λ some. absurd {A = c.push_held-then-is_empty.new.places.items ≡ c.args.branches.now.items} (some (no_items c.args.branches.now.items (long ∙ bare)))
