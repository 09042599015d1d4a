-- Branches by place.
use Rattle.std.proofs.Common.{◌≡◌, ℕ, Bool, List, [], ◌∷◌, ◌++◌, length, Option, Some, sym, ◌∙◌, ap, arith}
use Rattle.std.proofs.Math.ListN.{set, length-set}
use Rattle.std.specs.Option.{option_map}
use Rattle.prefixes.specs.declared.route.Route.{Route}
use Rattle.fib_trie.specs.declared.branch.Branch.{Branch}
use Rattle.fib_search.specs.Node.{node_at, view_of}
use Rattle.fib_trie.specs.Branches.{node_of, nodes_of, with_child, IsPlaced}
use Rattle.route_chains.specs.Places.{held}
use Rattle.route_chains.proofs.Standing.{held-past, held-within, held-last, held-before, held-set, held-unset}
use Rattle.fib_trie.proofs.Shapes.{node_at-nodes_of}

pub view_held : (rs : List Route) (bs : List (Option Branch)) (place : ℕ) (bound : Option ℕ) (o : Option Branch) → held bs place ≡ o → option_map (view_of bound) (node_at (nodes_of rs bs) place) ≡ option_map (view_of bound) (option_map (node_of rs) o)
view_held rs bs place bound o at = ap (option_map (view_of bound)) (node_at-nodes_of rs bs place ∙ ap (option_map (node_of rs)) at)

pub placed : (bs : List (Option Branch)) (here place : ℕ) (bit : Bool) (b new : Branch) → held bs here ≡ Some b → place ≡ length bs
    → IsPlaced bs (set bs here (Some (with_child bit place b)) ++ Some new ∷ []) here bit place new
placed bs here place bit b new at last =
    let within = held-within bs here b at in
    let long : length (set bs here (Some (with_child bit place b))) ≡ length bs = length-set bs here (Some (with_child bit place b)) in
    record {
      free = ap (held bs) last ∙ held-past bs (length bs) (omega arith);
      stands_new = held-last (set bs here (Some (with_child bit place b))) place (Some new) (last ∙ sym long);
      stands_here = held-before (set bs here (Some (with_child bit place b))) here (Some new) (λ is. omega (arith, is, long, within)) ∙ held-set bs here (Some (with_child bit place b)) within ∙ ap (option_map (with_child bit place)) (sym at);
      rest = λ j other differs. held-before (set bs here (Some (with_child bit place b))) j (Some new) (λ is. differs (is ∙ long ∙ sym last)) ∙ held-unset bs here j (Some (with_child bit place b)) other;
    }
