-- One route more.
use Rattle.std.proofs.Common.{ℕ, List, [], ◌∷◌, ◌++◌, Option, refl, inl}
use Rattle.std.specs.List.{All}
use Rattle.std.proofs.lemmas.Option.{none-some}
use Rattle.std.proofs.lemmas.List.Elements.{All-nil, All-cons, All-head, All-tail}
use Rattle.prefixes.specs.Addr.{family_of}
use Rattle.prefixes.specs.declared.route.Route.{Route}
use Rattle.fib_trie.specs.declared.branch.Branch.{Branch}
use Rattle.fib_search.specs.Node.{root_of}
use Rattle.fib_search.specs.Trie.{Leads, IsTrie}
use Rattle.fib_trie.specs.Made.{IsMade}
use Rattle.fib_trie.specs.Branches.{nodes_of}
use Rattle.fib_trie.proofs.Shapes.{restated, twins_of, Leads-twins}

All-push : (P : Route → Type 0) (xs : List Route) (r : Route) → All P xs → P r → All P (xs ++ r ∷ [])
All-push P [] r each last = All-cons P r [] last (All-nil P)
All-push P (x ∷ xs) r each last = All-cons P x (xs ++ r ∷ []) (All-head P x xs each) (All-push P xs r (All-tail P x xs each) last)

-- the branches alone
pub shape : (rs : List Route) (bs : List (Option Branch)) → IsTrie (nodes_of rs bs) rs → IsTrie (nodes_of [] bs) []
shape rs bs trie = restated rs [] bs trie (All-nil _)

pub empty_trie : IsTrie (nodes_of [] []) []
empty_trie = record {
  rooted = inl refl;
  children = λ place node bit below at by. absurd (none-some node at);
  filed = λ place node at. absurd (none-some node at);
  found = All-nil _;
}

pub trie_added : (rs : List Route) (bs ds : List (Option Branch)) (r : Route) (place : ℕ) → IsTrie (nodes_of rs bs) rs → IsMade bs ds r.prefix place → IsTrie (nodes_of (rs ++ r ∷ []) ds) (rs ++ r ∷ [])
trie_added rs bs ds r place trie made =
    let kept = made.keeps rs trie in
    restated rs (rs ++ r ∷ []) ds kept
    (All-push (λ x. Leads (nodes_of rs ds) x.prefix (root_of (family_of x.prefix.base))) rs r kept.found (Leads-twins (nodes_of [] ds) (nodes_of rs ds) (twins_of [] rs ds) r.prefix (root_of (family_of r.prefix.base)) (place, made.leads)))
