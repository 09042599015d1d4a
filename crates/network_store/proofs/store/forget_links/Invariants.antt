use Rattle.std.proofs.Common.{◌≡◌, ◌==◌, ℕ, cond, None, nat_eq, take}
use Rattle.std.specs.List.{list_any}
use Rattle.std.specs.Map.{lookup}
use Rattle.network_store.proofs.store.forget_links.Given as goal

-- the links so far lead nowhere, and the others where they did
abbrev pub invariant-loop-link : goal.invariant-loop-link
invariant-loop-link l =
    (q : ℕ) → lookup (nat_eq q) l.by_link.entries ≡ cond (list_any (λ link. link == q) (take l.link-index l.links)) None (lookup (nat_eq q) l.initial.by_link.entries)
