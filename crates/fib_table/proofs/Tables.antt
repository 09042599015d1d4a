-- Routes with the numbers of their tables.
use Rattle.std.proofs.Common.{◌≡◌, ◌∙◌, ◌==◌, ◌++◌, ℕ, List, filter, map, ap}
use Rattle.std.proofs.lemmas.List.{map-append}
use Rattle.std.proofs.lemmas.List.Elements.{filter-append}
use Rattle.fib_table.specs.Table.{routes_in}
use Rattle.prefixes.specs.declared.route.Route.{Route}

pub routes_in-append : (n : ℕ) (xs ys : List (ℕ × Route)) → routes_in n (xs ++ ys) ≡ routes_in n xs ++ routes_in n ys
routes_in-append n xs ys =
    ap (map (λ (r : ℕ × Route). r.1)) (filter-append (λ (r : ℕ × Route). r.0 == n) xs ys)
    ∙ map-append (λ (r : ℕ × Route). r.1) (filter (λ (r : ℕ × Route). r.0 == n) xs) (filter (λ (r : ℕ × Route). r.0 == n) ys)
