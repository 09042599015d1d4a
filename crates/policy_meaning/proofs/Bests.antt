-- The best route of a network's routes, one route more, and the first interface that says something.
use Rattle.std.proofs.Common.{◌≡◌, ◌∙◌, ◌∷◌, [], ◌++◌, ℕ, List, map, filter, Bool, true, false, Option, Some, None, append_assoc, refl, sym, ap}
use Rattle.std.specs.Prelude.{◌&&◌, if◌then◌else◌}
use Rattle.std.proofs.lemmas.List.{append-nil}
use Rattle.networks.specs.declared.network.LinkRoute.{LinkRoute}
use Rattle.prefixes.specs.Best.{best, longer_of}
use Rattle.prefixes.specs.Route.{fits}
use Rattle.prefixes.specs.declared.addr.Addr.{Addr}
use Rattle.prefixes.specs.declared.route.Route.{Route}
use Rattle.prefixes.proofs.Bests.{best-append, longer_of-none}
use Rattle.policy_meaning.specs.Asking.{fitting, is_at, routes_at}

routes_at-append : (link : Option ℕ) (xs ys : List LinkRoute) → routes_at link (xs ++ ys) ≡ routes_at link xs ++ routes_at link ys
routes_at-append link [] ys = refl
routes_at-append link (x ∷ xs) ys = step (is_at link x) (routes_at-append link xs ys)
  where
    step : (b : Bool) → routes_at link (xs ++ ys) ≡ routes_at link xs ++ routes_at link ys
        → map (λ r. r.route) (if b then x ∷ filter (is_at link) (xs ++ ys) else filter (is_at link) (xs ++ ys)) ≡ map (λ r. r.route) (if b then x ∷ filter (is_at link) xs else filter (is_at link) xs) ++ routes_at link ys
    step true rest = ap (λ rs. x.route ∷ rs) rest
    step false rest = rest

-- all routes, where no link is given
pub routes_at-all : (routes : List LinkRoute) → routes_at None routes ≡ map (λ r. r.route) routes
routes_at-all [] = refl
routes_at-all (r ∷ rs) = ap (λ l. r.route ∷ l) (routes_at-all rs)

best_at-one : (link : Option ℕ) (r : LinkRoute) (dest : Addr) (bound : Option ℕ) → best (routes_at link (r ∷ [])) dest bound ≡ fitting link dest bound r
best_at-one link r dest bound = step (is_at link r)
  where
    step : (b : Bool) → best (map (λ x. x.route) (if b then r ∷ [] else [])) dest bound ≡ (if b && fits r.route dest bound then Some r.route else None)
    step true = longer_of-none (if fits r.route dest bound then Some r.route else None)
    step false = refl

-- The routes that were gone over, and the best of them.
pub record BestSoFar (link : Option ℕ) (all rest : List LinkRoute) (found : Option Route) (dest : Addr) (bound : Option ℕ) : Type 0 where
  pub before : List LinkRoute
  pub cut : all ≡ before ++ rest
  pub best_is : found ≡ best (routes_at link before) dest bound

pub best-none : (link : Option ℕ) (all rest : List LinkRoute) (dest : Addr) (bound : Option ℕ) → rest ≡ all → BestSoFar link all rest None dest bound
best-none link all rest dest bound is = record { before = []; cut = sym is; best_is = refl }

-- the best of one route more
pub best-more : (link : Option ℕ) (all rest after : List LinkRoute) (r : LinkRoute) (found more : Option Route) (dest : Addr) (bound : Option ℕ) → BestSoFar link all rest found dest bound →
    rest ≡ r ∷ after → more ≡ longer_of found (fitting link dest bound r) → BestSoFar link all after more dest bound
best-more link all rest after r found more dest bound so_far next is = record {
  before = so_far.before ++ r ∷ [];
  cut = so_far.cut ∙ ap (λ rs. so_far.before ++ rs) next ∙ sym (append_assoc so_far.before (r ∷ []) after);
  best_is = is ∙ ap (λ o. longer_of o (fitting link dest bound r)) so_far.best_is
      ∙ sym (ap (λ rs. best rs dest bound) (routes_at-append link so_far.before (r ∷ []))
      ∙ (best-append (routes_at link so_far.before) (routes_at link (r ∷ [])) dest bound
      ∙ ap (longer_of (best (routes_at link so_far.before) dest bound)) (best_at-one link r dest bound)));
}

pub best-whole : (link : Option ℕ) (all rest : List LinkRoute) (found : Option Route) (dest : Addr) (bound : Option ℕ) → BestSoFar link all rest found dest bound → rest ≡ [] →
    found ≡ best (routes_at link all) dest bound
best-whole link all rest found dest bound so_far ends =
    so_far.best_is ∙ ap (λ rs. best (routes_at link rs) dest bound) (sym (so_far.cut ∙ ap (λ rs. so_far.before ++ rs) ends ∙ append-nil so_far.before))
