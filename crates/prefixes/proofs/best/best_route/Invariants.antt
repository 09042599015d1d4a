use Rattle.std.proofs.Common.{◌≡◌, take}
use Rattle.prefixes.specs.Best.{best}
use Rattle.prefixes.proofs.best.best_route.Given as goal

-- the best of the routes so far
abbrev pub invariant-loop-route : goal.invariant-loop-route
invariant-loop-route l = l.found ≡ best (take l.route-index l.routes) l.dest l.bound
