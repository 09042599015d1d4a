-- The best route of a list: the longest match of Linux.
use Rattle.std.specs.Prelude.{◌≡◌, ◌≢◌, ℕ, ◌≤◌, nat_lt, if◌then◌else◌, IsTrue, All, List, [], ◌∷◌, ◌++◌, Option, Some, None}
use Rattle.std.specs.Option.{option_and_then}
use Rattle.prefixes.specs.Route.{fits, answer_of}
use Rattle.prefixes.specs.declared.addr.Addr.{Addr}
use Rattle.prefixes.specs.declared.route.Answer.{Answer}
use Rattle.prefixes.specs.declared.route.Route.{Route}

-- The best route stands in the list and fits. No route that fits is longer, and none of equal length that fits stands
-- before it.
pub record IsBest (routes : List Route) (dest : Addr) (bound : Option ℕ) (r : Route) : Type 0 where
  pub before : List Route
  pub behind : List Route
  pub stands : routes ≡ before ++ r ∷ behind
  pub fitting : IsTrue (fits r dest bound)
  pub none_longer : All (λ other. IsTrue (fits other dest bound) → other.prefix.len ≤ r.prefix.len) routes
  pub first : All (λ other. IsTrue (fits other dest bound) → other.prefix.len ≢ r.prefix.len) before

-- the longer of two routes, the former where they are equally long
abbrev pub longer_of : Option Route → Option Route → Option Route
longer_of None latter = latter
longer_of (Some r) None = Some r
longer_of (Some r) (Some s) = if nat_lt r.prefix.len s.prefix.len then Some s else Some r

-- the best route, as a function
abbrev pub best : List Route → Addr → Option ℕ → Option Route
best [] dest bound = None
best (r ∷ rs) dest bound = longer_of (if fits r dest bound then Some r else None) (best rs dest bound)

-- what a list of routes answers: nothing for a throw, or where no route fits
abbrev pub answer : List Route → Addr → Option ℕ → Option Answer
answer routes dest bound = option_and_then (λ r. answer_of r.out) (best routes dest bound)
