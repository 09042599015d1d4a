use Rattle.std.proofs.Common.{◌≡◌, drop}
use Rattle.policy_meaning.specs.Policy.{first_given, asks_pair, by_routes}
use Rattle.policy_meaning.proofs.decision.ask_pairs.Given as goal

-- what all pairs say is what those from here on say
abbrev pub invariant-loop-pair : goal.invariant-loop-pair
invariant-loop-pair l =
    first_given (asks_pair (by_routes l.packet) l.state l.packet) l.state.pairs ≡ first_given (asks_pair (by_routes l.packet) l.state l.packet) (drop l.pair-index l.state.pairs)
