use Rattle.std.proofs.Common.{◌≡◌, length}
use Rattle.std.specs.List.{find}
use Rattle.rule_index.specs.Search.{is_number_of}
use Rattle.rule_index.proofs.search.find_same.Given as goal

abbrev pub invariant-loop-number : goal.invariant-loop-number
invariant-loop-number l = find (is_number_of l.rules l.rule) l.rest ≡ find (is_number_of l.rules l.rule) l.initial.rest

abbrev pub decreases-loop-number : goal.decreases-loop-number
decreases-loop-number l = length l.rest
