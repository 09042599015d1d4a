use Rattle.std.proofs.Common.{◌≡◌, length, None}
use Rattle.rule_index.specs.declared.spot.Sorting.TheVariants.{ByKey}
use Rattle.rule_index.specs.Sorted.{Rises, spots_by}
use Rattle.rule_index.specs.Search.{least, AreKeyed}
use Rattle.rule_index.proofs.search.least.Given as goal

abbrev pub invariant-loop-number : goal.invariant-loop-number
invariant-loop-number l = record {
  rises : Rises (spots_by ByKey l.rules l.rest);
  keys : AreKeyed l.rules (spots_by ByKey l.rules l.rest);
  least : least l.rules l.packet l.from l.found (spots_by ByKey l.rules l.rest) ≡ least l.rules l.packet l.from None (spots_by ByKey l.rules l.keyed.numbers);
}

abbrev pub decreases-loop-number : goal.decreases-loop-number
decreases-loop-number l = length l.rest
