use Rattle.std.proofs.Common.{◌∙◌, sym}
use Rattle.rule_index.specs.Spots.{spot_by}
use Rattle.rule_index.proofs.Numbers.{place_of-map, parted-rises}
use Rattle.rule_index.proofs.sorted.place_of.Goals as goal

pub place_of-requires : goal.place_of-requires
place_of-requires c = parted-rises (spot_by c.args.sorting c.args.rules.now) c.args.target.now c.args.list.now.numbers c.requires

pub returns : goal.returns
returns c = c.place_of.ensures ∙ sym (place_of-map (spot_by c.args.sorting c.args.rules.now) c.args.target.now c.args.list.now.numbers)
