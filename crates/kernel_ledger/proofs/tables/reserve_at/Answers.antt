use Rattle.std.proofs.Common.{◌∙◌, ap}
use Rattle.std.proofs.lemmas.List.{get_or_default}
use Rattle.kernel_ledger.specs.Tables.{RoomyTable, empty}
use Rattle.kernel_ledger.proofs.Placed.{same_there}
use Rattle.kernel_ledger.proofs.tables.reserve_at.Goals as goal

pub returns-clause-same : goal.returns-clause-same
returns-clause-same c =
    let at = c.index_mut-there.ensures.value ∙ get_or_default c.args.tables.now.items c.args.place c.index_mut-there.result.now empty c.requires in
    same_there c.args.tables.now.items c.args.place c.reserve_one.new.self (c.reserve_one.ensures.number ∙ ap (λ (t : RoomyTable). t.number) at) (c.reserve_one.ensures.routes ∙ ap (λ (t : RoomyTable). t.routes) at)
