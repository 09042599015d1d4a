use Rattle.std.proofs.Common.{◌≡◌, ◌≤◌, length, get_or, not, ◌∙◌, ap, arith}
use Rattle.std.proofs.lemmas.List.{get_or_default}
use Rattle.list_lemmas.proofs.Anys.{length-filter-le}
use Rattle.prefixes.specs.Route.{same_route}
use Rattle.kernel_ledger.specs.Tables.{RoomyTable, empty}
use Rattle.kernel_ledger.proofs.Totals.{total-set}
use Rattle.kernel_ledger.proofs.tables.delete_at.Goals as goal

pub overflow_sub-result : goal.overflow_sub-result
overflow_sub-result c =
    let fewer = length-filter-le (λ other. not (same_route other c.args.route.now)) c.index_mut-there.result.now.routes in
    omega (arith, fewer, ap length c.remove.ensures.routes, c.len.ensures, c.len-before.ensures)

pub returns-clause-gone : goal.returns-clause-gone
returns-clause-gone c =
    let ts = c.args.tables.now.items in
    let at = c.index_mut-there.ensures.value ∙ get_or_default ts c.args.place c.index_mut-there.result.now empty c.requires.within in
    let was : length c.index_mut-there.result.now.routes ≡ length (get_or ts c.args.place empty).routes = ap (λ (t : RoomyTable). length t.routes) at in
    let fewer : c.len.result ≤ c.len-before.result = overflow_sub-result c in
    omega (arith, total-set ts c.args.place c.remove.new.self c.requires.within, was, fewer, c.len.ensures, c.len-before.ensures)
