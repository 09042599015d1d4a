use Rattle.std.proofs.Common.{◌∙◌, ap, length}
use Rattle.kernel_ledger.specs.Tables.{TablesView}
use Rattle.kernel_ledger.proofs.Placed.{found_routes, no_routes}
use Rattle.kernel_ledger.proofs.tables.Tables.route_count.Goals as goal

pub returns-in-Some : goal.returns-in-Some
returns-in-Some c =
    c.len.ensures
    ∙ ap (λ rs. length rs)
    (found_routes c.args.table c.self.inside.tables.items c.args.self.now.tables (ap (λ (v : TablesView). v.tables) c.self.view_is) c.in-Some.place c.index.result.now (rw c.deref.ensures.value at c.in-Some.ensures) c.index.ensures)

pub returns-in-None : goal.returns-in-None
returns-in-None c =
    ap (λ rs. length rs)
    (no_routes c.args.table c.self.inside.tables.items c.args.self.now.tables (ap (λ (v : TablesView). v.tables) c.self.view_is) (rw c.deref.ensures.value at c.in-None.ensures))
