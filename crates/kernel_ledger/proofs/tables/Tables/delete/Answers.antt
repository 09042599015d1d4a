use Rattle.std.proofs.Common.{◌∙◌, sym, ap}
use Rattle.std.proofs.lemmas.Bool.{false≢true}
use Rattle.fib_table.specs.Table.{has_route}
use Rattle.kernel_ledger.specs.Tables.{TablesView}
use Rattle.kernel_ledger.proofs.Placed.{found_there, found_cut, no_routes}
use Rattle.kernel_ledger.proofs.tables.Tables.delete.Goals as goal

pub delete_at-requires-clause-there : goal.delete_at-requires-clause-there
delete_at-requires-clause-there c =
    let there = found_there c.args.table c.self.inside.tables.items c.args.self.now.tables (ap (λ (v : TablesView). v.tables) c.self.view_is) c.in-Some.place (rw c.deref.ensures.value at c.in-Some.ensures) in
    ap (λ rs. has_route rs c.args.route.now) (sym there) ∙ c.requires

pub returns-in-Some-clause-tables : goal.returns-in-Some-clause-tables
returns-in-Some-clause-tables c =
    found_cut c.args.table c.self.inside.tables.items c.args.self.now.tables (ap (λ (v : TablesView). v.tables) c.self.view_is) c.in-Some.place c.args.route.now _ (rw c.deref.ensures.value at c.in-Some.ensures) c.delete_at.ensures.cut

pub returns-in_default-clause-tables : goal.returns-in_default-clause-tables
returns-in_default-clause-tables c =
    let none = no_routes c.args.table c.self.inside.tables.items c.args.self.now.tables (ap (λ (v : TablesView). v.tables) c.self.view_is) (rw c.deref.ensures.value at c.in_default.ensures) in
    absurd (false≢true (ap (λ rs. has_route rs c.args.route.now) none ∙ c.requires))
