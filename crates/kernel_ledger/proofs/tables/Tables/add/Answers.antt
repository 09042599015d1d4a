use Rattle.std.proofs.Common.{ap, sym, ◌∙◌}
use Rattle.fib_table.specs.Table.{has_key}
use Rattle.kernel_ledger.specs.Tables.{TablesView}
use Rattle.kernel_ledger.proofs.Placed.{found_there, found_put, last_put}
use Rattle.kernel_ledger.proofs.Totals.{total_added}
use Rattle.kernel_ledger.proofs.tables.Tables.add.Goals as goal

pub invariant_of-self : goal.invariant_of-self
invariant_of-self c =
    let view = ap (λ (v : TablesView). v.tables) c.self.view_is in
    let put = found_put c.args.table c.self.inside.tables.items c.args.self.now.tables view c.in-Some.place c.args.route _ (rw c.deref.ensures.value at c.in-Some.ensures) c.add_at.ensures in
    record {
      ready_has_room = tt;
      counted = total_added c.args.table c.args.route c.self.inside.tables.items c.add_at.new.tables.items c.args.self.now.tables c.self.inside.total view c.self.invariant.counted put;
    }

pub invariant_of-self-in-None : goal.invariant_of-self-in-None
invariant_of-self-in-None c =
    let view = ap (λ (v : TablesView). v.tables) c.self.view_is in
    let put = last_put c.args.table c.self.inside.tables.items c.args.self.now.tables view c.args.route _ (rw c.deref.ensures.value at c.in-None.ensures) c.add_last.ensures in
    record {
      ready_has_room = tt;
      counted = total_added c.args.table c.args.route c.self.inside.tables.items c.add_last.new.tables.items c.args.self.now.tables c.self.inside.total view c.self.invariant.counted put;
    }

pub returns-in-Some-clause-tables : goal.returns-in-Some-clause-tables
returns-in-Some-clause-tables c =
    found_put c.args.table c.self.inside.tables.items c.args.self.now.tables (ap (λ (v : TablesView). v.tables) c.self.view_is) c.in-Some.place c.args.route _ (rw c.deref.ensures.value at c.in-Some.ensures) c.add_at.ensures

pub returns-in-None-clause-tables : goal.returns-in-None-clause-tables
returns-in-None-clause-tables c =
    last_put c.args.table c.self.inside.tables.items c.args.self.now.tables (ap (λ (v : TablesView). v.tables) c.self.view_is) c.args.route _ (rw c.deref.ensures.value at c.in-None.ensures) c.add_last.ensures

pub add_at-requires-clause-absent : goal.add_at-requires-clause-absent
add_at-requires-clause-absent c =
    let there = found_there c.args.table c.self.inside.tables.items c.args.self.now.tables (ap (λ (v : TablesView). v.tables) c.self.view_is) c.in-Some.place (rw c.deref.ensures.value at c.in-Some.ensures) in
    ap (λ rs. has_key rs c.args.route) (sym there) ∙ c.requires.absent
