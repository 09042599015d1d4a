use Rattle.std.proofs.Common.{ap, ◌∙◌}
use Rattle.fib_table.specs.Table.{TableView, has_key, are_keys_distinct}
use Rattle.fib_table.proofs.Keys.{are_keys_distinct-push}
use Rattle.fib_table.proofs.table.Table.add.Goals as goal

pub invariant_of-self : goal.invariant_of-self
invariant_of-self c =
    let view = ap (λ (v : TableView). has_key v.routes c.args.route) c.self.view_is in
    ap are_keys_distinct c.push_in_room.ensures.items
    ∙ are_keys_distinct-push c.self.inside.routes.items c.args.route c.self.invariant (view ∙ c.requires.absent)
