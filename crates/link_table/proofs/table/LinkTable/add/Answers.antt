use Rattle.std.proofs.Common.{◌≡◌, ◌<◌, ◌++◌, ◌∷◌, ◌||◌, ◌==◌, [], false, subst, sym, ◌∙◌}
use Rattle.std.specs.List.{list_any}
use Rattle.std.specs.Str.{bytes_eq}
use Rattle.link_table.specs.Table.{LinkTableView, AreIndexed}
use Rattle.link_table.proofs.LinkMaps.{indexed-add, room-each}
use Rattle.list_lemmas.proofs.Found.{on-ok, then-at_ok}
use Rattle.link_table.proofs.table.LinkTable.add.Goals as goal

pub invariant_of-self : goal.invariant_of-self
invariant_of-self c =
    let room = room-each c.self.inside.links c.self.inside.by_name c.self.inside.by_index (subst (λ (v : LinkTableView). 0 < v.room) (sym c.self.view_is) c.requires.room) in
    let named = on-ok c.insert.result _ (c.insert.ensures.succeeds room.1) c.insert.ensures.updates in
    let indexed = on-ok c.insert-2.result _ (c.insert-2.ensures.succeeds room.2) c.insert-2.ensures.updates in
    let is : c.push.new.self.items ≡ c.self.inside.links.items ++ c.args.link ∷ [] = c.push.ensures.items ∙ then-at_ok c.push.result _ _ (c.push.ensures.succeeds room.0) in
    let fresh = subst (λ (v : LinkTableView). list_any (λ l. bytes_eq l.name c.args.link.name || l.index == c.args.link.index) v.links ≡ false) (sym c.self.view_is) c.requires.fresh in
    subst (λ ls. AreIndexed ls c.insert.new.self.entries c.insert-2.new.self.entries) (sym is)
    (indexed-add c.self.inside.links.items c.self.inside.by_name.entries c.insert.new.self.entries c.self.inside.by_index.entries c.insert-2.new.self.entries c.args.link c.self.invariant fresh named.0 indexed.0)
