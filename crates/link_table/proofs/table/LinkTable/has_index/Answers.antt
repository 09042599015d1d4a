use Rattle.std.proofs.Common.{◌==◌, ◌∙◌, ap, is_some}
use Rattle.std.specs.List.{list_any}
use Rattle.link_table.specs.declared.link.Link.{Link}
use Rattle.link_table.specs.Table.{LinkTableView}
use Rattle.list_lemmas.proofs.Found.{some-any}
use Rattle.link_table.proofs.table.LinkTable.has_index.Goals as goal

pub returns : goal.returns
returns c =
    c.contains_key.ensures ∙ ap is_some (c.self.invariant.by_index c.args.index)
    ∙ some-any (λ (l : Link). l.index == c.args.index) (λ (l : Link). l.name) c.self.inside.links.items
    ∙ ap (λ (v : LinkTableView). list_any (λ l. l.index == c.args.index) v.links) c.self.view_is
