use Rattle.std.proofs.Common.{◌∙◌, ap, is_some}
use Rattle.std.specs.List.{list_any}
use Rattle.std.specs.Str.{bytes_eq}
use Rattle.link_table.specs.declared.link.Link.{Link}
use Rattle.link_table.specs.Table.{LinkTableView}
use Rattle.list_lemmas.proofs.Found.{some-any}
use Rattle.link_table.proofs.table.LinkTable.has_name.Goals as goal

pub returns : goal.returns
returns c =
    c.contains_key.ensures ∙ ap is_some (c.self.invariant.by_name c.args.name.now)
    ∙ some-any (λ (l : Link). bytes_eq l.name c.args.name.now) (λ (l : Link). l.index) c.self.inside.links.items
    ∙ ap (λ (v : LinkTableView). list_any (λ l. bytes_eq l.name c.args.name.now) v.links) c.self.view_is
