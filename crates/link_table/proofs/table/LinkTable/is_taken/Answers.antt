use Rattle.std.proofs.Common.{◌==◌, ◌||◌, ◌∙◌, ap, sym}
use Rattle.std.specs.List.{list_any}
use Rattle.std.specs.Str.{bytes_eq}
use Rattle.link_table.specs.declared.link.Link.{Link}
use Rattle.list_lemmas.proofs.Found.{any-or}
use Rattle.link_table.proofs.table.LinkTable.is_taken.Goals as goal

pub returns-then-has_name : goal.returns-then-has_name
returns-then-has_name c =
    c.if-has_name.true
    ∙ sym (sym (any-or (λ (l : Link). bytes_eq l.name c.args.name.now) (λ l. l.index == c.args.index) c.args.self.now.links)
    ∙ ap (λ b. b || list_any (λ (l : Link). l.index == c.args.index) c.args.self.now.links) (sym c.has_name.ensures ∙ c.if-has_name.true))

pub returns-else-has_name : goal.returns-else-has_name
returns-else-has_name c =
    c.has_index.ensures
    ∙ sym (sym (any-or (λ (l : Link). bytes_eq l.name c.args.name.now) (λ l. l.index == c.args.index) c.args.self.now.links)
    ∙ ap (λ b. b || list_any (λ (l : Link). l.index == c.args.index) c.args.self.now.links) (sym c.has_name.ensures ∙ c.if-has_name.false))
