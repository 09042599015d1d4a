use Rattle.std.proofs.Common.{◌≡◌, ◌∙◌, sym, ap, subst, not, filter, rules, None}
use Rattle.std.specs.Str.{bytes_eq}
use Rattle.std.proofs.lemmas.Fn.{filter_same}
use Rattle.link_table.specs.Links.{index_of}
use Rattle.link_table.specs.Table.{LinkTableView, AreIndexed}
use Rattle.link_table.proofs.LinkMaps.{indexed-remove, remove-none}
use Rattle.link_table.proofs.table.LinkTable.remove.Goals as goal

pub returns-in_default : goal.returns-in_default
returns-in_default c =
    let none : index_of c.args.name.now c.self.inside.links.items ≡ None = sym (c.self.invariant.by_name c.args.name.now) ∙ sym c.in_default.ensures.value in
    remove-none c.args.name.now c.self.inside.links.items none
    ∙ ap (λ (v : LinkTableView). filter (λ l. not (bytes_eq l.name c.args.name.now)) v.links) c.self.view_is

kept : (c : goal.After-retain) → c.retain.new.self.items ≡ filter (λ l. not (bytes_eq l.name c.args.name.now)) c.self.inside.links.items
kept c = filter_same _ (λ l. not (bytes_eq l.name c.args.name.now)) _ (λ x b f' k. search rules) c.self.inside.links.items c.retain.new.self.items c.retain.ensures.filtered

pub invariant_of-self-2 : goal.invariant_of-self-2
invariant_of-self-2 c =
    subst (λ ls. AreIndexed ls c.swap_remove.new.self.entries c.swap_remove-2.new.self.entries) (sym (kept c))
    (indexed-remove c.self.inside.links.items c.self.inside.by_name.entries c.swap_remove.new.self.entries c.self.inside.by_index.entries c.swap_remove-2.new.self.entries c.args.name.now c.in-Some.index
    c.self.invariant (sym (c.self.invariant.by_name c.args.name.now) ∙ sym c.in-Some.ensures.value) c.swap_remove.ensures.updates.0 c.swap_remove-2.ensures.updates.0)

pub returns : goal.returns
returns c = kept c ∙ ap (λ (v : LinkTableView). filter (λ l. not (bytes_eq l.name c.args.name.now)) v.links) c.self.view_is
