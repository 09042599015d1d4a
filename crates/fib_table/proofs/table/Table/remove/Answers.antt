use Rattle.std.proofs.Common.{◌≡◌, not, ap, ◌∙◌, rules}
use Rattle.std.proofs.lemmas.Fn.{filter_same}
use Rattle.prefixes.specs.Route.{same_route}
use Rattle.fib_table.specs.Table.{TableView, without_route, are_keys_distinct}
use Rattle.fib_table.proofs.Keys.{are_keys_distinct-filter}
use Rattle.fib_table.proofs.table.Table.remove.Goals as goal

kept : (c : goal.After-retain) → c.retain.new.self.items ≡ without_route c.self.inside.routes.items c.args.route.now
kept c =
    filter_same _ (λ other. not (same_route other c.args.route.now)) _ (λ x b f' k. search rules)
    c.self.inside.routes.items c.retain.new.self.items c.retain.ensures.filtered

pub invariant_of-self : goal.invariant_of-self
invariant_of-self c =
    ap are_keys_distinct (kept c) ∙ are_keys_distinct-filter (λ other. not (same_route other c.args.route.now)) c.self.inside.routes.items c.self.invariant

pub returns-clause-routes : goal.returns-clause-routes
returns-clause-routes c = kept c ∙ ap (λ (v : TableView). without_route v.routes c.args.route.now) c.self.view_is
