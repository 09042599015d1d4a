use Rattle.std.proofs.Common.{◌==◌, ◌∙◌, None, sym, ap}
use Rattle.route_store.proofs.Counted.{count, count-none, count-others, linked-other, counted-by}
use Rattle.route_store.proofs.store.RouteStore.remove_link.Goals as goal

pub invariant_of-self : goal.invariant_of-self
invariant_of-self c =
    λ q.
    counted-by c.self.inside.routes.routes c.remove_link.new.self.routes c.self.inside.counts.entries c.swap_remove.new.self.entries c.args.link None c.self.invariant c.swap_remove.ensures.updates.0
    (count-none c.args.link c.self.inside.routes.routes ∙ sym (ap (count c.args.link) c.remove_link.ensures))
    (λ q other. ap (count q) c.remove_link.ensures ∙ count-others (λ r. r.link == c.args.link) q (linked-other c.args.link q other) c.self.inside.routes.routes) q
