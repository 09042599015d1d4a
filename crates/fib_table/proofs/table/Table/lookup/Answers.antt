use Rattle.std.proofs.Common.{◌≡◌, ◌∙◌, sym, rules}
use Rattle.prefixes.specs.Best.{best}
use Rattle.prefixes.proofs.Bests.{best-IsBest, IsBest-best}
use Rattle.fib_table.proofs.table.Table.lookup.Goals as goal

pub returns-clause-exactly : goal.returns-clause-exactly
returns-clause-exactly c = λ r.
    let routes = c.args.self.now.routes in
    let value : c.best_route.result ≡ best routes c.args.addr c.args.bound = search rules in
    (λ found. best-IsBest c.args.addr c.args.bound routes r (sym value ∙ found), λ is. value ∙ IsBest-best c.args.addr c.args.bound routes r is)
