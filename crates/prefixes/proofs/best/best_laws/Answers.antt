use Rattle.prefixes.proofs.Bests.{best-IsBest, IsBest-best, IsBest-one, best_none, none_best}
use Rattle.prefixes.proofs.best.best_laws.Goals as goal

pub returns-clause-exactly : goal.returns-clause-exactly
returns-clause-exactly c = λ r. (best-IsBest c.args.dest c.args.bound c.args.routes.now r, IsBest-best c.args.dest c.args.bound c.args.routes.now r)

pub returns-clause-one : goal.returns-clause-one
returns-clause-one c = IsBest-one c.args.dest c.args.bound c.args.routes.now

pub returns-clause-none : goal.returns-clause-none
returns-clause-none c = (best_none c.args.dest c.args.bound c.args.routes.now, none_best c.args.dest c.args.bound c.args.routes.now)
