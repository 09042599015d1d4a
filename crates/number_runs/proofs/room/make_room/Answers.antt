use Rattle.number_runs.proofs.Edits.{keeps-trans}
use Rattle.number_runs.proofs.room.make_room.Goals as goal

pub returns-in-Ok-clause-keeps : goal.returns-in-Ok-clause-keeps
returns-in-Ok-clause-keeps c = keeps-trans c.args.spare c.args.runs.now.items c.begin.new.runs.items c.widen.new.runs.items c.begin.ensures.keeps c.widen.ensures.keeps
