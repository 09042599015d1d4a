use Rattle.std.proofs.Common.{ap, refl}
use Rattle.word_text.specs.declared.values.Values.{Values}
use Rattle.script_reader.proofs.UsersParts.{no-rank}
use Rattle.script_reader.proofs.say.users_parts.Goals as goal

pub returns-then-rank-eq0 : goal.returns-then-rank-eq0
returns-then-rank-eq0 c =
    no-rank c.args.net c.args.rank c.args.ranges.now _ c.args.ranges c.if-rank-eq0.true (ap (λ (v : Values). record v { net = c.args.net }) c.nothing-none.ensures) refl
