use Rattle.std.proofs.Common.{◌∙◌, nat_lt, unwrap_or, length, ap}
use Rattle.list_lemmas.proofs.Positions.{unwrap_position}
use Rattle.law_example.proofs.kernel.place_for.Goals as goal

pub returns-clause-place : goal.returns-clause-place
returns-clause-place c =
    c.unwrap_or.ensures ∙ ap (λ o. unwrap_or o (length c.args.rules.now)) c.first_behind.ensures
    ∙ unwrap_position (λ other. nat_lt c.args.priority other.priority) c.args.rules.now
