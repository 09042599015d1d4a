use Rattle.std.proofs.Common.{◌≡◌, ◌∙◌, sym, arith}
use Rattle.std.proofs.lemmas.Grind.{common_steps}
use Rattle.uid_ranges.specs.Ranges.{self_meets}
use Rattle.uid_ranges.proofs.Shared.{shared_of-self_meets, self_meets_at}
use Rattle.uid_ranges.proofs.list.+self_meets.Goals as goal

pub returns-then-meets_any-clause-shared : goal.returns-then-meets_any-clause-shared
returns-then-meets_any-clause-shared t c =
    let is : c.meets_any.result ≡ self_meets c.args.list.now = grind (arith, common_steps) in
    (λ yes. shared_of-self_meets c.args.list.now (sym is ∙ yes), λ two. is ∙ self_meets_at c.args.list.now two.earlier two.later two.uid two.in_order two.holds_earlier two.holds_later)

pub returns-else-meets_any-clause-shared : goal.returns-else-meets_any-clause-shared
returns-else-meets_any-clause-shared t c =
    let is : c.self_meets.result ≡ self_meets c.args.list.now = grind (arith, common_steps) in
    (λ yes. shared_of-self_meets c.args.list.now (sym is ∙ yes), λ two. is ∙ self_meets_at c.args.list.now two.earlier two.later two.uid two.in_order two.holds_earlier two.holds_later)
