use Rattle.std.proofs.Common.{◌≡◌, ◌∙◌, sym, rules}
use Rattle.uid_ranges.specs.Ranges.{lists_meet}
use Rattle.uid_ranges.proofs.Shared.{shared_of-lists_meet, lists_meet_from_shared}
use Rattle.uid_ranges.proofs.list.RangeList.meets.Goals as goal

pub returns-clause-shared : goal.returns-clause-shared
returns-clause-shared c =
    let is : c.lists_meet.result ≡ lists_meet c.args.self.now c.args.list.now = search rules in
    (λ yes. shared_of-lists_meet c.args.self.now c.args.list.now (sym is ∙ yes), λ shared. is ∙ lists_meet_from_shared c.args.self.now c.args.list.now shared)
