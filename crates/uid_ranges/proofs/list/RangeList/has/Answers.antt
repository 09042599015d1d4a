use Rattle.std.proofs.Common.{◌≡◌, ◌∙◌, sym, rules}
use Rattle.uid_ranges.specs.Ranges.{has}
use Rattle.uid_ranges.proofs.Same.{Contains-from_has, has-from_Contains}
use Rattle.uid_ranges.proofs.list.RangeList.has.Goals as goal

pub returns-clause-there : goal.returns-clause-there
returns-clause-there c =
    let is : c.is_among.result ≡ has c.args.self.now c.args.range = search rules in
    (λ yes. Contains-from_has c.args.self.now c.args.range (sym is ∙ yes), λ there. is ∙ has-from_Contains c.args.self.now c.args.range there)
