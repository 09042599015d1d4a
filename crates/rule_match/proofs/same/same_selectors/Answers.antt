use Rattle.std.proofs.Common.{◌≡◌, ◌∙◌, sym, rules}
use Rattle.rule_match.specs.Rule.{same_selectors}
use Rattle.rule_match.proofs.Sames.{same_selectors-true, same_selectors-from}
use Rattle.rule_match.proofs.same.same_selectors.Goals as goal

pub returns-then-same_link-2-clause-equal : goal.returns-then-same_link-2-clause-equal
returns-then-same_link-2-clause-equal c =
    let a = c.args.a.now in
    let b = c.args.b.now in
    let value : c.same_uids.result ≡ same_selectors a b = search rules in
    (λ h. same_selectors-true a b (sym value ∙ h), λ same. value ∙ same_selectors-from a b same)
