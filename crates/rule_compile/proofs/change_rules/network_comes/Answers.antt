use Rattle.std.proofs.Common.{◌∙◌, refl}
use Rattle.std.proofs.lemmas.Result.{IfOk-weaker}
use Rattle.network_store.specs.Stored.{bare_net}
use Rattle.rule_compile.specs.Shapes.{shape_kind}
use Rattle.rule_compile.specs.Touched as parts
use Rattle.rule_compile.proofs.TouchedRules.{part-rules}
use Rattle.rule_compile.proofs.change_rules.network_comes.Goals as goal

pub returns : goal.returns
returns c =
    let network = bare_net c.args.net (shape_kind c.args.kind) in
    IfOk-weaker c.touched_rules.result _ _ (λ rules is. is ∙ part-rules _ (parts.new_part c.args.state.now network) (c.new_part.ensures network refl)) c.touched_rules.ensures
