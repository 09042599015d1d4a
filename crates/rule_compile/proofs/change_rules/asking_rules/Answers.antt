use Rattle.std.proofs.Common.{◌≡◌, ◌∙◌, Bool, true, if◌then◌else◌, rules, sym, ap}
use Rattle.std.proofs.lemmas.Result.{IfOk-weaker}
use Rattle.network_store.specs.Stored.{net_of}
use Rattle.rule_compile.specs.Touched as parts
use Rattle.rule_compile.proofs.TouchedRules.{part-rules}
use Rattle.rule_compile.proofs.change_rules.asking_rules.Goals as goal

pub returns : goal.returns
returns c =
    let asking : parts.Part = parts.asking_part c.args.state.now (net_of c.args.network.now) c.args.asked in
    let asks : parts.asks_other c.args.becomes (net_of c.args.network.now) ≡ true = search rules in
    IfOk-weaker c.touched_rules.result _ _ (λ rules is. is ∙ (part-rules _ asking c.asking_part.ensures ∙ sym (ap (λ (b : Bool). parts.part_rules (if b then asking else parts.no_part)) asks))) c.touched_rules.ensures
