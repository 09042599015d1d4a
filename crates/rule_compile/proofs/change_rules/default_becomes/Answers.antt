use Rattle.std.proofs.Common.{◌≡◌, ◌∙◌, ℕ, Bool, false, Option, if◌then◌else◌, sym, ap}
use Rattle.std.proofs.lemmas.Result.{IfOk-weaker}
use Rattle.rule_compile.specs.Touched as parts
use Rattle.rule_compile.proofs.TouchedRules.{part-rules}
use Rattle.rule_compile.proofs.change_rules.default_becomes.Goals as goal

pub returns : goal.returns
returns c =
    let becomes : parts.Part = parts.default_part c.args.state.now c.args.default in
    let other : parts.same_default c.args.state.now.default c.args.becomes ≡ false =
    ap (λ (d : Option ℕ). parts.same_default d c.args.becomes) (sym c.default_net.ensures) ∙ (sym c.same_default.ensures ∙ c.if-same_default.false) in
    IfOk-weaker c.touched_rules.result _ _ (λ rules is. is ∙ (part-rules _ becomes c.default_part.ensures
    ∙ sym (ap (λ (b : Bool). parts.part_rules (if b then parts.no_part else becomes)) other))) c.touched_rules.ensures
