use Rattle.std.proofs.Common.{◌≡◌, ◌+◌, ◌<◌, ◌++◌, ◌∷◌, [], List, length, take, ap, ◌∙◌, sym, arith, append_assoc}
use Rattle.std.proofs.lemmas.List.{take_more}
use Rattle.prefixes.specs.declared.addr.Family.TheVariants as family
use Rattle.rule_match.specs.declared.rule.Rule.{Rule}
use Rattle.kernel_model.specs.declared.request.Request.{Request}
use Rattle.kernel_model.specs.declared.request.Request.TheVariants as req
use Rattle.kernel_model.specs.Switch.{twins}
use Rattle.rule_compile.proofs.Twins.{twins-append}
use Rattle.rule_compile.proofs.requests.twins.Goals as goal

two_more : (none one two : List Request) (rules : List Rule) (rule : Rule) → none ≡ twins rules → one ≡ none ++ req.Rule family.V4 rule ∷ [] → two ≡ one ++ req.Rule family.V6 rule ∷ []
    → two ≡ twins (rules ++ rule ∷ [])
two_more none one two rules rule a b c =
    c ∙ (ap (λ qs. qs ++ req.Rule family.V6 rule ∷ []) (b ∙ ap (λ qs. qs ++ req.Rule family.V4 rule ∷ []) a)
    ∙ (append_assoc (twins rules) (req.Rule family.V4 rule ∷ []) (req.Rule family.V6 rule ∷ []) ∙ sym (twins-append rules (rule ∷ []))))

pub loop-rule-preserved : goal.loop-rule-preserved
loop-rule-preserved c =
    let within : c.loop-rule.rule-index < length c.args.rules.now = omega arith in
    let part : take (c.loop-rule.rule-index + 1) c.args.rules.now ≡ take c.loop-rule.rule-index c.args.rules.now ++ c.rule-item.result ∷ [] =
    take_more c.args.rules.now c.loop-rule.rule-index c.rule-item.result within ∙ ap (λ rule. take c.loop-rule.rule-index c.args.rules.now ++ rule ∷ []) (sym c.rule-item.is) in
    two_more _ _ _ (take c.loop-rule.rule-index c.args.rules.now) c.rule-item.result c.loop-rule.invariant c.in_ok-push.ensures.items c.in_ok-push-2.ensures.items
    ∙ ap twins (sym part)
