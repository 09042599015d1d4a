use Rattle.std.proofs.Common.{◌≡◌, ◌∙◌, ap, sym}
use Rattle.std.specs.Option.{option_map}
use Rattle.rule_law.specs.Rules.{without}
use Rattle.kernel_model.specs.Kind.{rule_kind}
use Rattle.rule_index.specs.declared.spot.Sorting.TheVariants.{ByKey}
use Rattle.rule_index.specs.Spots.{spot_by}
use Rattle.rule_index.specs.Index.{IndexView, IsIndexed, listed_of}
use Rattle.rule_index.proofs.Changed.{cut_out, none_out}
use Rattle.rule_index.proofs.index.RuleIndexRuleStore.cut.Goals.{After-cut-in-Some}
use Rattle.rule_index.proofs.index.RuleIndexRuleStore.cut.Goals as goal

-- what the two lists hold
joined : (c : After-cut-in-Some)
    → IsIndexed c.self.inside.rules.items c.cut.new.list.numbers c.cut-in-Some.new.list.numbers
    × (listed_of c.self.inside.rules.items c.cut.new.list.numbers ≡ without rule_kind c.args.rule.now (listed_of c.self.inside.rules.items c.self.inside.order.numbers))
joined c =
    let found = rw (c.deref.ensures.value, c.keyed_of.ensures) at c.first_same.ensures in
    cut_out c.self.inside.rules.items c.self.inside.order.numbers c.self.inside.keyed.numbers c.self.invariant c.args.rule.now c.in-Some.number c.cut.new.list.numbers c.cut-in-Some.new.list.numbers
    (sym found ∙ ap (option_map (spot_by ByKey c.self.inside.rules.items)) c.in-Some.is)
    (rw c.deref-in-Some.ensures.value at c.cut.ensures.items) (rw c.deref-in-Some-2.ensures.value at c.cut-in-Some.ensures.items)

pub invariant_of-self : goal.invariant_of-self
invariant_of-self c = (joined c).0

pub returns-in-Some-clause-rules : goal.returns-in-Some-clause-rules
returns-in-Some-clause-rules c = (joined c).1 ∙ ap (λ (v : IndexView). without rule_kind c.args.rule.now v.list) c.self.view_is

pub returns-in_default-clause-rules : goal.returns-in_default-clause-rules
returns-in_default-clause-rules c =
    let found = rw (c.deref.ensures.value, c.keyed_of.ensures) at c.first_same.ensures in
    let same = none_out c.self.inside.rules.items c.self.inside.order.numbers c.self.inside.keyed.numbers c.self.invariant c.args.rule.now
    (sym found ∙ ap (option_map (spot_by ByKey c.self.inside.rules.items)) c.in_default.is) in
    ap (λ (v : IndexView). v.list) (sym c.self.view_is) ∙ sym same ∙ ap (λ (v : IndexView). without rule_kind c.args.rule.now v.list) c.self.view_is
