-- What the law is told of these rules.
use Rattle.rule_law.specs.Rules.{Kind}
use Rattle.law_example.specs.Rules.{alike_rules, same_rule}
use Rattle.law_example.specs.declared.rule.Rule.{Rule}
use Rattle.law_example.specs.Sames.{alike-self, alike-both, alike-priority, same-self, same-is}

abbrev pub rule_kind : Kind Rule
rule_kind = record {
  priority = λ rule. rule.priority;
  alike = alike_rules;
  same = same_rule;
  alike_self = alike-self;
  alike_both = alike-both;
  alike_priority = alike-priority;
  same_self = same-self;
  same_is = same-is;
}
