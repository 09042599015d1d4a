-- What the two-lists law knows of a kernel's rules.
use Rattle.rule_law.specs.Rules.{Kind}
use Rattle.rule_match.specs.Rule.{same_rule}
use Rattle.rule_match.specs.declared.rule.Rule.{Rule}
use Rattle.rule_match.proofs.Sames.{same_rule-true, same_rule-refl}
use Rattle.rule_kinds.specs.KindLaws.{alike, alike_self, alike_both, alike_priority}

abbrev pub rule_kind : Kind Rule
rule_kind = record {
  priority = λ r. r.priority;
  alike = alike;
  same = same_rule;
  alike_self = alike_self;
  alike_both = alike_both;
  alike_priority = alike_priority;
  same_self = same_rule-refl;
  same_is = same_rule-true;
}
