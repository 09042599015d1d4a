-- The rules of a table that give a packet something are alike.
use Rattle.std.proofs.Common.{◌≡◌, List, true, is_some, inl, inr}
use Rattle.std.proofs.lemmas.Bool.{cases_Bool, false≢true, and_from, eq-eqb}
use Rattle.rule_law.specs.Rules.{has, GiversAreAlike}
use Rattle.rule_match.specs.Rule.{matches, same_selectors}
use Rattle.rule_match.specs.declared.packet.Packet.{Packet}
use Rattle.rule_match.specs.declared.rule.Rule.{Rule}
use Rattle.rule_kinds.specs.Kind.{rule_kind}
use Rattle.kernel_model.specs.State.{NumberedTable}
use Rattle.kernel_model.specs.Walk.{rule_gives}

-- a rule that gives a packet something matches it
giver-matches : (tables : List NumberedTable) (p : Packet) (x : Rule) → is_some (rule_gives tables p x) ≡ true → matches x p ≡ true
giver-matches tables p x h = elim (cases_Bool (matches x p)) [ inl t ↦ t | inr t ↦ absurd (false≢true (rw t at h)) ]

-- where rules of equal priority that match the packet have equal selectors
pub givers-alike : (rules : List Rule) (tables : List NumberedTable) (p : Packet)
    → ((x y : Rule) → has rule_kind rules x ≡ true → has rule_kind rules y ≡ true → x.priority ≡ y.priority → matches x p ≡ true → matches y p ≡ true → same_selectors x y ≡ true)
    → GiversAreAlike rule_kind (rule_gives tables p) rules
givers-alike rules tables p alike = λ x y in_x in_y same gives_x gives_y.
    and_from _ _ (eq-eqb x.priority y.priority same) (alike x y in_x in_y same (giver-matches tables p x gives_x) (giver-matches tables p y gives_y))
