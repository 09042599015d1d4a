-- The tests of rules tell what they say.
use Rattle.std.proofs.Common.{◌≡◌, ℕ, true, Option, Some, None, refl, ap, ◌∙◌}
use Rattle.std.specs.Prelude.{◌==◌, ◌&&◌}
use Rattle.std.proofs.lemmas.Bool.{eqb-true, eq-eqb, and_parts, and_from, false≢true}
use Rattle.law_example.specs.Rules.{same_mark, alike_rules, same_rule}
use Rattle.law_example.specs.declared.rule.Rule.{Rule}

same_mark-self : (m : Option ℕ) → same_mark m m ≡ true
same_mark-self None = refl
same_mark-self (Some n) = eq-eqb n n refl

same_mark-is : (m n : Option ℕ) → same_mark m n ≡ true → m ≡ n
same_mark-is None None h = refl
same_mark-is None (Some n) h = absurd (false≢true h)
same_mark-is (Some m) None h = absurd (false≢true h)
same_mark-is (Some m) (Some n) h = ap (λ x. Some x) (eqb-true m n h)

pub alike-self : (a : Rule) → alike_rules a a ≡ true
alike-self a = and_from (a.priority == a.priority) (same_mark a.mark a.mark) (eq-eqb a.priority a.priority refl) (same_mark-self a.mark)

-- what equal priority and selectors give
record AreAlike (a b : Rule) : Type 0 where
  priority : a.priority ≡ b.priority
  mark : a.mark ≡ b.mark

alike-is : (a b : Rule) → alike_rules a b ≡ true → AreAlike a b
alike-is a b h =
    let t : (a.priority == b.priority ≡ true) × (same_mark a.mark b.mark ≡ true) = and_parts (a.priority == b.priority) (same_mark a.mark b.mark) h in
    record { priority = eqb-true a.priority b.priority t.0; mark = same_mark-is a.mark b.mark t.1 }

pub alike-priority : (a b : Rule) → alike_rules a b ≡ true → a.priority ≡ b.priority
alike-priority a b h = (alike-is a b h).priority

pub alike-both : (a b c : Rule) → alike_rules a b ≡ true → alike_rules a c ≡ alike_rules b c
alike-both a b c h =
    let t : AreAlike a b = alike-is a b h in
    ap (λ priority. (priority == c.priority) && same_mark a.mark c.mark) t.priority
    ∙ ap (λ mark. (b.priority == c.priority) && same_mark mark c.mark) t.mark

pub same-self : (a : Rule) → same_rule a a ≡ true
same-self a = and_from (alike_rules a a) (a.table == a.table) (alike-self a) (eq-eqb a.table a.table refl)

pub same-is : (a b : Rule) → same_rule a b ≡ true → a ≡ b
same-is a b h =
    let t : (alike_rules a b ≡ true) × (a.table == b.table ≡ true) = and_parts (alike_rules a b) (a.table == b.table) h in
    let like : AreAlike a b = alike-is a b t.0 in
    let table : a.table ≡ b.table = eqb-true a.table b.table t.1 in
    λ i. record { priority = like.priority i; mark = like.mark i; table = table i }
