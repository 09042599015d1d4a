-- Two rules of equal priority and equal selectors.
use Rattle.std.specs.Prelude.{◌≡◌, ◌==◌, ◌&&◌, Bool, true, refl}
use Rattle.std.proofs.lemmas.Bool.{and_parts, and_from, eqb-true}
use Rattle.list_lemmas.proofs.Numbers.{eqb-refl}
use Rattle.rule_match.specs.Rule.{same_selectors}
use Rattle.rule_match.specs.declared.rule.Rule.{Rule}
use Rattle.rule_match.proofs.Sames.{same_selectors-true, same_selectors-refl}

-- equal priority and equal selectors
abbrev pub alike : Rule → Rule → Bool
alike a b = (a.priority == b.priority) && same_selectors a b

pub alike_self : (a : Rule) → alike a a ≡ true
alike_self a = and_from _ _ (eqb-refl a.priority) (same_selectors-refl a)

pub alike_priority : (a b : Rule) → alike a b ≡ true → a.priority ≡ b.priority
alike_priority a b h = eqb-true a.priority b.priority (and_parts _ _ h).0

pub alike_both : (a b c : Rule) → alike a b ≡ true → alike a c ≡ alike b c
alike_both a b c h =
    let priority = alike_priority a b h in
    let same = same_selectors-true a b (and_parts _ _ h).1 in
    rw (priority, same.mark, same.mask, same.incoming, same.outgoing, same.uids) refl
