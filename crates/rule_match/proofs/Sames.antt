-- The tests of equality are true exactly where two values are equal.
use Rattle.std.proofs.Common.{◌≡◌, ℕ, ◌==◌, true, Option, refl, sym, ◌∙◌, ap}
use Rattle.std.specs.Option.{option_eq}
use Rattle.std.proofs.lemmas.Bool.{and_parts, and_from, eqb-true, false≢true}
use Rattle.prefixes.specs.Addr.{same_addr}
use Rattle.list_lemmas.proofs.Numbers.{eqb-refl}
use Rattle.list_lemmas.proofs.Options.{option_eq-true, option_eq-refl}
use Rattle.prefixes.proofs.Sames.{same_addr-true, same_addr-refl}
use Rattle.uid_ranges.specs.Range.{same_range}
use Rattle.uid_ranges.proofs.Same.{same_range-true, same_range-self}
use Rattle.uid_ranges.specs.declared.range.UidRange.{UidRange}
use Rattle.rule_match.specs.Rule.{matches, same_action, same_selectors, same_rule, AreSelectorsEqual}
use Rattle.rule_match.specs.Verdict.{same_verdict}
use Rattle.rule_match.specs.declared.packet.Packet.{Packet}
use Rattle.rule_match.specs.declared.rule.Action.{Action}
use Rattle.rule_match.specs.declared.rule.Action.TheVariants as action
use Rattle.rule_match.specs.declared.rule.Rule.{Rule}
use Rattle.rule_match.specs.declared.verdict.Verdict.{Verdict}
use Rattle.rule_match.specs.declared.verdict.Verdict.TheVariants as verdict

pub same_action-true : (a b : Action) → same_action a b ≡ true → a ≡ b
same_action-true (action.Table a) (action.Table b) h = ap action.Table (eqb-true a b h)
same_action-true action.Prohibit action.Prohibit h = refl
same_action-true action.Unreachable action.Unreachable h = refl
same_action-true _ _ h = absurd (false≢true h)

pub same_action-refl : (a : Action) → same_action a a ≡ true
same_action-refl (action.Table a) = eqb-refl a
same_action-refl action.Prohibit = refl
same_action-refl action.Unreachable = refl

pub same_selectors-true : (a b : Rule) → same_selectors a b ≡ true → AreSelectorsEqual a b
same_selectors-true a b h =
    let mark = and_parts _ _ h in
    let mask = and_parts _ _ mark.1 in
    let incoming = and_parts _ _ mask.1 in
    let outgoing = and_parts _ _ incoming.1 in
    record {
      mark = eqb-true a.mark b.mark mark.0;
      mask = eqb-true a.mask b.mask mask.0;
      incoming = option_eq-true ◌==◌ eqb-true a.incoming b.incoming incoming.0;
      outgoing = option_eq-true ◌==◌ eqb-true a.outgoing b.outgoing outgoing.0;
      uids = option_eq-true same_range same_range-true a.uids b.uids outgoing.1;
    }

pub same_selectors-from : (a b : Rule) → AreSelectorsEqual a b → same_selectors a b ≡ true
same_selectors-from a b same =
    and_from _ _ (ap (λ n. a.mark == n) (sym same.mark) ∙ eqb-refl a.mark)
    (and_from _ _ (ap (λ n. a.mask == n) (sym same.mask) ∙ eqb-refl a.mask)
    (and_from _ _ (ap (option_eq ◌==◌ a.incoming) (sym same.incoming) ∙ option_eq-refl ◌==◌ eqb-refl a.incoming)
    (and_from _ _ (ap (option_eq ◌==◌ a.outgoing) (sym same.outgoing) ∙ option_eq-refl ◌==◌ eqb-refl a.outgoing)
    (ap (option_eq same_range a.uids) (sym same.uids) ∙ option_eq-refl same_range same_range-self a.uids))))

pub same_selectors-refl : (a : Rule) → same_selectors a a ≡ true
same_selectors-refl a = same_selectors-from a a (record { mark = refl; mask = refl; incoming = refl; outgoing = refl; uids = refl })

pub same_selectors-sym : (a b : Rule) → same_selectors a b ≡ true → same_selectors b a ≡ true
same_selectors-sym a b h =
    let same = same_selectors-true a b h in
    same_selectors-from b a (record { mark = sym same.mark; mask = sym same.mask; incoming = sym same.incoming; outgoing = sym same.outgoing; uids = sym same.uids })

pub same_selectors-trans : (a b c : Rule) → same_selectors a b ≡ true → same_selectors b c ≡ true → same_selectors a c ≡ true
same_selectors-trans a b c h k =
    let first = same_selectors-true a b h in
    let second = same_selectors-true b c k in
    same_selectors-from a c (record {
      mark = first.mark ∙ second.mark;
      mask = first.mask ∙ second.mask;
      incoming = first.incoming ∙ second.incoming;
      outgoing = first.outgoing ∙ second.outgoing;
      uids = first.uids ∙ second.uids;
    })

-- equal selectors match the same packets
pub same_selectors-matches : (a b : Rule) (p : Packet) → same_selectors a b ≡ true → matches a p ≡ matches b p
same_selectors-matches a b p h =
    let same = same_selectors-true a b h in
    rw (same.mark, same.mask, same.incoming, same.outgoing, same.uids) refl

abbrev rule_from : ℕ → ℕ → ℕ → Option ℕ → Option ℕ → Option UidRange → Action → Rule
rule_from priority mark mask incoming outgoing uids action =
    record { priority = priority; mark = mark; mask = mask; incoming = incoming; outgoing = outgoing; uids = uids; action = action }

pub rule_is : (a b : Rule) → a.priority ≡ b.priority → AreSelectorsEqual a b → a.action ≡ b.action → a ≡ b
rule_is a b priority same does =
    ap (λ x. rule_from x a.mark a.mask a.incoming a.outgoing a.uids a.action) priority
    ∙ ap (λ x. rule_from b.priority x a.mask a.incoming a.outgoing a.uids a.action) same.mark
    ∙ ap (λ x. rule_from b.priority b.mark x a.incoming a.outgoing a.uids a.action) same.mask
    ∙ ap (λ x. rule_from b.priority b.mark b.mask x a.outgoing a.uids a.action) same.incoming
    ∙ ap (λ x. rule_from b.priority b.mark b.mask b.incoming x a.uids a.action) same.outgoing
    ∙ ap (λ x. rule_from b.priority b.mark b.mask b.incoming b.outgoing x a.action) same.uids
    ∙ ap (λ x. rule_from b.priority b.mark b.mask b.incoming b.outgoing b.uids x) does

pub same_rule-true : (a b : Rule) → same_rule a b ≡ true → a ≡ b
same_rule-true a b h =
    let priority = and_parts _ _ h in
    let selectors = and_parts _ _ priority.1 in
    rule_is a b (eqb-true a.priority b.priority priority.0) (same_selectors-true a b selectors.0) (same_action-true a.action b.action selectors.1)

pub same_rule-refl : (a : Rule) → same_rule a a ≡ true
same_rule-refl a = and_from _ _ (eqb-refl a.priority) (and_from _ _ (same_selectors-refl a) (same_action-refl a.action))

pub same_verdict-true : (a b : Verdict) → same_verdict a b ≡ true → a ≡ b
same_verdict-true verdict.Local verdict.Local same = refl
same_verdict-true (verdict.Out i g) (verdict.Out j h) same =
    let parts = and_parts (i == j) (option_eq same_addr g h) same in
    ap (λ x. verdict.Out x g) (eqb-true i j parts.0) ∙ ap (verdict.Out j) (option_eq-true same_addr same_addr-true g h parts.1)
same_verdict-true verdict.Prohibited verdict.Prohibited same = refl
same_verdict-true verdict.Unreachable verdict.Unreachable same = refl
same_verdict-true _ _ same = absurd (false≢true same)

pub same_verdict-refl : (a : Verdict) → same_verdict a a ≡ true
same_verdict-refl verdict.Local = refl
same_verdict-refl (verdict.Out i g) = and_from _ _ (eqb-refl i) (option_eq-refl same_addr same_addr-refl g)
same_verdict-refl verdict.Prohibited = refl
same_verdict-refl verdict.Unreachable = refl
