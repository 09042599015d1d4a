use Rattle.std.proofs.Common.{◌≡◌, ◌∙◌, ◌||◌, Bool, true, false, ap, not, refl, rules}
use Rattle.std.proofs.lemmas.Fn.{filter_same}
use Rattle.std.proofs.lemmas.List.Elements.{filter_agree}
use Rattle.uid_ranges.specs.Range.{same_range}
use Rattle.uid_ranges.specs.declared.range.UidRange.{UidRange}
use Rattle.policy_state.proofs.commit.take_range.Goals as goal

or-false : (b : Bool) → b ≡ (b || false)
or-false true = refl
or-false false = refl

pub returns : goal.returns
returns c =
    filter_same _ (λ r. not (same_range r c.args.range.now)) _ (λ x b f' k. search rules) c.args.ranges.now.items c.retain.new.self.items c.retain.ensures.filtered
    ∙ filter_agree (λ (r : UidRange). not (same_range r c.args.range.now)) (λ r. not (same_range r c.args.range.now || false)) (λ r. ap not (or-false (same_range r c.args.range.now))) c.args.ranges.now.items
