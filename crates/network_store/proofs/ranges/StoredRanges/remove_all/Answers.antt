use Rattle.std.proofs.Common.{◌≡◌, ◌∙◌, not, ap, rules}
use Rattle.std.proofs.lemmas.Fn.{filter_same}
use Rattle.uid_ranges.specs.Ranges.{has}
use Rattle.uid_ranges.specs.Ranks.{ranked_without, are_ranked}
use Rattle.uid_ranges.proofs.RankedLists.{are_ranked-filter}
use Rattle.network_store.specs.Ranges.{RangesView}
use Rattle.network_store.proofs.ranges.StoredRanges.remove_all.Goals as goal

kept : (c : goal.After-retain) → c.retain.new.self.items ≡ ranked_without c.self.inside.ranges.items c.args.gone.now
kept c = filter_same _ (λ r. not (has c.args.gone.now r.users)) _ (λ x b f' k. search rules) c.self.inside.ranges.items c.retain.new.self.items c.retain.ensures.filtered

pub invariant_of-self : goal.invariant_of-self
invariant_of-self c = ap are_ranked (kept c) ∙ are_ranked-filter (λ r. not (has c.args.gone.now r.users)) c.self.inside.ranges.items c.self.invariant

pub returns : goal.returns
returns c = kept c ∙ ap (λ (v : RangesView). ranked_without v.ranges c.args.gone.now) c.self.view_is
