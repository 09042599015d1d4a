use Rattle.std.proofs.Common.{◌∙◌, ◌==◌, ap, filter, refl}
use Rattle.std.proofs.lemmas.Result.{IfOk-weaker}
use Rattle.network_store.specs.Stored.{net_of}
use Rattle.networks.specs.declared.network.Network.{Network}
use Rattle.policy_state.specs.View.{StateView}
use Rattle.rule_compile.specs.PartOf.{unrouted_part}
use Rattle.rule_compile.specs.Touched as parts
use Rattle.rule_compile.proofs.TouchedRules.{stored-rules}
use Rattle.rule_compile.proofs.change_rules.stored_rules.Goals as goal

pub returns-in_ok-pairs-in-Whole : goal.returns-in_ok-pairs-in-Whole
returns-in_ok-pairs-in-Whole c = IfOk-weaker c.touched_rules.result _ _ (λ rules is. is ∙ stored-rules _ _ c.args.state.now (net_of c.args.network.now) _ c.in-Whole.is c.gone_part.ensures) c.touched_rules.ensures

pub returns-in_ok-pairs-in-LinkAndPairs : goal.returns-in_ok-pairs-in-LinkAndPairs
returns-in_ok-pairs-in-LinkAndPairs c =
    let s : StateView = c.args.state.now in
    let n : Network = net_of c.args.network.now in
    IfOk-weaker c.touched_rules-in-LinkAndPairs.result _ _ (λ rules is. is ∙ stored-rules _ _ s n _ c.in-LinkAndPairs.is (c.link_part-in-LinkAndPairs.ensures c.in-LinkAndPairs.link refl
    ∙ ap (λ ps. record (unrouted_part (parts.link_part s n c.in-LinkAndPairs.link)) { pairs = ps })
    (c.deref-in-LinkAndPairs.ensures.value ∙ (c.in_ok-pairs-in-LinkAndPairs.ensures ∙ ap (filter (λ p. p.out == c.in-LinkAndPairs.link)) c.pairs-in-LinkAndPairs.ensures)))) c.touched_rules-in-LinkAndPairs.ensures

pub returns-in_ok-ranked-in-RangesAt : goal.returns-in_ok-ranked-in-RangesAt
returns-in_ok-ranked-in-RangesAt c =
    let s : StateView = c.args.state.now in
    let n : Network = net_of c.args.network.now in
    IfOk-weaker c.touched_rules-in-RangesAt.result _ _ (λ rules is. is ∙ stored-rules _ _ s n _ c.in-RangesAt.is (c.ranges_part.ensures
    ∙ ap (λ rs. unrouted_part (parts.ranges_part s n rs)) (c.deref-in-RangesAt.ensures.value ∙ c.in_ok-ranked-in-RangesAt.ensures))) c.touched_rules-in-RangesAt.ensures

pub returns-in_ok-among-in-RangesAmong : goal.returns-in_ok-among-in-RangesAmong
returns-in_ok-among-in-RangesAmong c =
    let s : StateView = c.args.state.now in
    let n : Network = net_of c.args.network.now in
    IfOk-weaker c.touched_rules-in-RangesAmong.result _ _ (λ rules is. is ∙ stored-rules _ _ s n _ c.in-RangesAmong.is (c.ranges_part-in-RangesAmong.ensures
    ∙ ap (λ rs. unrouted_part (parts.ranges_part s n rs)) (c.deref-in-RangesAmong.ensures.value ∙ c.in_ok-among-in-RangesAmong.ensures))) c.touched_rules-in-RangesAmong.ensures
