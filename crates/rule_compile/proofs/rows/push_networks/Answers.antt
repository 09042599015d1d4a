use Rattle.std.proofs.Common.{◌<◌, ◌++◌, List, Option, length, map, ap, sym, ◌∙◌, arith}
use Rattle.std.specs.Option.{option_map}
use Rattle.list_lemmas.proofs.Places.{slice_get-past, take-next}
use Rattle.network_store.specs.Store.{nets_of}
use Rattle.network_store.specs.Stored.{net_of}
use Rattle.networks.specs.declared.network.Network.{Network}
use Rattle.policy_state.specs.Rows.{items_at}
use Rattle.policy_state.specs.Table.{rule_of}
use Rattle.policy_state.specs.declared.row.Item.{Item}
use Rattle.rule_compile.specs.Shapes.{shape_net}
use Rattle.rule_compile.proofs.RuleLists.{more-of}
use Rattle.rule_compile.proofs.Unrouted.{items-unrouted}
use Rattle.rule_compile.proofs.rows.push_networks.Goals as goal
use Rattle.rule_compile.proofs.rows.push_networks.Goals.{in-Some+in_ok-push_network, in_default}

pub loop-place-preserved : goal.loop-place-preserved
loop-place-preserved c = elim c.match-at.branch [
  | in-Some+in_ok-push_network w ↦
      let networks : List Network = nets_of c.args.networks.now in
      let n : Network = net_of w.in-Some.network.now in
      let home : Option Network = option_map shape_net c.args.home in
      rw w.rules-is (more-of (rule_of c.args.row.now) c.args.rules.now.items c.loop-place.rules.items _ networks c.loop-place.place n
      (take-next networks c.loop-place.place n (sym c.at.ensures ∙ ap (option_map (λ n. net_of n.now)) w.in-Some.is)) (items_at c.args.set c.args.part c.args.default home) c.loop-place.invariant
      (w.in_ok-push_network.ensures ∙ ap (λ (is : List Item). c.loop-place.rules.items ++ map (rule_of c.args.row.now) is)
      (ap (items_at c.args.set c.args.part c.args.default home) w.of.ensures ∙ items-unrouted c.args.set c.args.part c.args.default home n)))
  | in_default w ↦
      let past = slice_get-past (nets_of c.args.networks.now) c.loop-place.place (sym c.at.ensures ∙ ap (option_map (λ n. net_of n.now)) w.in_default.is) in
      let within : c.loop-place.place < length (nets_of c.args.networks.now) = omega (arith, c.loop-place-test.true, c.len-place-end.ensures.count) in
      absurd (omega (arith, past, within))
]
