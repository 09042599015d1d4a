use Rattle.std.proofs.Common.{◌≡◌, ◌∙◌, ◌++◌, ℕ, List, Option, IfOk, map, ap, sym, subst}
use Rattle.std.specs.Prelude.{flat_map}
use Rattle.std.specs.Option.{option_map}
use Rattle.networks.specs.declared.network.Network.{Network}
use Rattle.policy_state.specs.Rows.{default_of, items, items_at}
use Rattle.policy_state.specs.Table.{rule_of, rules_in}
use Rattle.policy_state.specs.View.{StateView}
use Rattle.policy_state.specs.declared.row.NetworkPart.{NetworkPart}
use Rattle.policy_state.specs.declared.row.NetworkSet.{NetworkSet}
use Rattle.policy_state.specs.declared.row.OnePer.{OnePer}
use Rattle.policy_state.specs.declared.row.OnePer.TheVariants.{EachOf}
use Rattle.policy_state.specs.declared.row.Row.{Row}
use Rattle.rule_match.specs.declared.rule.Rule.{Rule}
use Rattle.rule_compile.specs.Shapes.{unrouted}
use Rattle.rule_compile.proofs.Unrouted.{networks-unrouted}
use Rattle.rule_compile.proofs.table.push_row.Goals as goal

of-networks : (row : Row) (set : NetworkSet) (part : NetworkPart) (s : StateView) (d : Option ℕ) (home : Option Network) (networks : List Network)
    → row.per ≡ EachOf set part → d ≡ s.default → home ≡ option_map unrouted (default_of s) → networks ≡ s.networks
    → map (rule_of row) (flat_map (items_at set part d home) networks) ≡ rules_in s row
of-networks row set part s d home networks per default is are =
    ap (map (rule_of row))
    ((λ i. flat_map (items_at set part (default i) (is i)) (are i))
    ∙ (networks-unrouted set part s.default (default_of s) s.networks ∙ sym (ap (λ (p : OnePer). items p s) per)))

pub returns-in-EachOf : goal.returns-in-EachOf
returns-in-EachOf c =
    subst (λ (made : List Rule). IfOk c.push_networks.result (λ x. c.push_networks.new.rules.items ≡ c.args.rules.now.items ++ made))
    (of-networks c.args.row.now c.in-EachOf.set c.in-EachOf.part c.args.state.now _ _ _ c.in-EachOf.is c.default_net.ensures c.requires.home c.networks-networks.ensures.value) c.push_networks.ensures
