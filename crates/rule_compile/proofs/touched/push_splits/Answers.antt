use Rattle.std.proofs.Common.{◌≡◌, ◌∙◌, ◌++◌, List, [], Option, length, map, arith, rules, sym, ap}
use Rattle.std.specs.Option.{option_map}
use Rattle.std.proofs.lemmas.List.{append-nil, nil_from_length}
use Rattle.networks.specs.declared.network.Network.{Network}
use Rattle.policy_state.specs.Rows.{links_of}
use Rattle.policy_state.specs.Table.{rule_of}
use Rattle.policy_state.specs.declared.row.Item.{Item}
use Rattle.rule_compile.specs.PartOf.{part_of}
use Rattle.rule_compile.specs.Shapes.{shape_net}
use Rattle.rule_compile.specs.Touched as parts
use Rattle.rule_compile.specs.declared.shape.Shape.{Shape}
use Rattle.rule_compile.proofs.Unrouted.{split-empty}
use Rattle.rule_compile.proofs.touched.push_splits.Goals as goal

pub returns-in_default : goal.returns-in_default
returns-in_default c =
    let home : Option Network = option_map shape_net c.args.touched.now.home in
    let none : links_of home ≡ [] = ap (λ (h : Option Shape). links_of (option_map shape_net h)) c.in_default.is in
    sym (ap (λ (is : List Item). c.args.rules.now.items ++ map (rule_of c.args.row.now) is)
    (split-empty c.args.set c.args.touched.now.default home (parts.splitting (part_of c.args.touched.now)) none) ∙ append-nil c.args.rules.now.items)

pub returns-then-is_empty : goal.returns-then-is_empty
returns-then-is_empty c =
    let home : Option Network = option_map shape_net c.args.touched.now.home in
    let length_is : length c.in-Some.home.links.now ≡ 0 = first_of (search rules, grind (arith, c.if-is_empty.true, c.is_empty.ensures)) in
    let empty : c.in-Some.home.links.now ≡ [] = nil_from_length c.in-Some.home.links.now length_is in
    let none : links_of home ≡ [] = ap (λ (h : Option Shape). links_of (option_map shape_net h)) c.in-Some.is ∙ empty in
    sym (ap (λ (is : List Item). c.args.rules.now.items ++ map (rule_of c.args.row.now) is)
    (split-empty c.args.set c.args.touched.now.default home (parts.splitting (part_of c.args.touched.now)) none) ∙ append-nil c.args.rules.now.items)
