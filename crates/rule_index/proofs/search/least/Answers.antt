use Rattle.std.proofs.Common.{◌∙◌, refl, sym, ap, subst, length, arith, None}
use Rattle.std.proofs.lemmas.List.{length-map, length-drop}
use Rattle.rule_index.specs.declared.spot.Spot.{Spot}
use Rattle.rule_index.specs.declared.spot.Sorting.TheVariants.{ByKey}
use Rattle.rule_index.specs.Spots.{spot_by}
use Rattle.rule_index.specs.Sorted.{Rises, spots_by, place_of}
use Rattle.rule_index.specs.Search.{least, AreKeyed, IsKeyed}
use Rattle.rule_index.proofs.Places.{each-drop, rises-drop}
use Rattle.rule_index.proofs.Numbers.{next-spots}
use Rattle.rule_index.proofs.Leasts.{least-start, ended, jumps}
use Rattle.rule_index.proofs.search.least.Goals as goal

pub loop-number-init : goal.loop-number-init
loop-number-init c =
    let spots = spots_by ByKey c.args.rules.now c.args.keyed.now.numbers in
    let start : Spot = record { priority = c.args.from.now.priority; group = 0; value = 0; number = 0 } in
    let is = c.rest_from-rest.ensures in
    record {
      rises = subst Rises (sym is) (rises-drop (place_of start spots) spots c.requires.rises);
      keys = subst (AreKeyed c.args.rules.now) (sym is) (each-drop (IsKeyed c.args.rules.now) (place_of start spots) spots c.requires.keys);
      least =
          ap (least c.args.rules.now c.args.packet.now c.args.from.now None) is
          ∙ least-start c.args.rules.now c.args.packet.now c.args.from.now None spots (place_of start spots) refl;
    }

pub returns-then-is_past : goal.returns-then-is_past
returns-then-is_past c =
    let next = next-spots c.args.rules.now c.loop-number.rest c.next.new.self c.in-Some.number c.spot_by-spot.result (sym c.next.ensures.number ∙ c.in-Some.is) c.next.ensures.rest c.spot_by-spot.ensures in
    sym (ap (least c.args.rules.now c.args.packet.now c.args.from.now c.loop-number.found) next
    ∙ ended c.args.rules.now c.args.packet.now c.args.from.now c.loop-number.found c.spot_by-spot.result (spots_by ByKey c.args.rules.now c.next.new.self) (sym c.is_past.ensures ∙ c.if-is_past.true)
    (subst Rises next c.loop-number.invariant.rises))
    ∙ c.loop-number.invariant.least

pub loop-number-preserved-in-Some-jump : goal.loop-number-preserved-in-Some-jump
loop-number-preserved-in-Some-jump c =
    let next = next-spots c.args.rules.now c.loop-number.rest c.next.new.self c.in-Some.number c.spot_by-spot.result (sym c.next.ensures.number ∙ c.in-Some.is) c.next.ensures.rest c.spot_by-spot.ensures in
    let spots = spots_by ByKey c.args.rules.now c.next.new.self in
    let rises = subst Rises next c.loop-number.invariant.rises in
    let keys = subst (AreKeyed c.args.rules.now) next c.loop-number.invariant.keys in
    let is = c.skip.ensures in
    record {
      rises = subst Rises (sym is) (rises-drop (place_of c.in-Some-jump.target spots) spots rises.1);
      keys = subst (AreKeyed c.args.rules.now) (sym is) (each-drop (IsKeyed c.args.rules.now) (place_of c.in-Some-jump.target spots) spots keys.1);
      least =
          ap (least c.args.rules.now c.args.packet.now c.args.from.now c.loop-number.found) is
          ∙ sym (jumps c.args.rules.now c.args.packet.now c.args.from.now c.loop-number.found c.spot_by-spot.result c.in-Some-jump.target spots (sym c.jump.ensures ∙ c.in-Some-jump.is) rises keys)
          ∙ sym (ap (least c.args.rules.now c.args.packet.now c.args.from.now c.loop-number.found) next)
          ∙ c.loop-number.invariant.least;
    }

pub loop-number-smaller-in-Some-jump : goal.loop-number-smaller-in-Some-jump
loop-number-smaller-in-Some-jump c =
    let next = next-spots c.args.rules.now c.loop-number.rest c.next.new.self c.in-Some.number c.spot_by-spot.result (sym c.next.ensures.number ∙ c.in-Some.is) c.next.ensures.rest c.spot_by-spot.ensures in
    let f = spot_by ByKey c.args.rules.now in
    let spots = spots_by ByKey c.args.rules.now c.next.new.self in
    let shorter = ap length c.skip.ensures ∙ length-drop (place_of c.in-Some-jump.target spots) spots in
    let one = ap length next in
    let left = length-map c.skip.new.rest f in
    let all = length-map c.loop-number.rest f in
    omega (arith, shorter, one, left, all)
