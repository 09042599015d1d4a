use Rattle.std.proofs.Common.{◌∙◌, sym, ap, subst, ◌==◌, find}
use Rattle.std.specs.Map.{values_of}
use Rattle.std.specs.Option.{IfSome}
use Rattle.std.proofs.lemmas.Result.{on_ok_weaker}
use Rattle.network_store.specs.Stored.{HasRangeRoom}
use Rattle.network_store.specs.Store.{nets_of, nets_in, AreIndexed}
use Rattle.network_store.proofs.Entries.{set-same, indexed-same, room-set, room-none}
use Rattle.network_store.proofs.store.StoredNetworks.reserve_ranges.Goals as goal

pub returns-in_default-clause-room : goal.returns-in_default-clause-room
returns-in_default-clause-room c = (
  subst (λ es. IfSome (find (λ n. c.args.id == n.id) (values_of es)) (HasRangeRoom c.args.more)) (ap (λ m. m.entries) (sym c.get_mut.follows.holds-at-none))
      (room-none c.args.id (HasRangeRoom c.args.more) c.self.inside.by_id.entries c.self.invariant.at_ids (sym c.in_default.ensures.value)),
  c.in_ok-reserve.ensures.room,
  c.in_ok-reserve-2.ensures.room,
)

pub invariant_of-self-2 : goal.invariant_of-self-2
invariant_of-self-2 c =
    let wrote = c.get_mut.follows.holds c.reserve_ranges.new.self in
    let es = c.self.inside.by_id.entries in
    let links = c.self.inside.by_link.entries in
    let users = c.reserve.new.self.ranges in
    let apps = c.reserve-2.new.self.ranges in
    let old = subst (AreIndexed es links users) (sym c.in_ok-reserve-2.ensures.ranges) (subst (λ u. AreIndexed es links u c.self.inside.apps.ranges) (sym c.in_ok-reserve.ensures.ranges) c.self.invariant) in
    subst (λ es. AreIndexed es links users apps) (sym wrote.0)
    (indexed-same c.args.id es links users apps c.in-Some.network.now c.reserve_ranges.new.self old c.in-Some.ensures.value c.reserve_ranges.ensures.net c.reserve_ranges.ensures.same_id)

pub returns-clause-nets : goal.returns-clause-nets
returns-clause-nets c =
    let wrote = c.get_mut.follows.holds c.reserve_ranges.new.self in
    ap nets_in wrote.0 ∙ set-same c.args.id c.self.inside.by_id.entries c.in-Some.network.now c.reserve_ranges.new.self c.in-Some.ensures.value c.reserve_ranges.ensures.net ∙ ap nets_of c.self.view_is

pub returns-clause-room : goal.returns-clause-room
returns-clause-room c =
    let wrote = c.get_mut.follows.holds c.reserve_ranges.new.self in
    on_ok_weaker c.reserve_ranges.result
    (λ h. (
      subst (λ es. IfSome (find (λ n. c.args.id == n.id) (values_of es)) (HasRangeRoom c.args.more)) (sym wrote.0)
          (room-set c.args.id (HasRangeRoom c.args.more) c.self.inside.by_id.entries c.in-Some.network.now c.reserve_ranges.new.self c.self.invariant.at_ids c.in-Some.ensures.value c.reserve_ranges.ensures.same_id h),
      c.in_ok-reserve.ensures.room,
      c.in_ok-reserve-2.ensures.room,
    ))
    c.reserve_ranges.ensures.room
