use Rattle.std.proofs.Common.{◌≡◌, ◌∙◌, ◌+◌, cond, ◌∷◌, Some, false, length, drop, slice_get, sym, ap, subst, refl, arith}
use Rattle.std.specs.List.{list_any}
use Rattle.std.proofs.lemmas.Bool.{or_parts}
use Rattle.std.proofs.lemmas.Option.{slice_get_read}
use Rattle.list_lemmas.proofs.Places.{drop-next}
use Rattle.uid_ranges.specs.Ranges.{meets_any, self_meets, AreDisjoint}
use Rattle.uid_ranges.specs.declared.ranked.Ranked.{Ranked}
use Rattle.network_store.specs.RankIndex.{owner_of, clash, put, any_meets, same_ranked}
use Rattle.network_store.proofs.Owned.{meets-head, meets-put, more-owned}
use Rattle.network_store.proofs.rank_index.RankIndex.insert_all.Goals.{After-ranked}
use Rattle.network_store.proofs.rank_index.RankIndex.insert_all.Goals as goal

item : (c : After-ranked) → slice_get c.args.more.now c.loop-users.users-index ≡ Some c.users-item.result
item c = slice_get_read c.args.more.now (length c.args.more.now) c.loop-users.users-index c.users-item.result refl (omega (arith, c.loop-users-test.true)) c.users-item.is

-- the range that comes next and those after it meet none
none : (c : After-ranked) → any_meets c.args.rank (c.users-item.result ∷ drop (c.loop-users.users-index + 1) c.args.more.now) c.loop-users.self.ranges ≡ false
none c = subst (λ xs. any_meets c.args.rank xs c.loop-users.self.ranges ≡ false) (drop-next c.args.more.now c.loop-users.users-index c.users-item.result (item c)) c.loop-users.invariant.3

pub insert-requires-clause-apart : goal.insert-requires-clause-apart
insert-requires-clause-apart c =
    let rest = drop (c.loop-users.users-index + 1) c.args.more.now in
    subst (λ (one : Ranked). list_any (λ e. clash e.range one) c.loop-users.self.ranges ≡ false) (sym c.ranked.ensures)
    (meets-head c.args.rank c.users-item.result rest c.loop-users.self.ranges (none (goal.at.insert-requires-clause-apart c).After-ranked))

pub loop-users-preserved : goal.loop-users-preserved
loop-users-preserved c =
    let more = c.args.more.now in
    let i = c.loop-users.users-index in
    let u = c.users-item.result in
    let rest = drop (i + 1) more in
    let here = (goal.at.loop-users-preserved c).After-ranked in
    let apart = or_parts (meets_any u rest) (self_meets rest) (subst AreDisjoint (drop-next more i u (item here)) c.loop-users.invariant.2) in (
      λ r.
          more-owned c.args.rank c.args.owner more i u (owner_of c.loop-users.self.ranges r) (owner_of c.insert.new.self.ranges r) (owner_of c.args.self.now.ranges r) r (item here)
          (c.insert.ensures.owners r ∙ ap (λ one. cond (same_ranked one r) (Some c.args.owner) (owner_of c.loop-users.self.ranges r)) c.ranked.ensures) (c.loop-users.invariant.0 r),
      omega (arith, c.loop-users.invariant.1, c.insert.ensures.room),
      apart.1,
      subst (λ xs. any_meets c.args.rank rest xs ≡ false) (sym (c.insert.ensures.ranges ∙ ap (λ one. put (record { range = one; owner = c.args.owner }) c.loop-users.self.ranges) c.ranked.ensures))
          (meets-put c.args.rank c.args.owner u rest c.loop-users.self.ranges (none here) apart.0),
    )
