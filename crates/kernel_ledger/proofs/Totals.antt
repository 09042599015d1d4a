-- The number of the routes of all tables, after a request.
use Rattle.std.proofs.Common.{◌≡◌, ℕ, zero, suc, ◌+◌, ◌<◌, ◌≤◌, ◌==◌, List, [], ◌∷◌, length, map, set, get_or, refl, sym, ◌∙◌, ap, arith, inl, inr, length-append}
use Rattle.std.proofs.lemmas.Bool.{cases_Bool}
use Rattle.list_lemmas.proofs.Anys.{length-filter-le}
use Rattle.prefixes.specs.Route.{same_route}
use Rattle.prefixes.specs.declared.route.Route.{Route}
use Rattle.std.specs.Prelude.{not}
use Rattle.kernel_model.specs.State.{KernelState, NumberedTable, put_route, cut_route}
use Rattle.kernel_model.specs.Journal.{act, replay_from}
use Rattle.kernel_model.specs.declared.request.Entry.{Entry}
use Rattle.kernel_model.specs.declared.request.EntryKind.{EntryKind}
use Rattle.kernel_model.specs.declared.request.EntryKind.TheVariants.{Added, Deleted, Refused, Broken}
use Rattle.kernel_model.specs.declared.request.Request.{Request}
use Rattle.kernel_model.specs.declared.request.Request.TheVariants as req
use Rattle.prefixes.specs.declared.addr.Family.TheVariants as fam
use Rattle.kernel_ledger.specs.Tables.{RoomyTable, table_of, empty, route_total}

-- one more
pub total-put : (n : ℕ) (r : Route) (ts : List NumberedTable) → route_total (put_route n r ts) ≡ route_total ts + 1
total-put n r [] = refl
total-put n r (t ∷ ts) = elim (cases_Bool (t.number == n)) as (λ _. route_total (put_route n r (t ∷ ts)) ≡ route_total (t ∷ ts) + 1) [
  | inl hit ↦ rw hit (omega (arith, length-append t.routes (r ∷ [])))
  | inr miss ↦ rw miss (omega (arith, total-put n r ts))
]

-- no more than before
total-cut : (n : ℕ) (r : Route) (ts : List NumberedTable) → route_total (cut_route n r ts) ≤ route_total ts
total-cut n r [] = omega arith
total-cut n r (t ∷ ts) = elim (cases_Bool (t.number == n)) as (λ _. route_total (cut_route n r (t ∷ ts)) ≤ route_total (t ∷ ts)) [
  | inl hit ↦ rw hit (omega (arith, length-filter-le (λ other. not (same_route other r)) t.routes))
  | inr miss ↦ rw miss (omega (arith, total-cut n r ts))
]

total-act : (k : KernelState) (kind : EntryKind) (q : Request) → route_total (act k kind q).tables ≤ route_total k.tables + 1
total-act k Added (req.Rule fam.V4 rule) = omega arith
total-act k Added (req.Rule fam.V6 rule) = omega arith
total-act k Added (req.Route n r) = omega (arith, total-put n r k.tables)
total-act k Deleted (req.Rule fam.V4 rule) = omega arith
total-act k Deleted (req.Rule fam.V6 rule) = omega arith
total-act k Deleted (req.Route n r) = omega (arith, total-cut n r k.tables)
total-act k Refused q = omega arith
total-act k Broken q = omega arith

-- at most one more for each entry
pub total-replay : (k : KernelState) (es : List Entry) → route_total (replay_from k es).tables ≤ route_total k.tables + length es
total-replay k [] = omega arith
total-replay k (e ∷ es) = omega (arith, total-act k e.kind e.request, total-replay (act k e.kind e.request) es)

-- a table in the place of another
pub total-set : (ts : List RoomyTable) (i : ℕ) (w : RoomyTable) → i < length ts
    → route_total (map table_of (set ts i w)) + length (get_or ts i empty).routes ≡ route_total (map table_of ts) + length w.routes
total-set [] i w h = absurd (omega (arith, h))
total-set (t ∷ ts) zero w h = omega arith
total-set (t ∷ ts) (suc i) w h = omega (arith, total-set ts i w (omega (arith, h)))

-- the count after an addition
pub total_added : (n : ℕ) (r : Route) (old new : List RoomyTable) (tables : List NumberedTable) (total : ℕ) → map table_of old ≡ tables → total ≡ route_total (map table_of old)
    → map table_of new ≡ put_route n r tables → total + 1 ≡ route_total (map table_of new)
total_added n r old new tables total view counted put =
    ap (λ k. k + 1) (counted ∙ ap route_total view) ∙ sym (ap route_total put ∙ total-put n r tables)
