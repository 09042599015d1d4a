-- Tables of routes, by the place of a table.
use Rattle.std.proofs.Common.{◌≡◌, ℕ, zero, suc, ◌+◌, ◌<◌, ◌≤◌, ◌==◌, List, [], ◌∷◌, ◌++◌, length, map, set, get_or, refl, sym, ◌∙◌, ap, subst, arith, inl, inr, Option}
use Rattle.std.proofs.lemmas.Bool.{cases_Bool}
use Rattle.std.proofs.Math.Numerals.{one-add}
use Rattle.std.proofs.lemmas.List.{get_or_default, map-append, length-set, get_or-set_same}
use Rattle.std.proofs.lemmas.List.Folds.{position_or_len-set}
use Rattle.kernel_ledger.specs.Room.{HasRoom}
use Rattle.fib_table.specs.Table.{without_route}
use Rattle.kernel_model.specs.State.{NumberedTable, routes_of, put_route, cut_route}
use Rattle.prefixes.specs.declared.route.Route.{Route}
use Rattle.kernel_ledger.specs.Tables.{RoomyTable, table_of, place_of, empty}

module _ (n : ℕ) where
  pub routes_there : (ts : List RoomyTable) → place_of n ts < length ts → routes_of n (map table_of ts) ≡ (get_or ts (place_of n ts) empty).routes
  routes_there [] h = refl
  routes_there (t ∷ ts) h = elim (cases_Bool (t.number == n)) as (λ _. routes_of n (map table_of (t ∷ ts)) ≡ (get_or (t ∷ ts) (place_of n (t ∷ ts)) empty).routes) [
    | inl hit ↦ rw hit refl
    | inr miss ↦
        let k : 1 + place_of n ts < suc (length ts) = rw miss at h in
        rw (miss, one-add) (routes_there ts (omega (arith, k)))
  ]

  pub routes_nowhere : (ts : List RoomyTable) → length ts ≤ place_of n ts → routes_of n (map table_of ts) ≡ []
  routes_nowhere [] h = refl
  routes_nowhere (t ∷ ts) h = elim (cases_Bool (t.number == n)) as (λ _. routes_of n (map table_of (t ∷ ts)) ≡ []) [
    | inl hit ↦ let k : suc (length ts) ≤ 0 = rw hit at h in absurd (omega (arith, k))
    | inr miss ↦
        let k : suc (length ts) ≤ 1 + place_of n ts = rw miss at h in
        rw miss (routes_nowhere ts (omega (arith, k)))
  ]

  pub put_there : (ts : List RoomyTable) (r : Route) (w : RoomyTable) → place_of n ts < length ts → w.number ≡ (get_or ts (place_of n ts) empty).number → w.routes ≡ (get_or ts (place_of n ts) empty).routes ++ r ∷ []
      → map table_of (set ts (place_of n ts) w) ≡ put_route n r (map table_of ts)
  put_there [] r w h num rs = absurd (omega (arith, h))
  put_there (t ∷ ts) r w h num rs = elim (cases_Bool (t.number == n)) as (λ _. map table_of (set (t ∷ ts) (place_of n (t ∷ ts)) w) ≡ put_route n r (map table_of (t ∷ ts))) [
    | inl hit ↦
        let num' : w.number ≡ t.number = rw hit at num in
        let rs' : w.routes ≡ t.routes ++ r ∷ [] = rw hit at rs in
        rw (hit, num', rs') refl
    | inr miss ↦
        let k : 1 + place_of n ts < suc (length ts) = rw miss at h in
        let num' : w.number ≡ (get_or ts (place_of n ts) empty).number = rw (miss, one-add) at num in
        let rs' : w.routes ≡ (get_or ts (place_of n ts) empty).routes ++ r ∷ [] = rw (miss, one-add) at rs in
        rw (miss, one-add) (ap (λ l. table_of t ∷ l) (put_there ts r w (omega (arith, k)) num' rs'))
  ]

  pub put_last : (ts : List RoomyTable) (r : Route) → length ts ≤ place_of n ts → map table_of ts ++ record { number = n; routes = r ∷ [] } ∷ [] ≡ put_route n r (map table_of ts)
  put_last [] r h = refl
  put_last (t ∷ ts) r h = elim (cases_Bool (t.number == n)) as (λ _. map table_of (t ∷ ts) ++ record { number = n; routes = r ∷ [] } ∷ [] ≡ put_route n r (map table_of (t ∷ ts))) [
    | inl hit ↦ let k : suc (length ts) ≤ 0 = rw hit at h in absurd (omega (arith, k))
    | inr miss ↦
        let k : suc (length ts) ≤ 1 + place_of n ts = rw miss at h in
        rw miss (ap (λ l. table_of t ∷ l) (put_last ts r (omega (arith, k))))
  ]

  pub cut_there : (ts : List RoomyTable) (r : Route) (w : RoomyTable) → place_of n ts < length ts → w.number ≡ (get_or ts (place_of n ts) empty).number → w.routes ≡ without_route (get_or ts (place_of n ts) empty).routes r
      → map table_of (set ts (place_of n ts) w) ≡ cut_route n r (map table_of ts)
  cut_there [] r w h num rs = absurd (omega (arith, h))
  cut_there (t ∷ ts) r w h num rs = elim (cases_Bool (t.number == n)) as (λ _. map table_of (set (t ∷ ts) (place_of n (t ∷ ts)) w) ≡ cut_route n r (map table_of (t ∷ ts))) [
    | inl hit ↦
        let num' : w.number ≡ t.number = rw hit at num in
        let rs' : w.routes ≡ without_route t.routes r = rw hit at rs in
        rw (hit, num', rs') refl
    | inr miss ↦
        let k : 1 + place_of n ts < suc (length ts) = rw miss at h in
        let num' : w.number ≡ (get_or ts (place_of n ts) empty).number = rw (miss, one-add) at num in
        let rs' : w.routes ≡ without_route (get_or ts (place_of n ts) empty).routes r = rw (miss, one-add) at rs in
        rw (miss, one-add) (ap (λ l. table_of t ∷ l) (cut_there ts r w (omega (arith, k)) num' rs'))
  ]

-- a table whose number and routes stay is the same table
pub same_there : (ts : List RoomyTable) (i : ℕ) (w : RoomyTable) → w.number ≡ (get_or ts i empty).number → w.routes ≡ (get_or ts i empty).routes → map table_of (set ts i w) ≡ map table_of ts
same_there [] i w num rs = refl
same_there (t ∷ ts) zero w num rs = rw (num, rs) refl
same_there (t ∷ ts) (suc i) w num rs = ap (λ l. table_of t ∷ l) (same_there ts i w num rs)

-- the same, of a view and at the place that was found
module _ (n : ℕ) (ts : List RoomyTable) (tables : List NumberedTable) (view : map table_of ts ≡ tables) where
  pub found_routes : (i : ℕ) (t : RoomyTable) → (i ≡ place_of n ts) × (place_of n ts < length ts) → t ≡ get_or ts i t → t.routes ≡ routes_of n tables
  found_routes i t found is =
      let at : t ≡ get_or ts (place_of n ts) empty = is ∙ ap (λ k. get_or ts k t) found.0 ∙ get_or_default ts (place_of n ts) t empty found.1 in
      ap (λ (u : RoomyTable). u.routes) at ∙ sym (routes_there n ts found.1) ∙ ap (routes_of n) view

  pub found_there : (i : ℕ) → (i ≡ place_of n ts) × (place_of n ts < length ts) → routes_of n tables ≡ (get_or ts i empty).routes
  found_there i found = ap (routes_of n) (sym view) ∙ routes_there n ts found.1 ∙ ap (λ k. (get_or ts k empty).routes) (sym found.0)

  pub no_routes : length ts ≤ place_of n ts → [] ≡ routes_of n tables
  no_routes past = sym (routes_nowhere n ts past) ∙ ap (routes_of n) view

  pub found_put : (i : ℕ) (r : Route) (new : List RoomyTable) → (i ≡ place_of n ts) × (place_of n ts < length ts)
      → (w : RoomyTable) × (new ≡ set ts i w) × (w.number ≡ (get_or ts i empty).number) × (w.routes ≡ (get_or ts i empty).routes ++ r ∷ []) → map table_of new ≡ put_route n r tables
  found_put i r new found put =
      let P : ℕ → Type 0 = λ k. (w : RoomyTable) × (new ≡ set ts k w) × (w.number ≡ (get_or ts k empty).number) × (w.routes ≡ (get_or ts k empty).routes ++ r ∷ []) in
      let there = subst P found.0 put in
      ap (map table_of) there.1 ∙ put_there n ts r there.0 found.1 there.2 there.3 ∙ ap (put_route n r) view

  pub last_put : (r : Route) (new : List RoomyTable) → length ts ≤ place_of n ts → (w : RoomyTable) × (new ≡ ts ++ w ∷ []) × (w.number ≡ n) × (w.routes ≡ r ∷ []) → map table_of new ≡ put_route n r tables
  last_put r new past put =
      let w = put.0 in
      ap (map table_of) put.1 ∙ map-append table_of ts (w ∷ []) ∙ ap (λ t. map table_of ts ++ t ∷ []) (same_table w n (r ∷ []) put.2 put.3) ∙ put_last n ts r past ∙ ap (put_route n r) view
    where
      same_table : (w : RoomyTable) (n : ℕ) (rs : List Route) → w.number ≡ n → w.routes ≡ rs → ◌≡◌ {A = NumberedTable} (table_of w) (record { number = n; routes = rs })
      same_table w n rs num routes = rw (num, routes) refl

  pub found_cut : (i : ℕ) (r : Route) (new : List RoomyTable) → (i ≡ place_of n ts) × (place_of n ts < length ts)
      → (w : RoomyTable) × (new ≡ set ts i w) × (w.number ≡ (get_or ts i empty).number) × (w.routes ≡ without_route (get_or ts i empty).routes r) × ((get_or ts i empty).room ≤ w.room)
      → map table_of new ≡ cut_route n r tables
  found_cut i r new found cut =
      let P : ℕ → Type 0 = λ k. (w : RoomyTable) × (new ≡ set ts k w) × (w.number ≡ (get_or ts k empty).number) × (w.routes ≡ without_route (get_or ts k empty).routes r) × ((get_or ts k empty).room ≤ w.room) in
      let there = subst P found.0 cut in
      ap (map table_of) there.1 ∙ cut_there n ts r there.0 found.1 there.2 there.3 ∙ ap (cut_route n r) view

  -- room was made where the table is
  pub found_ready : (i : ℕ) (new : List RoomyTable) (more : ℕ) (fresh : Option RoomyTable) → (i ≡ place_of n ts) × (place_of n ts < length ts)
      → (w : RoomyTable) → new ≡ set ts i w → w.number ≡ (get_or ts i empty).number → 0 < w.room → HasRoom n new more fresh
  found_ready i new more fresh found w is num room =
      let place : place_of n new ≡ place_of n ts = ap (place_of n) is ∙ position_or_len-set (λ (t : RoomyTable). t.number == n) ts i w empty (ap (λ k. k == n) num) in
      let long : length new ≡ length ts = ap length is ∙ length-set ts i w in
      let at : get_or new (place_of n new) empty ≡ w =
      ap (λ k. get_or new k empty) (place ∙ sym found.0) ∙ ap (λ l. get_or l i empty) is ∙ get_or-set_same ts i w empty (omega (arith, found.0, found.1)) in
      record {
        there = λ h. subst (λ (t : RoomyTable). 0 < t.room) (sym at) room;
        last = λ h. absurd (omega (arith, h, place, long, found.1));
        aside = λ h. absurd (omega (arith, h, place, long, found.1));
      }
