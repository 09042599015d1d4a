use Rattle.std.proofs.Common.{◌≡◌, ◌<◌, ◌+◌, ◌++◌, ◌∙◌, ℕ, List, None, length, length-append, map, take, drop, get_or, sym, ap, arith}
use Rattle.std.proofs.lemmas.List.{get_or_default, take-append-drop, length-map}
use Rattle.std.proofs.lemmas.List.Edits.{map_over_more}
use Rattle.route_store.specs.Slots.{unlinked}
use Rattle.route_store.proofs.slots.clear_linked.Goals as goal

length-done : {X : Type 0} (f : X → X) (i : ℕ) (xs : List X) → length (map f (take i xs) ++ drop i xs) ≡ length xs
length-done f i xs =
    length-append (map f (take i xs)) (drop i xs) ∙ ap (λ n. n + length (drop i xs)) (length-map (take i xs) f) ∙ sym (length-append (take i xs) (drop i xs))
    ∙ ap length (take-append-drop i xs)

pub loop-place-preserved : goal.loop-place-preserved
loop-place-preserved c =
    let old = c.args.slots.now.items in
    let now = c.loop-place.slots.items in
    let place = c.loop-place.place in
    let within : place < length old = omega (arith, c.loop-place-test.true, c.len-place-end.ensures, c.args.slots.now.ok.0) in
    let long : length now ≡ length old = ap length c.loop-place.invariant.1 ∙ length-done (unlinked c.args.link) place old in (
      c.clear_if_linked.ensures.placed,
      c.clear_if_linked.ensures.slots
          ∙ map_over_more (unlinked c.args.link) old now place (get_or now place None) within c.loop-place.invariant.1 (get_or_default now place None (get_or now place None) (omega (arith, within, long))),
    )
