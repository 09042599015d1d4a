-- Routes in slots with one more and one fewer are still apart, and found at their places.
use Rattle.std.proofs.Common.{◌≡◌, ℕ, ◌<◌, Bool, true, false, cond, not, List, [], ◌∷◌, ◌++◌, length, Option, Some, None, is_some, slice_get, slice_set, sym, ap, subst, ◌∙◌, arith, vec_len, vec_capacity}
use Rattle.std.specs.List.{list_any}
use Rattle.std.specs.Map.{lookup}
use Rattle.std.specs.declared.vec.Vec.{Vec}
use Rattle.indexmap.specs.IndexMap.{IndexMap, spare}
use Rattle.list_lemmas.proofs.Pairs.{pairwise-filter, pairwise-push}
use Rattle.networks.specs.declared.network.LinkRoute.{LinkRoute}
use Rattle.route_store.specs.Keys.{same_route_key, same_route_key-Decides, key_of, are_apart}
use Rattle.route_store.specs.Slots.{present, room_of, IsPlaced}
use Rattle.route_store.specs.declared.key.RouteKey.{RouteKey}
use Rattle.route_store.proofs.Places.{present-append, place-push, place-any, place-clear, present-clear}

abbrev pub keyed : RouteKey → LinkRoute → Bool
keyed key r = same_route_key (key_of r) key

pub room-both : {A S : Type 0} (slots : Vec (Option LinkRoute) A) (places : IndexMap RouteKey ℕ S) → 0 < room_of slots places → (vec_len slots < vec_capacity slots) × (0 < spare places)
room-both slots places room = (omega (arith, room), omega (arith, room))

pub placed-add : (slots : List (Option LinkRoute)) (places places' : List (RouteKey × ℕ)) (r : LinkRoute) → IsPlaced slots places → list_any (keyed (key_of r)) (present slots) ≡ false
    → ((q : RouteKey) → lookup (same_route_key q) places' ≡ cond (same_route_key (key_of r) q) (Some (length slots)) (lookup (same_route_key q) places)) → IsPlaced (slots ++ Some r ∷ []) places'
placed-add slots places places' r old fresh put =
    record {
      apart = subst (λ rs. are_apart rs ≡ true) (sym (present-append slots (Some r ∷ []))) (pairwise-push (λ a b. same_route_key (key_of a) (key_of b)) (present slots) r old.apart fresh);
      by_key = λ q.
          put q ∙ ap (λ o. cond (same_route_key (key_of r) q) (Some (length slots)) o) (old.by_key q)
          ∙ sym (place-push same_route_key same_route_key-Decides key_of q slots r fresh);
    }

pub placed-clear : (slots : List (Option LinkRoute)) (places places' : List (RouteKey × ℕ)) (place : ℕ) (r : LinkRoute) → IsPlaced slots places → slice_get slots place ≡ Some (Some r)
    → ((q : RouteKey) → lookup (same_route_key q) places' ≡ cond (same_route_key (key_of r) q) None (lookup (same_route_key q) places)) → IsPlaced (slice_set slots place None) places'
placed-clear slots places places' place r old there taken =
    record {
      apart =
          subst (λ rs. are_apart rs ≡ true) (sym (present-clear same_route_key same_route_key-Decides key_of slots place r there old.apart))
          (pairwise-filter (λ a b. not (same_route_key (key_of a) (key_of b))) (λ x. not (same_route_key (key_of x) (key_of r))) (present slots) old.apart);
      by_key = λ q.
          taken q ∙ ap (λ o. cond (same_route_key (key_of r) q) None o) (old.by_key q)
          ∙ sym (place-clear same_route_key same_route_key-Decides key_of q slots place r there old.apart);
    }

-- no place, no route of the key
pub none-keyed : (slots : List (Option LinkRoute)) (places : List (RouteKey × ℕ)) (key : RouteKey) → IsPlaced slots places → lookup (same_route_key key) places ≡ None → list_any (keyed key) (present slots) ≡ false
none-keyed slots places key placed none = sym (place-any (keyed key) slots) ∙ ap is_some (sym (placed.by_key key) ∙ none)
