-- A route was put last in its chain, or taken out of it.
use Rattle.std.proofs.Common.{◌≡◌, ℕ, ◌<◌, ◌≤◌, true, false, List, [], ◌∷◌, ◌++◌, length, set, get_or, Option, Some, None, refl, sym, ◌∙◌, ap, subst, arith, is_some}
use Rattle.std.specs.List.{find, list_any}
use Rattle.std.specs.Option.{option_map}
use Rattle.std.proofs.lemmas.Bool.{false≢true}
use Rattle.std.proofs.lemmas.List.{length-set}
use Rattle.std.proofs.lemmas.Option.{none-some, same_Some}
use Rattle.prefixes.specs.Route.{same_route}
use Rattle.prefixes.specs.declared.route.Route.{Route}
use Rattle.prefixes.proofs.Sames.{same_route-true}
use Rattle.route_chains.specs.declared.slot.Slot.{Slot}
use Rattle.route_chains.specs.Chains.{Chained, chain_of, TakesOut}
use Rattle.route_chains.specs.Places.{held}
use Rattle.route_chains.specs.Links.{entry_of, entries_of, IsNext, AreWithin, AreChains, with_next, relinked, reheaded}
use Rattle.route_chains.specs.Found.{past, route_at, IsOf, IsFound}
use Rattle.route_chains.proofs.Standing.{held-within, held-unset}
use Rattle.route_chains.proofs.Nexts.{one_of}
use Rattle.route_chains.proofs.Entries.{entries_of-append, entries_of-relinked, entries_of-emptied, is_some-find, find-passes}
use Rattle.route_chains.proofs.Edits.{grown, links_added, heads_added, within_added, cut, links_cut, heads_cut, within_cut}

length-reheaded : (heads : List (Option ℕ)) (k : ℕ) (before next : Option ℕ) → length (reheaded heads k before next) ≡ length heads
length-reheaded heads k None next = length-set heads k next
length-reheaded heads k (Some b) next = refl

pub before_within : (k : ℕ) (xs : List (Option Slot)) (before : Option ℕ) → IsOf k xs before → (b : ℕ) → before ≡ Some b → b < length xs
before_within k xs before is b at = let one = one_of k xs b (subst (IsOf k xs) at is) in held-within xs b one.slot one.stands

find-nothing : (rs : List Route) → find (λ _. false) rs ≡ None
find-nothing [] = refl
find-nothing (r ∷ rs) = find-nothing rs

-- a search for nothing ends at the chain's end
at_end : (xs : List (Option Slot)) (k : ℕ) (head before at : Option ℕ) → IsFound xs k head (λ _. false) before at → IsNext k xs (past before) None
at_end xs k head before None found = found.next
at_end xs k head before (Some place) found =
    let one = one_of k xs place found.next.1 in
    absurd (none-some one.slot.route (sym (find-nothing (chain_of k (entries_of xs))) ∙ found.value ∙ ap (option_map (λ (s : Slot). s.route)) one.stands))

module _ (xs : List (Option Slot)) (heads : List (Option ℕ)) (k : ℕ) (chains : AreChains xs heads) (there : k < length heads) (before at : Option ℕ) where
  module _ (route : Route) (found : IsFound xs k (get_or heads k None) (λ _. false) before at) (place : ℕ) (last : place ≡ length xs) (mid new : List (Option Slot)) (new_heads : List (Option ℕ))
      (relinks : mid ≡ relinked xs before (Some place)) (reheads : new_heads ≡ reheaded heads k before (Some place)) (pushes : new ≡ mid ++ Some (record { chain = k; route = route; next = None }) ∷ []) where
    mid_is : mid ≡ relinked xs before (Some (length xs))
    mid_is = relinks ∙ ap (λ n. relinked xs before (Some n)) last

    new_is : new ≡ grown xs heads k before chains.linked chains.begun found.before_is (at_end xs k (get_or heads k None) before at found) route
    new_is = pushes ∙ ap (λ (l : List (Option Slot)). l ++ Some (record { chain = k; route = route; next = None }) ∷ []) mid_is

    heads_are : new_heads ≡ reheaded heads k before (Some (length xs))
    heads_are = reheads ∙ ap (λ n. reheaded heads k before (Some n)) last

    pub added : AreChains new new_heads
    added = subst (λ l. AreChains l new_heads) (sym new_is) (subst (AreChains (grown xs heads k before chains.linked chains.begun found.before_is (at_end xs k (get_or heads k None) before at found) route)) (sym heads_are)
        (record {
          linked = links_added xs heads k before chains.linked chains.begun found.before_is (at_end xs k (get_or heads k None) before at found) route;
          begun = heads_added xs heads k before chains.linked chains.begun found.before_is (at_end xs k (get_or heads k None) before at found) route there;
          within = subst (AreWithin _) (sym (length-reheaded heads k before (Some (length xs)))) (within_added xs heads k before chains.linked chains.begun found.before_is (at_end xs k (get_or heads k None) before at found) route there chains.within);
        }))

    pub entries_added : entries_of new ≡ entries_of xs ++ record { chain = k; route = route } ∷ []
    entries_added =
        ap entries_of pushes ∙ entries_of-append mid (Some (record { chain = k; route = route; next = None }) ∷ [])
        ∙ ap (λ (es : List Chained). es ++ record { chain = k; route = route } ∷ []) (ap entries_of relinks ∙ entries_of-relinked xs before (Some place))

  module _ (route : Route) (found : IsFound xs k (get_or heads k None) (λ r. same_route r route) before at) where
    -- a chain that has the route is searched with success
    pub cut_misses : list_any (λ r. same_route r route) (chain_of k (entries_of xs)) ≡ true → ((place : ℕ) → at ≡ Some place → ⊥) → ⊥
    cut_misses has none = false≢true (sym (of at none) ∙ sym (ap is_some found.value) ∙ is_some-find (λ r. same_route r route) (chain_of k (entries_of xs)) ∙ has)
      where
        of : (o : Option ℕ) → ((place : ℕ) → o ≡ Some place → ⊥) → is_some (route_at xs o) ≡ false
        of None none = refl
        of (Some place) none = absurd (none place refl)

    module _ (place : ℕ) (is : at ≡ Some place) (slot : Slot) (stands : held xs place ≡ Some slot) where
      next : IsNext k xs (past before) (Some place)
      next = subst (IsNext k xs (past before)) is found.next

      pub place_within : place < length xs
      place_within = held-within xs place slot stands

      of_k : slot.chain ≡ k
      of_k = let one = one_of k xs place next.1 in ap (λ (s : Slot). s.chain) (same_Some slot one.slot (sym stands ∙ one.stands)) ∙ one.chain

      mine : slot.route ≡ route
      mine =
          same_route-true slot.route route
          (find-passes (λ r. same_route r route) (chain_of k (entries_of xs)) slot.route
          (found.value ∙ ap (route_at xs) is ∙ ap (option_map (λ (s : Slot). s.route)) stands))

      apart : (b : ℕ) → before ≡ Some b → place ≡ b → ⊥
      apart b at same = let le = subst (λ o. past o ≤ place) at next.0 in omega (arith, le, same)

      stays : (b : Option ℕ) → before ≡ b → held (relinked xs b slot.next) place ≡ Some slot
      stays None is = stands
      stays (Some b) is = held-unset xs b place (option_map (with_next slot.next) (held xs b)) (apart b is) ∙ stands

      module _ (mid new : List (Option Slot)) (new_heads : List (Option ℕ)) (relinks : mid ≡ relinked xs before slot.next) (reheads : new_heads ≡ reheaded heads k before slot.next) (empties : new ≡ set mid place None) where
        cut_is : new ≡ cut xs heads k before chains.linked chains.begun found.before_is place slot stands of_k next
        cut_is = empties ∙ ap (λ (l : List (Option Slot)). set l place None) relinks

        pub removed : AreChains new new_heads
        removed = subst (λ l. AreChains l new_heads) (sym cut_is) (subst (AreChains (cut xs heads k before chains.linked chains.begun found.before_is place slot stands of_k next)) (sym reheads)
            (record {
              linked = links_cut xs heads k before chains.linked chains.begun found.before_is place slot stands of_k next;
              begun = heads_cut xs heads k before chains.linked chains.begun found.before_is place slot stands of_k next there;
              within = subst (AreWithin _) (sym (length-reheaded heads k before slot.next)) (within_cut xs heads k before chains.linked chains.begun found.before_is place slot stands of_k next chains.within);
            }))

        pub entries_removed : TakesOut (entries_of xs) (entries_of new) (record { chain = k; route = route })
        entries_removed =
            let cut_out = entries_of-emptied (relinked xs before slot.next) place slot (stays before refl) in
            let entry : entry_of slot ≡ record { chain = k; route = route } = ap (λ c. record { chain = c; route = slot.route }) of_k ∙ ap (λ r. record { chain = k; route = r }) mine in
            subst (TakesOut (entries_of xs) (entries_of new)) entry
            (subst (λ es. TakesOut es (entries_of new) (entry_of slot)) (entries_of-relinked xs before slot.next)
            (subst (λ es. TakesOut (entries_of (relinked xs before slot.next)) es (entry_of slot)) (sym (ap entries_of (empties ∙ ap (λ (l : List (Option Slot)). set l place None) relinks))) cut_out))
