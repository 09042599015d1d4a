-- Going along a chain.
use Rattle.std.proofs.Common.{◌≡◌, ℕ, ◌+◌, ◌-◌, ◌<◌, Bool, true, false, List, ◌∷◌, length, Option, Some, None, refl, sym, ◌∙◌, ap, subst, arith}
use Rattle.std.specs.List.{find}
use Rattle.std.specs.Option.{option_map, option_and_then}
use Rattle.std.proofs.lemmas.Option.{none-some}
use Rattle.prefixes.specs.declared.route.Route.{Route}
use Rattle.route_chains.specs.declared.slot.Slot.{Slot}
use Rattle.route_chains.specs.Chains.{chain_of}
use Rattle.route_chains.specs.Places.{held}
use Rattle.route_chains.specs.Links.{entries_of, IsNext, AreLinked}
use Rattle.route_chains.specs.Found.{past, link_of, IsOf, IsFound}
use Rattle.route_chains.proofs.Standing.{held-within}
use Rattle.route_chains.proofs.Nexts.{one_of}
use Rattle.route_chains.proofs.Entries.{rest, rest_next, rest_none, rest_here}

-- as IsFound, with the value yet to be found from here on
pub record IsAlong (slots : List (Option Slot)) (k : ℕ) (head : Option ℕ) (test : Route → Bool) (before at : Option ℕ) : Type 0 where
  pub before_is : IsOf k slots before
  pub linked : link_of slots head before ≡ at
  pub next : IsNext k slots (past before) at
  pub value : find test (chain_of k (entries_of slots)) ≡ find test (rest k slots (past before))

-- how many places are left
abbrev pub left : ℕ → Option ℕ → ℕ
left n None = 0
left n (Some place) = n + 1 - place

module _ (slots : List (Option Slot)) (k : ℕ) (head : Option ℕ) (test : Route → Bool) where
  pub along_start : IsNext k slots 0 head → IsAlong slots k head test None head
  along_start next = record { before_is = tt; linked = refl; next = next; value = refl }

  pub along_ended : (before : Option ℕ) → IsAlong slots k head test before None → IsFound slots k head test before None
  along_ended before a = record { before_is = a.before_is; linked = a.linked; next = a.next; value = a.value ∙ ap (find test) (rest_none k slots (past before) a.next) }

  module _ (before : Option ℕ) (place : ℕ) (a : IsAlong slots k head test before (Some place)) where
    pub along_nowhere : held slots place ≡ None → ⊥
    along_nowhere none = let one = one_of k slots place a.next.1 in none-some one.slot (sym none ∙ one.stands)

    module _ (s : Slot) (at : held slots place ≡ Some s) where
      of_chain : s.chain ≡ k
      of_chain = let one = one_of k slots place a.next.1 in ap (λ (x : Slot). x.chain) (same s one.slot (sym at ∙ one.stands)) ∙ one.chain
        where
          same : (x y : Slot) → Some x ≡ Some y → x ≡ y
          same x y is = cc

      here : find test (chain_of k (entries_of slots)) ≡ find test (s.route ∷ rest k slots (place + 1))
      here = a.value ∙ ap (find test) (rest_next k slots (past before) place a.next ∙ rest_here k slots place s at of_chain)

      pub along_found : test s.route ≡ true → IsFound slots k head test before (Some place)
      along_found pass = record { before_is = a.before_is; linked = a.linked; next = a.next; value = here ∙ first pass ∙ sym (ap (option_map (λ (x : Slot). x.route)) at) }
        where
          first : test s.route ≡ true → find test (s.route ∷ rest k slots (place + 1)) ≡ Some s.route
          first is = rw is refl

      module _ (links : AreLinked slots) where
        after : IsNext k slots (place + 1) s.next
        after = subst (λ c. IsNext c slots (place + 1) s.next) of_chain (links place s at)

        pub along_on : test s.route ≡ false → IsAlong slots k head test (Some place) s.next
        along_on fail = record { before_is = a.next.1; linked = ap (option_and_then (λ (x : Slot). x.next)) at; next = after; value = here ∙ later fail }
          where
            later : test s.route ≡ false → find test (s.route ∷ rest k slots (place + 1)) ≡ find test (rest k slots (place + 1))
            later is = rw is refl

        pub along_shorter : left (length slots) s.next < left (length slots) (Some place)
        along_shorter = of s.next after
          where
            of : (o : Option ℕ) → IsNext k slots (place + 1) o → left (length slots) o < left (length slots) (Some place)
            of None next = let within = held-within slots place s at in omega (arith, within)
            of (Some j) next =
                let within = held-within slots place s at in
                let one = one_of k slots j next.1 in
                let more = next.0 in
                let fits = held-within slots j one.slot one.stands in
                omega (arith, within, more, fits)

  pub along_stopped : (before at : Option ℕ) → ((place : ℕ) → at ≡ Some place → ⊥) → IsAlong slots k head test before at → IsFound slots k head test before at
  along_stopped before None none a = along_ended before a
  along_stopped before (Some place) none a = absurd (none place refl)
