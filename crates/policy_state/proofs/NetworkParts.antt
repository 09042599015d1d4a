-- Networks of one class, and networks found by their ids.
use Rattle.std.proofs.Common.{◌≡◌, ◌∙◌, ◌==◌, ℕ, Bool, true, false, Option, Some, None, List, [], ◌∷◌, refl, sym, ap, inl, inr, is_none, is_some}
use Rattle.std.proofs.lemmas.Bool.{cases_Bool, both_ways, eqb-true, eq-eqb}
use Rattle.std.proofs.lemmas.Option.{none-some, same_Some}
use Rattle.networks.specs.Kinds.{class_of, is_local, is_physical, is_virtual}
use Rattle.networks.specs.Lists.{find_id, find_link}
use Rattle.networks.specs.Network.{has_link}
use Rattle.networks.specs.declared.kind.Kind.{Kind}
use Rattle.policy_state.specs.Good.{IsWellFormed}
use Rattle.policy_state.specs.Step.{is_in_any}
use Rattle.policy_state.specs.View.{StateView, Network, Local, Physical, Virtual}
use Rattle.policy_state.proofs.GoodStates.{same-ids}
use Rattle.policy_state.proofs.Members.{find-none}
use Rattle.policy_state.proofs.Owners.{Has, any-from, found}

pub has-link : (n : Network) (link : ℕ) → Has n.interfaces link → has_link n link ≡ true
has-link n link there = any-from (λ i. i == link) n.interfaces link there (eq-eqb link link refl)

-- kinds by their class

pub local-class : (k : Kind) → (class_of k == 0) ≡ is_local k
local-class Local = refl
local-class (Physical permission apps) = refl
local-class (Virtual secure users) = refl

pub physical-class : (k : Kind) → (class_of k == 1) ≡ is_physical k
physical-class Local = refl
physical-class (Physical permission apps) = refl
physical-class (Virtual secure users) = refl

pub virtual-class : (k : Kind) → (class_of k == 2) ≡ is_virtual k
virtual-class Local = refl
virtual-class (Physical permission apps) = refl
virtual-class (Virtual secure users) = refl

-- what a class tells is the same of two kinds of one class
pub same-test : (test : Kind → Bool) (class : ℕ) → ((k : Kind) → (class_of k == class) ≡ test k) → (j k : Kind) → class_of j ≡ class_of k → test j ≡ test k
same-test test class is j k same = sym (is j) ∙ (ap (λ c. c == class) same ∙ is k)

-- networks by their ids

pub id-found : (net : ℕ) (ns : List Network) (n : Network) → find_id net ns ≡ Some n → net ≡ n.id
id-found net [] n found = absurd (none-some n found)
id-found net (m ∷ ms) n found = elim (cases_Bool (net == m.id)) as (λ _. net ≡ n.id) [
  | inl here ↦ let is : Some m ≡ Some n = rw here at found in eqb-true net m.id here ∙ ap (λ k. k.id) (same_Some m n is)
  | inr other ↦ id-found net ms n (rw other at found)
]

-- each network of a state is found by its id
pub found-by_id : (s : StateView) → IsWellFormed s → (n : Network) → Has s.networks n → find_id n.id s.networks ≡ Some n
found-by_id s formed n there = found (λ (m : Network). n.id == m.id) s.networks n there (eq-eqb n.id n.id refl) (λ m in_m same. same-ids s formed m n in_m there (sym (eqb-true n.id m.id same)))

-- an id that no network has
pub unknown : (net : ℕ) (ns : List Network) → is_none (find_id net ns) ≡ true → (n : Network) → Has ns n → (net == n.id) ≡ false
unknown net ns h n there = by (find_id net ns) refl h
  where
    by : (o : Option Network) → find_id net ns ≡ o → is_none o ≡ true → (net == n.id) ≡ false
    by None is h = find-none (λ m. net == m.id) ns n is there
    by (Some m) is h = absurd (both_ways true (sym h) refl)

-- a link that is in no network is an interface of none
pub in_none : (s : StateView) (link : ℕ) (n : Network) → is_in_any s link ≡ false → Has s.networks n → has_link n link ≡ false
in_none s link n h there = by (find_link link s.networks) refl h
  where
    by : (o : Option Network) → find_link link s.networks ≡ o → is_some o ≡ false → has_link n link ≡ false
    by None is h = find-none (λ m. has_link m link) s.networks n is there
    by (Some m) is h = absurd (both_ways true h refl)
