-- The default network of a good state is the one of its id.
use Rattle.std.proofs.Common.{◌≡◌, ◌∙◌, ◌==◌, ℕ, Bool, true, false, List, [], ◌∷◌, Some, None, refl, sym}
use Rattle.std.specs.Prelude.{◌&&◌, find}
use Rattle.std.proofs.lemmas.Bool.{and_parts, and_from, eqb-true, eq-eqb}
use Rattle.networks.specs.Kinds.{class_of, is_physical}
use Rattle.networks.specs.Lists.{find_id}
use Rattle.networks.specs.declared.kind.Kind.{Kind}
use Rattle.networks.specs.declared.network.Network.{Network}
use Rattle.policy_state.specs.Good.{IsGood, is_default_there}
use Rattle.policy_state.specs.Rows.{default_of, is_default}
use Rattle.policy_state.specs.View.{Local, Physical, Virtual, StateView}
use Rattle.policy_state.proofs.GoodStates.{is-good}
use Rattle.policy_state.proofs.Owners.{Has, IsOwned, owners_of, Passing, of_any, found}

physical-class : (k : Kind) → is_physical k ≡ true → (class_of k == 1) ≡ true
physical-class Local h = h
physical-class (Physical permission apps) h = refl
physical-class (Virtual secure users) h = h

pub default-found : (s : StateView) → IsGood s → (id : ℕ) → s.default ≡ Some id → default_of s ≡ find_id id s.networks
default-found s good id is =
    let there : is_default_there s.networks (Some id) ≡ true = rw is at good.formed.default in
    let it : Passing (λ (n : Network). (n.id == id) && is_physical n.kind) s.networks = of_any (λ (n : Network). (n.id == id) && is_physical n.kind) s.networks there in
    let both = and_parts (it.one.id == id) (is_physical it.one.kind) it.passes in
    let named : (id == it.one.id) ≡ true = eq-eqb id it.one.id (sym (eqb-true it.one.id id both.0)) in
    let owned : IsOwned (owners_of s) s = is-good s good.formed in
    let one_id : (m : Network) → Has s.networks m → (id == m.id) ≡ true → m ≡ it.one = λ m in_m e. owned.one_id m it.one in_m it.there (sym (eqb-true id m.id e) ∙ eqb-true id it.one.id named) in
    rw is (found (λ (n : Network). (class_of n.kind == 1) && is_default (Some id) n.id) s.networks it.one it.there
    (and_from (class_of it.one.kind == 1) (id == it.one.id) (physical-class it.one.kind both.1) named)
    (λ m in_m e. one_id m in_m (and_parts (class_of m.kind == 1) (id == m.id) e).1)
    ∙ sym (found (λ (n : Network). id == n.id) s.networks it.one it.there named one_id))

pub default-none : (s : StateView) → s.default ≡ None → default_of s ≡ None
default-none s is = rw is (none s.networks)
  where
    never : (b : Bool) → (b && false) ≡ false
    never true = refl
    never false = refl

    none : (ns : List Network) → find (λ (n : Network). (class_of n.kind == 1) && is_default None n.id) ns ≡ None
    none [] = refl
    none (n ∷ ns) = rw (never (class_of n.kind == 1)) (none ns)
