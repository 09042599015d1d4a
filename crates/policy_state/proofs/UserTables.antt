-- The permissions of a map by user, as a list.
use Rattle.std.proofs.Common.{◌≡◌, ◌∙◌, ◌==◌, Bool, List, [], ◌∷◌, filter, refl, ap, inl, inr}
use Rattle.std.specs.List.{find}
use Rattle.std.specs.Map.{lookup}
use Rattle.std.specs.Option.{option_map}
use Rattle.std.proofs.lemmas.Bool.{cases_Bool}
use Rattle.fwmark.specs.declared.permission.Permission.{Permission}
use Rattle.indexmap.specs.IndexMap.{insert_entry}
use Rattle.list_lemmas.proofs.Numbers.{eqb-turned}
use Rattle.policy_state.specs.Step.{is_of_user, with_permission_of}
use Rattle.policy_state.specs.UserLists.{permissions_in}
use Rattle.policy_state.specs.declared.users.UserPermission.{UserPermission}
use Rattle.uid_ranges.specs.declared.range.Uid.{Uid}

abbrev Entry : Type 0
Entry = Uid × Permission

-- the test of keys is the test of numbers
pub listed-insert : (eq : Uid → Uid → Bool) → ((a b : Uid) → eq a b ≡ (a.number == b.number)) → (uid : Uid) (permission : Permission) (es : List Entry)
    → permissions_in (insert_entry eq es uid permission) ≡ with_permission_of uid permission (permissions_in es)
listed-insert eq numbers uid permission [] = refl
listed-insert eq numbers uid permission (e ∷ es) =
    let turned : eq uid e.0 ≡ (e.0.number == uid.number) = numbers uid e.0 ∙ eqb-turned uid.number e.0.number in
    elim (cases_Bool (e.0.number == uid.number)) as (λ _. permissions_in (insert_entry eq (e ∷ es) uid permission) ≡ with_permission_of uid permission (permissions_in (e ∷ es))) [
      | inl here ↦ rw (turned, here) refl
      | inr other ↦ rw (turned, other) (ap (λ ps. record { uid = e.0; permission = e.1 } ∷ ps) (listed-insert eq numbers uid permission es))
    ]

pub listed-find : (eq : Uid → Uid → Bool) → ((a b : Uid) → eq a b ≡ (a.number == b.number)) → (uid : Uid) (es : List Entry) → lookup (eq uid) es ≡ option_map (λ p. p.permission) (find (is_of_user uid) (permissions_in es))
listed-find eq numbers uid [] = refl
listed-find eq numbers uid (e ∷ es) =
    let turned : eq uid e.0 ≡ (e.0.number == uid.number) = numbers uid e.0 ∙ eqb-turned uid.number e.0.number in
    elim (cases_Bool (e.0.number == uid.number)) as (λ _. lookup (eq uid) (e ∷ es) ≡ option_map (λ p. p.permission) (find (is_of_user uid) (permissions_in (e ∷ es)))) [
      | inl here ↦ rw (turned, here) refl
      | inr other ↦ rw (turned, other) (listed-find eq numbers uid es)
    ]

pub listed-filter : (q : UserPermission → Bool) (es : List Entry) → permissions_in (filter (λ e. q (record { uid = e.0; permission = e.1 })) es) ≡ filter q (permissions_in es)
listed-filter q [] = refl
listed-filter q (e ∷ es) = elim (cases_Bool (q (record { uid = e.0; permission = e.1 }))) as (λ _. permissions_in (filter (λ e. q (record { uid = e.0; permission = e.1 })) (e ∷ es)) ≡ filter q (permissions_in (e ∷ es))) [
  | inl stays ↦ rw stays (ap (λ ps. record { uid = e.0; permission = e.1 } ∷ ps) (listed-filter q es))
  | inr goes ↦ rw goes (listed-filter q es)
]
