-- One more element at the end of a list.
use Rattle.std.proofs.Common.{◌≡◌, ℕ, ◌+◌, Bool, true, false, cond, List, [], ◌∷◌, ◌++◌, length, sym, ◌∙◌, ap, arith, inl, inr, slice_get, length-append}
use Rattle.std.specs.List.{filter}
use Rattle.std.proofs.lemmas.Bool.{cases_lt}
use Rattle.std.proofs.lemmas.Option.{slice_get_within, same_Some}
use Rattle.std.proofs.lemmas.List.Elements.{filter-append}
use Rattle.std.proofs.lemmas.List.{append-nil}
use Rattle.list_lemmas.proofs.Places.{slice_get-left, slice_get-last}
use Rattle.kernel_model.specs.Journal.{FailWhere, has_failed, is_listed}
use Rattle.kernel_model.specs.declared.request.Entry.{Entry}

-- the last one fails where the list says
pub FailWhere-push : (ns : List ℕ) (es : List Entry) (e : Entry) → has_failed e ≡ is_listed ns (length es + 1) → FailWhere ns es → FailWhere ns (es ++ e ∷ [])
FailWhere-push ns es e last before k f at =
    elim (cases_lt k (length es)) as (λ _. has_failed f ≡ is_listed ns (k + 1)) [
      | inl below ↦ before k f (sym (slice_get-left es (e ∷ []) k below) ∙ at)
      | inr past ↦
          let within = slice_get_within (es ++ e ∷ []) k f at in
          let here : k ≡ length es = omega (arith, within, length-append es (e ∷ [])) in
          let same : e ≡ f = same_Some e f (sym (slice_get-last es e) ∙ ap (λ n. slice_get (es ++ e ∷ []) n) (sym here) ∙ at) in
          ap has_failed (sym same) ∙ last ∙ ap (λ n. is_listed ns (n + 1)) (sym here)
    ]

pub filter_push_in : {X : Type 0} (p : X → Bool) (xs : List X) (x : X) → p x ≡ true → filter p (xs ++ x ∷ []) ≡ filter p xs ++ x ∷ []
filter_push_in p xs x h = filter-append p xs (x ∷ []) ∙ ap (λ b. filter p xs ++ cond b (x ∷ []) []) h

pub filter_push_out : {X : Type 0} (p : X → Bool) (xs : List X) (x : X) → p x ≡ false → filter p (xs ++ x ∷ []) ≡ filter p xs
filter_push_out p xs x h = filter-append p xs (x ∷ []) ∙ ap (λ b. filter p xs ++ cond b (x ∷ []) []) h ∙ append-nil (filter p xs)
