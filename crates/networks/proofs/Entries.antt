-- The entries of a map of networks by id, as the list of its values.
use Rattle.std.proofs.Common.{◌≡◌, ℕ, ◌==◌, ◌∙◌, Bool, true, false, cond, List, [], ◌∷◌, Option, Some, nat_eq, refl, sym, ap₂}
use Rattle.std.proofs.lemmas.Bool.{eqb-true}
use Rattle.std.specs.Map.{values_of, lookup}
use Rattle.indexmap.specs.IndexMap.{insert_entry, shift_remove_entry}
use Rattle.networks.specs.declared.network.Network.{Network}
use Rattle.networks.specs.Lists.{find_id, put_net, drop_net, StandAtIds}

abbrev Entry : Type 0
Entry = ℕ × Network

pub lookup-find : (id : ℕ) (es : List Entry) → StandAtIds es → lookup (nat_eq id) es ≡ find_id id (values_of es)
lookup-find id [] h = refl
lookup-find id (e ∷ es) h = ap₂ (λ (k : ℕ) (r : Option Network). cond (id == k) (Some e.1) r) h.0 (lookup-find id es h.1)

put_step : (b : Bool) (e : Entry) (network : Network) (es rest : List Entry) → values_of (cond b ((e.0, network) ∷ es) (e ∷ rest)) ≡ cond b (network ∷ values_of es) (e.1 ∷ values_of rest)
put_step true e network es rest = refl
put_step false e network es rest = refl

pub put-values : (network : Network) (es : List Entry) → StandAtIds es → values_of (insert_entry nat_eq es network.id network) ≡ put_net network (values_of es)
put-values network [] h = refl
put-values network (e ∷ es) h = put_step (nat_eq network.id e.0) e network es (insert_entry nat_eq es network.id network)
    ∙ ap₂ (λ (k : ℕ) (r : List Network). cond (network.id == k) (network ∷ values_of es) (e.1 ∷ r)) h.0 (put-values network es h.1)

pub put-keyed : (network : Network) (es : List Entry) → StandAtIds es → StandAtIds (insert_entry nat_eq es network.id network)
put-keyed network [] h = (refl, tt)
put-keyed network (e ∷ es) h = by (nat_eq network.id e.0) refl (put-keyed network es h.1)
  where
    by : (b : Bool) → nat_eq network.id e.0 ≡ b → StandAtIds (insert_entry nat_eq es network.id network) → StandAtIds (cond b ((e.0, network) ∷ es) (e ∷ insert_entry nat_eq es network.id network))
    by true same rest = (sym (eqb-true network.id e.0 same), h.1)
    by false other rest = (h.0, rest)

drop_step : (b : Bool) (e : Entry) (es rest : List Entry) → values_of (cond b es (e ∷ rest)) ≡ cond b (values_of es) (e.1 ∷ values_of rest)
drop_step true e es rest = refl
drop_step false e es rest = refl

pub drop-values : (id : ℕ) (es : List Entry) → StandAtIds es → values_of (shift_remove_entry (nat_eq id) es) ≡ drop_net id (values_of es)
drop-values id [] h = refl
drop-values id (e ∷ es) h = drop_step (nat_eq id e.0) e es (shift_remove_entry (nat_eq id) es)
    ∙ ap₂ (λ (k : ℕ) (r : List Network). cond (id == k) (values_of es) (e.1 ∷ r)) h.0 (drop-values id es h.1)

pub drop-keyed : (id : ℕ) (es : List Entry) → StandAtIds es → StandAtIds (shift_remove_entry (nat_eq id) es)
drop-keyed id [] h = tt
drop-keyed id (e ∷ es) h = by (nat_eq id e.0) (drop-keyed id es h.1)
  where
    by : (b : Bool) → StandAtIds (shift_remove_entry (nat_eq id) es) → StandAtIds (cond b es (e ∷ shift_remove_entry (nat_eq id) es))
    by true rest = h.1
    by false rest = (h.0, rest)
