-- An index with one rule more.
use Rattle.std.proofs.Common.{◌≡◌, ℕ, ◌<◌, Bool, true, false, cond, List, [], ◌∷◌, ◌++◌, length, refl, sym, subst, ◌∙◌, ap, arith, inl, inr, ◌⊎◌, nat_lt, nat_le, slice_get, Some}
use Rattle.list_lemmas.proofs.Places.{slice_get-left, slice_get-last}
use Rattle.list_lemmas.proofs.Alls.{all-weaker}
use Rattle.std.specs.List.{AllByRecursion}
use Rattle.std.proofs.lemmas.Bool.{false≢true}
use Rattle.std.proofs.lemmas.Bool.Decides.{nat_tests}
use Rattle.std.proofs.lemmas.Option.{slice_get_within}
use Rattle.rule_law.specs.Rules.{placed}
use Rattle.kernel_model.specs.Kind.{rule_kind}
use Rattle.rule_match.specs.declared.rule.Rule.{Rule}
use Rattle.rule_index.specs.declared.spot.Spot.{Spot}
use Rattle.rule_index.specs.Spots.{lex, below, flat, keyed_of, or_own}
use Rattle.rule_index.specs.Sorted.{put}
use Rattle.rule_index.specs.Index.{In, IsIndex, Stands, rule_at, list_of}
use Rattle.rule_index.proofs.Members.{each-in, each-from, each-put, in-put, put-in, rises-put}

get-front : {X : Type 0} (xs ys : List X) (n : ℕ) (x : X) → slice_get xs n ≡ Some x → slice_get (xs ++ ys) n ≡ Some x
get-front xs ys n x h = slice_get-left xs ys n (slice_get_within xs n x h) ∙ h

-- a flat spot of a rule
abbrev pub StandsFlat : List Rule → Spot → Type 0
StandsFlat rules o = (s : Spot) × Stands rules s × (o ≡ flat s)

pub all-flat : (rules : List Rule) (order keyed : List Spot) → IsIndex rules order keyed → AllByRecursion (StandsFlat rules) order
all-flat rules order keyed ix =
    each-from (StandsFlat rules) order (λ o h. let k = ix.to_keyed o h in (k.0, each-in (Stands rules) k.0 keyed ix.stand k.1, k.2))

pub rule_at-is : (rules : List Rule) (s : Spot) (r : Rule) → slice_get rules s.number ≡ Some r → rule_at rules s ≡ r
rule_at-is rules s r e = ap or_own e

module _ (rules : List Rule) (r : Rule) where
  abbrev more : List Rule
  more = rules ++ r ∷ []

  abbrev new : Spot
  new = keyed_of r (length rules)

  stands-more : (s : Spot) → Stands rules s → Stands more s
  stands-more s h = (h.0, get-front rules (r ∷ []) s.number h.0 h.1, h.2)

  fresh : (s : Spot) → Stands rules s → s ≡ new → ⊥
  fresh s h e =
      let l : s.number < length rules = slice_get_within rules s.number h.0 h.1 in
      let n : s.number ≡ length rules = ap (λ (x : Spot). x.number) e in
      omega arith

  fresh-flat : (o : Spot) → StandsFlat rules o → o ≡ flat new → ⊥
  fresh-flat o h e =
      let l : h.0.number < length rules = slice_get_within rules h.0.number h.1.0 h.1.1 in
      let m : o.number ≡ h.0.number = ap (λ (x : Spot). x.number) h.2 in
      let n : o.number ≡ length rules = ap (λ (x : Spot). x.number) e in
      omega arith

  pub index-put : (order keyed : List Spot) → IsIndex rules order keyed → IsIndex more (put (flat new) order) (put new keyed)
  index-put order keyed ix = record {
    order_rises = rises-put (flat new) order ix.order_rises (all-weaker (StandsFlat rules) (λ o. o ≡ flat new → ⊥) fresh-flat order (all-flat rules order keyed ix));
    keyed_rises = rises-put new keyed ix.keyed_rises (all-weaker (Stands rules) (λ s. s ≡ new → ⊥) fresh keyed ix.stand);
    stand = each-put (Stands more) new keyed (r, slice_get-last rules r, refl) (all-weaker (Stands rules) (Stands more) stands-more keyed ix.stand);
    to_order = λ s h. to_order s (in-put s new keyed h);
    to_keyed = λ o h. to_keyed o (in-put o (flat new) order h);
  }
    where
      to_order : (s : Spot) → (s ≡ new) ⊎ In s keyed → In (flat s) (put (flat new) order)
      to_order s (inl q) = put-in (flat s) (flat new) order (inl (ap flat q))
      to_order s (inr k) = put-in (flat s) (flat new) order (inr (ix.to_order s k))

      to_keyed : (o : Spot) → (o ≡ flat new) ⊎ In o order → (s : Spot) × (In s (put new keyed)) × (o ≡ flat s)
      to_keyed o (inl q) = (new, put-in new new keyed (inl refl), q)
      to_keyed o (inr k) = let t = ix.to_keyed o k in (t.0, put-in t.0 new keyed (inr t.1), t.2)

  -- a rule that came before stands before the new one exactly where its priority isn't greater
  order_by_priority : (p q m n : ℕ) → m < n → lex p q (lex 0 0 (lex 0 0 (nat_lt m n))) ≡ nat_le p q
  order_by_priority p q m n h = grind (arith, nat_tests)

  one : (o : Spot) → StandsFlat rules o → (rule_at more o ≡ rule_at rules o) × (below o (flat new) ≡ nat_le (rule_at rules o).priority r.priority)
  one o h =
      let s = h.0 in
      let old = h.1.0 in
      let got : slice_get rules o.number ≡ Some old = subst (λ (x : Spot). slice_get rules x.number ≡ Some old) (sym h.2) h.1.1 in
      let priority : s.priority ≡ old.priority = ap (λ (x : Spot). x.priority) h.1.2 in
      let is : rule_at rules o ≡ old = rule_at-is rules o old got in
      let within : s.number < length rules = slice_get_within rules s.number old h.1.1 in (
        rule_at-is more o old (get-front rules (r ∷ []) o.number old got) ∙ sym is,
        ap (λ (x : Spot). below x (flat new)) h.2
            ∙ order_by_priority s.priority r.priority s.number (length rules) within
            ∙ ap (λ p. nat_le p r.priority) priority
            ∙ ap (λ (x : Rule). nat_le x.priority r.priority) (sym is),
      )

  same_rules : (os : List Spot) → AllByRecursion (StandsFlat rules) os → list_of more os ≡ list_of rules os
  same_rules [] e = refl
  same_rules (o ∷ os) e = λ i. (one o e.0).0 i ∷ same_rules os e.1 i

  last : rule_at more (flat new) ≡ r
  last = ap or_own (slice_get-last rules r)

  pub list-put : (os : List Spot) → AllByRecursion (StandsFlat rules) os → list_of more (put (flat new) os) ≡ placed rule_kind r (list_of rules os)
  list-put [] e = ap (λ x. x ∷ []) last
  list-put (o ∷ os) e =
      let both = one o e.0 in
      step (list-put os e.1) (below o (flat new)) (nat_le (rule_at rules o).priority r.priority) both.1
    where
      step : list_of more (put (flat new) os) ≡ placed rule_kind r (list_of rules os) → (b le : Bool) → b ≡ le → list_of more (cond b (o ∷ put (flat new) os) (flat new ∷ o ∷ os)) ≡ cond le (rule_at rules o ∷ placed rule_kind r (list_of rules os)) (r ∷ rule_at rules o ∷ list_of rules os)
      step ih true true q = λ i. (one o e.0).0 i ∷ ih i
      step ih false false q = λ i. last i ∷ (one o e.0).0 i ∷ same_rules os e.1 i
      step ih true false q = absurd (false≢true (sym q))
      step ih false true q = absurd (false≢true q)
