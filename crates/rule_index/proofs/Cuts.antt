-- An index with one rule less.
use Rattle.std.proofs.Common.{◌≡◌, ℕ, suc, ◌+◌, ◌<◌, Bool, true, false, cond, List, [], ◌∷◌, drop, refl, sym, subst, ◌∙◌, ap, arith, inl, inr, ◌⊎◌, nat_lt, ◌||◌, slice_get, Option, Some, None}
use Rattle.list_lemmas.proofs.Alls.{all-weaker}
use Rattle.std.specs.List.{find, AllByRecursion}
use Rattle.std.proofs.lemmas.Bool.{cases_Bool, false≢true, ltb-true}
use Rattle.std.proofs.lemmas.Option.{none-some, same_Some}
use Rattle.rule_law.specs.Rules.{has, without}
use Rattle.kernel_model.specs.Kind.{rule_kind}
use Rattle.rule_match.specs.Rule.{same_rule}
use Rattle.rule_match.proofs.Sames.{same_rule-true}
use Rattle.rule_match.specs.declared.rule.Rule.{Rule}
use Rattle.rule_index.specs.declared.spot.Spot.{Spot}
use Rattle.rule_index.specs.Spots.{lex, below, flat, keyed_of}
use Rattle.rule_index.specs.Sorted.{Rises, place_of, cut}
use Rattle.rule_index.specs.Search.{passes, is_same, first_same}
use Rattle.rule_index.specs.Index.{In, IsIndex, Stands, rule_at, list_of}
use Rattle.rule_index.proofs.Orders.{lex-same, below-self, below-not_over}
use Rattle.rule_index.proofs.Members.{each-in, each-from, not-both, in-cut, cut-in, cut-not, rises-cut, head-is}
use Rattle.rule_index.proofs.Puts.{rule_at-is}

-- what is below a spot may be left out where none of it passes
find-past : (p : Spot → Bool) (t : Spot) (xs : List Spot) → AllByRecursion (λ x. below x t ≡ true → p x ≡ false) xs → find p (drop (place_of t xs) xs) ≡ find p xs
find-past p t [] h = refl
find-past p t (x ∷ xs) h = go (find-past p t xs h.1) (below x t) refl (place_of t xs) refl
  where
    one_more : (n : ℕ) → suc n ≡ 1 + n
    one_more n = omega arith

    go : find p (drop (place_of t xs) xs) ≡ find p xs → (b : Bool) → below x t ≡ b → (n : ℕ) → place_of t xs ≡ n → find p (drop (cond b (1 + n) 0) (x ∷ xs)) ≡ find p (x ∷ xs)
    go ih false e n is = refl
    go ih true e n is =
        let skipped : find p (x ∷ xs) ≡ find p xs = rw (h.0 e) refl in
        ap (λ m. find p (drop m (x ∷ xs))) (sym (one_more n)) ∙ ap (λ m. find p (drop m xs)) (sym is) ∙ ih ∙ sym skipped

-- the first that passes
record IsFirst (p : Spot → Bool) (xs : List Spot) (s : Spot) : Type 0 where
  there : In s xs
  passes : p s ≡ true
  first : (x : Spot) → In x xs → p x ≡ true → below x s ≡ false

find-first : (p : Spot → Bool) (xs : List Spot) (s : Spot) → Rises xs → find p xs ≡ Some s → IsFirst p xs s
find-first p [] s r h = absurd (none-some s h)
find-first p (y ∷ ys) s r h = go (λ k. find-first p ys s r.1 k) (p y) refl h
  where
    go : (find p ys ≡ Some s → IsFirst p ys s) → (b : Bool) → p y ≡ b → cond b (Some y) (find p ys) ≡ Some s → IsFirst p (y ∷ ys) s
    go ih true e k =
        let is : y ≡ s = same_Some y s k in
        record {
          there = inl (sym is);
          passes = subst (λ (z : Spot). p z ≡ true) is e;
          first = λ x i q. front x is i;
        }
      where
        front : (x : Spot) → y ≡ s → (x ≡ y) ⊎ In x ys → below x s ≡ false
        front x is (inl same) = subst (λ (z : Spot). below z s ≡ false) (sym (same ∙ is)) (below-self s)
        front x is (inr i) = subst (λ (z : Spot). below x z ≡ false) is (below-not_over y x (each-in (λ z. below y z ≡ true) x ys r.0 i))
    go ih false e k =
        let rest = ih k in
        record {
          there = inr rest.there;
          passes = rest.passes;
          first = λ x i q. after x rest i q;
        }
      where
        after : (x : Spot) → IsFirst p ys s → (x ≡ y) ⊎ In x ys → p x ≡ true → below x s ≡ false
        after x rest (inl same) q = absurd (not-both (p y) (subst (λ (z : Spot). p z ≡ true) same q) e)
        after x rest (inr i) q = rest.first x i q

find-none : (p : Spot → Bool) (xs : List Spot) → find p xs ≡ None → (x : Spot) → In x xs → p x ≡ false
find-none p [] h x i = absurd i
find-none p (y ∷ ys) h x i = go (find-none p ys) (p y) refl h i
  where
    go : (find p ys ≡ None → (x : Spot) → In x ys → p x ≡ false) → (b : Bool) → p y ≡ b → cond b (Some y) (find p ys) ≡ None → (x ≡ y) ⊎ In x ys → p x ≡ false
    go ih true e k i = absurd (none-some y (sym k))
    go ih false e k (inl same) = subst (λ (z : Spot). p z ≡ false) (sym same) e
    go ih false e k (inr i) = ih k x i

module _ (rules : List Rule) (order keyed : List Spot) (ix : IsIndex rules order keyed) (rule : Rule) where
  -- a spot whose rule is this one
  same-key : (s : Spot) → Stands rules s → is_same rules rule s ≡ true → s ≡ keyed_of rule s.number
  same-key s h q =
      let p : same_rule rule h.0 ≡ true = subst (λ (o : Option Rule). passes (same_rule rule) o ≡ true) h.1 q in
      h.2 ∙ ap (λ (r : Rule). keyed_of r s.number) (sym (same_rule-true rule h.0 p))

  lex-twice : (x : ℕ) (r : Bool) → lex x x r ≡ r
  lex-twice x r = lex-same x x r refl

  same-below : (m n : ℕ) → below (keyed_of rule m) (keyed_of rule n) ≡ nat_lt m n
  same-below m n = lex-twice (keyed_of rule m).priority _ ∙ lex-twice (keyed_of rule m).group _ ∙ lex-twice (keyed_of rule m).value _

  flat-below : (m n : ℕ) → below (flat (keyed_of rule m)) (flat (keyed_of rule n)) ≡ nat_lt m n
  flat-below m n = lex-twice rule.priority _

  none_below : (s : Spot) → Stands rules s → below s (keyed_of rule 0) ≡ true → is_same rules rule s ≡ false
  none_below s h b = elim (cases_Bool (is_same rules rule s)) as (λ _. is_same rules rule s ≡ false) [
    | inr other ↦ other
    | inl q ↦
        let e : nat_lt s.number 0 ≡ true = sym (same-below s.number 0) ∙ subst (λ (z : Spot). below z (keyed_of rule 0) ≡ true) (same-key s h q) b in
        let l : s.number < 0 = ltb-true s.number 0 e in
        absurd (omega arith)
  ]

  pub whole : first_same rules rule (keyed_of rule 0) keyed ≡ find (is_same rules rule) keyed
  whole = find-past (is_same rules rule) (keyed_of rule 0) keyed (all-weaker (Stands rules) (λ s. below s (keyed_of rule 0) ≡ true → is_same rules rule s ≡ false) none_below keyed ix.stand)

  -- the rule at a flat spot
  rule-at-flat : (o s : Spot) → o ≡ flat s → Stands rules s → (b : Bool) → same_rule rule (rule_at rules o) ≡ b → is_same rules rule s ≡ b
  rule-at-flat o s e h b q =
      let got : slice_get rules o.number ≡ Some h.0 = subst (λ (z : Spot). slice_get rules z.number ≡ Some h.0) (sym e) h.1 in
      ap (passes (same_rule rule)) h.1 ∙ ap (same_rule rule) (sym (rule_at-is rules o h.0 got)) ∙ q

  module _ (s : Spot) (found : first_same rules rule (keyed_of rule 0) keyed ≡ Some s) where
    is_first : IsFirst (is_same rules rule) keyed s
    is_first = find-first (is_same rules rule) keyed s ix.keyed_rises (sym whole ∙ found)

    stands : Stands rules s
    stands = each-in (Stands rules) s keyed ix.stand is_first.there

    s-is : s ≡ keyed_of rule s.number
    s-is = same-key s stands is_first.passes

    -- two spots with one number are one
    one-number : (x : Spot) → Stands rules x → x.number ≡ s.number → x ≡ s
    one-number x h n =
        let e : Some h.0 ≡ Some stands.0 = sym h.1 ∙ ap (slice_get rules) n ∙ stands.1 in
        let r : h.0 ≡ stands.0 = same_Some h.0 stands.0 e in
        h.2 ∙ (λ i. keyed_of (r i) (n i)) ∙ sym stands.2

    pub index-cut : IsIndex rules (cut (flat s) order) (cut s keyed)
    index-cut = record {
      order_rises = rises-cut (flat s) order ix.order_rises;
      keyed_rises = rises-cut s keyed ix.keyed_rises;
      stand = each-from (Stands rules) (cut s keyed) (λ x i. each-in (Stands rules) x keyed ix.stand (in-cut x s keyed i));
      to_order = to_order;
      to_keyed = to_keyed;
    }
      where
        to_order : (x : Spot) → In x (cut s keyed) → In (flat x) (cut (flat s) order)
        to_order x i =
            let there = in-cut x s keyed i in
            cut-in (flat x) (flat s) order ix.order_rises (ix.to_order s is_first.there)
            (λ e. cut-not s keyed ix.keyed_rises is_first.there
            (subst (λ (z : Spot). In z (cut s keyed)) (one-number x (each-in (Stands rules) x keyed ix.stand there) (ap (λ (z : Spot). z.number) e)) i))
            (ix.to_order x there)

        to_keyed : (o : Spot) → In o (cut (flat s) order) → (x : Spot) × (In x (cut s keyed)) × (o ≡ flat x)
        to_keyed o i =
            let k = ix.to_keyed o (in-cut o (flat s) order i) in
            let other : k.0 ≡ s → ⊥ = λ e. cut-not (flat s) order ix.order_rises (ix.to_order s is_first.there) (subst (λ (z : Spot). In z (cut (flat s) order)) (k.2 ∙ ap flat e) i) in
            (k.0, cut-in k.0 s keyed ix.keyed_rises is_first.there other k.1, k.2)

    -- no rule before it is this one
    in-front : (o : Spot) → In o order → below o (flat s) ≡ true → same_rule rule (rule_at rules o) ≡ false
    in-front o i b = elim (cases_Bool (same_rule rule (rule_at rules o))) as (λ _. same_rule rule (rule_at rules o) ≡ false) [
      | inr other ↦ other
      | inl q ↦
          let k = ix.to_keyed o i in
          let h = each-in (Stands rules) k.0 keyed ix.stand k.1 in
          let same = rule-at-flat o k.0 k.2 h true q in
          let key : k.0 ≡ keyed_of rule k.0.number = same-key k.0 h same in
          let late : below k.0 s ≡ false = is_first.first k.0 k.1 same in
          let m : nat_lt k.0.number s.number ≡ false = sym (same-below k.0.number s.number) ∙ (λ j. below (sym key j) (sym s-is j)) ∙ late in
          let n : nat_lt k.0.number s.number ≡ true = sym (flat-below k.0.number s.number) ∙ (λ j. below (flat (sym key j)) (flat (sym s-is j))) ∙ ap (λ (z : Spot). below z (flat s)) (sym k.2) ∙ b in
          absurd (not-both _ n m)
    ]

    at-it : same_rule rule (rule_at rules (flat s)) ≡ true
    at-it = ap (same_rule rule) (rule_at-is rules (flat s) stands.0 stands.1) ∙ subst (λ (o : Option Rule). passes (same_rule rule) o ≡ true) stands.1 is_first.passes

    list-cut-from : (os : List Spot) → Rises os → In (flat s) os → AllByRecursion (λ o. below o (flat s) ≡ true → same_rule rule (rule_at rules o) ≡ false) os
        → list_of rules (cut (flat s) os) ≡ without rule_kind rule (list_of rules os)
    list-cut-from [] r i e = refl
    list-cut-from (o ∷ os) r i e = go (λ k. list-cut-from os r.1 k e.1) (below o (flat s)) refl (same_rule rule (rule_at rules o)) refl i
      where
        go : (In (flat s) os → list_of rules (cut (flat s) os) ≡ without rule_kind rule (list_of rules os)) → (b : Bool) → below o (flat s) ≡ b → (q : Bool) → same_rule rule (rule_at rules o) ≡ q
            → (flat s ≡ o) ⊎ In (flat s) os
            → list_of rules (cond b (o ∷ cut (flat s) os) os) ≡ cond q (list_of rules os) (rule_at rules o ∷ without rule_kind rule (list_of rules os))
        go ih true b true q i = absurd (not-both _ q (e.0 b))
        go ih true b false q (inl same) = absurd (not-both _ b (subst (λ (z : Spot). below z (flat s) ≡ false) same (below-self (flat s))))
        go ih true b false q (inr k) = ap (λ l. rule_at rules o ∷ l) (ih k)
        go ih false b true q i = refl
        go ih false b false q i =
            let same : flat s ≡ o = head-is (flat s) o os r.0 b i in
            absurd (not-both _ (subst (λ (z : Spot). same_rule rule (rule_at rules z) ≡ true) same at-it) q)

    pub list-cut : list_of rules (cut (flat s) order) ≡ without rule_kind rule (list_of rules order)
    list-cut = list-cut-from order ix.order_rises (ix.to_order s is_first.there) (each-from (λ o. below o (flat s) ≡ true → same_rule rule (rule_at rules o) ≡ false) order in-front)

  any-false : (os : List Spot) → AllByRecursion (λ o. same_rule rule (rule_at rules o) ≡ false) os → has rule_kind (list_of rules os) rule ≡ false
  any-false [] e = refl
  any-false (o ∷ os) e = rw e.0 (any-false os e.1)

  pub absent : first_same rules rule (keyed_of rule 0) keyed ≡ None → has rule_kind (list_of rules order) rule ≡ false
  absent none = any-false order (each-from (λ o. same_rule rule (rule_at rules o) ≡ false) order differs)
    where
      differs : (o : Spot) → In o order → same_rule rule (rule_at rules o) ≡ false
      differs o i =
          let k = ix.to_keyed o i in
          let h = each-in (Stands rules) k.0 keyed ix.stand k.1 in
          let n : is_same rules rule k.0 ≡ false = find-none (is_same rules rule) keyed (sym whole ∙ none) k.0 k.1 in
          elim (cases_Bool (same_rule rule (rule_at rules o))) as (λ _. same_rule rule (rule_at rules o) ≡ false) [
            | inr other ↦ other
            | inl q ↦ absurd (not-both _ (rule-at-flat o k.0 k.2 h true q) n)
          ]

pub without-absent : (rule : Rule) (xs : List Rule) → has rule_kind xs rule ≡ false → without rule_kind rule xs ≡ xs
without-absent rule [] h = refl
without-absent rule (x ∷ xs) h = go (same_rule rule x) h (without-absent rule xs)
  where
    go : (b : Bool) → (b || has rule_kind xs rule) ≡ false → (has rule_kind xs rule ≡ false → without rule_kind rule xs ≡ xs) → cond b xs (x ∷ without rule_kind rule xs) ≡ x ∷ xs
    go true h ih = absurd (false≢true (sym h))
    go false h ih = ap (λ l. x ∷ l) (ih h)
