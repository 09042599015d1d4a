-- The two tables meet the conditions of the law.
use Rattle.std.proofs.Common.{◌≡◌, ℕ, ◌==◌, Bool, true, false, List, [], ◌∷◌, refl, sym, ◌∙◌, subst, arith, inl, inr, not, Option, Some, None}
use Rattle.std.specs.Prelude.{◌&&◌, ◌||◌, is_some}
use Rattle.std.specs.List.{list_all}
use Rattle.std.proofs.lemmas.Bool.{cases_Bool, false≢true, eqb-true, eq-eqb, and_parts}
use Rattle.rule_law.specs.Rules.{has, AreAbsent, GiversAreAlike}
use Rattle.rule_law.specs.Plans.{KeepsOrder, PutsNewBehind}
use Rattle.rule_law.specs.Parts.{TurnsInto, AreUnlike}
use Rattle.rule_law.proofs.Turning.{TurnsInto-same, TurnsInto-more, TurnsInto-replaced, TurnsInto-append, TurnsInto-conditions}
use Rattle.law_example.specs.Rules.{alike_rules, same_rule, gives}
use Rattle.law_example.specs.Sames.{same-is}
use Rattle.law_example.specs.Kinds.{rule_kind}
use Rattle.law_example.specs.Changes.{MayChange}
use Rattle.law_example.specs.declared.tables.TheConstants.{OLD, NEW}
use Rattle.law_example.specs.declared.rule.Packet.{Packet}
use Rattle.law_example.specs.declared.rule.Rule.{Rule}

-- What a test says of each rule of a list.
all-has : (p : Rule → Bool) (xs : List Rule) → list_all p xs ≡ true → (x : Rule) → has rule_kind xs x ≡ true → p x ≡ true
all-has p [] h x t = absurd (false≢true t)
all-has p (y ∷ ys) h x t =
    let both : (p y ≡ true) × (list_all p ys ≡ true) = and_parts (p y) (list_all p ys) h in
    elim (cases_Bool (same_rule x y)) [
      | inl s ↦ subst (λ z. p z ≡ true) (sym (same-is x y s)) both.0
      | inr s ↦ all-has p ys both.1 x (rw s at t)
    ]

not-true : (b : Bool) → not b ≡ true → b ≡ false
not-true true h = absurd (false≢true h)
not-true false h = refl

absent : (more rules : List Rule) → list_all (λ x. not (has rule_kind rules x)) more ≡ true → AreAbsent rule_kind more rules
absent more rules h x t = not-true (has rule_kind rules x) (all-has (λ y. not (has rule_kind rules y)) more h x t)

unlike : (xs ys : List Rule) → list_all (λ x. list_all (λ y. not (alike_rules x y)) ys) xs ≡ true → AreUnlike rule_kind xs ys
unlike xs ys h x y s t =
    not-true (alike_rules x y) (all-has (λ z. not (alike_rules x z)) ys (all-has (λ w. list_all (λ z. not (alike_rules w z)) ys) xs h x s) y t)

-- whether one packet may have both marks
may_have_both : Option ℕ → Option ℕ → Bool
may_have_both None n = true
may_have_both (Some m) None = true
may_have_both (Some m) (Some n) = m == n

both-give : (packet : Packet) (m n : Option ℕ) (s t : ℕ) → is_some (gives packet (record { priority = 0; mark = m; table = s })) ≡ true
    → is_some (gives packet (record { priority = 0; mark = n; table = t })) ≡ true → may_have_both m n ≡ true
unfolding may_have_both
both-give packet None n s t a b = refl
both-give packet (Some m) None s t a b = refl
both-give packet (Some m) (Some n) s t a b =
    elim (cases_Bool (m == packet.mark)) [
      | inl p ↦ elim (cases_Bool (n == packet.mark)) [
        | inl q ↦ eq-eqb m n (eqb-true m packet.mark p ∙ sym (eqb-true n packet.mark q))
        | inr q ↦ absurd (false≢true (rw q at b))
      ]
      | inr p ↦ absurd (false≢true (rw p at a))
    ]

meet_alike : Rule → Rule → Bool
meet_alike x y = not ((x.priority == y.priority) && may_have_both x.mark y.mark) || alike_rules x y

follows : (b c d : Bool) → (not (b && c) || d) ≡ true → b ≡ true → c ≡ true → d ≡ true
follows true true d h e f = h
follows true false d h e f = absurd (false≢true f)
follows false c d h e f = absurd (false≢true e)

givers : (xs : List Rule) → list_all (λ x. list_all (λ y. meet_alike x y) xs) xs ≡ true → (packet : Packet) → GiversAreAlike rule_kind (gives packet) xs
unfolding meet_alike
givers xs h packet x y s t e a b =
    let test : meet_alike x y ≡ true = all-has (λ z. meet_alike x z) xs (all-has (λ w. list_all (λ z. meet_alike w z) xs) xs h x s) y t in
    let equal : (x.priority == y.priority) ≡ true = eq-eqb x.priority y.priority e in
    let both : may_have_both x.mark y.mark ≡ true = both-give packet x.mark y.mark x.table y.table a b in
    follows (x.priority == y.priority) (may_have_both x.mark y.mark) (alike_rules x y) test equal both

-- Row by row: a rule of mark 1 is replaced by one of mark 2, that of mark 4 stays, one goes, and one comes at the end.
turns : TurnsInto rule_kind OLD NEW
turns =
    let m1 : Rule = record { priority = 100; mark = Some 1; table = 10 } in
    let m2 : Rule = record { priority = 100; mark = Some 2; table = 25 } in
    let m4 : Rule = record { priority = 100; mark = Some 4; table = 40 } in
    let goes : Rule = record { priority = 200; mark = None; table = 20 } in
    let stays : Rule = record { priority = 300; mark = None; table = 30 } in
    let comes : Rule = record { priority = 300; mark = None; table = 31 } in
    TurnsInto-append rule_kind (m1 ∷ []) (m2 ∷ []) (m4 ∷ goes ∷ stays ∷ []) (m4 ∷ stays ∷ comes ∷ [])
    (unlike (m1 ∷ m2 ∷ []) (m4 ∷ goes ∷ stays ∷ m4 ∷ stays ∷ comes ∷ []) refl)
    (TurnsInto-replaced rule_kind (m1 ∷ []) (m2 ∷ []) (absent (m1 ∷ []) (m2 ∷ []) refl))
    (TurnsInto-append rule_kind (m4 ∷ []) (m4 ∷ []) (goes ∷ stays ∷ []) (stays ∷ comes ∷ [])
    (unlike (m4 ∷ m4 ∷ []) (goes ∷ stays ∷ stays ∷ comes ∷ []) refl)
    (TurnsInto-same rule_kind (m4 ∷ []))
    (TurnsInto-append rule_kind (goes ∷ []) [] (stays ∷ []) (stays ∷ comes ∷ [])
    (unlike (goes ∷ []) (stays ∷ stays ∷ comes ∷ []) refl)
    (TurnsInto-replaced rule_kind (goes ∷ []) [] (absent (goes ∷ []) [] refl))
    (TurnsInto-more rule_kind (stays ∷ []) (comes ∷ []) (absent (comes ∷ []) (stays ∷ []) refl))))

pub conditions : MayChange OLD NEW
unfolding may_have_both meet_alike
conditions =
    let order : KeepsOrder rule_kind OLD NEW × PutsNewBehind rule_kind OLD NEW = TurnsInto-conditions rule_kind OLD NEW turns in
    record {
      tables = record {
        old_rises = ((omega arith, (omega arith, (omega arith, tt))), ((omega arith, (omega arith, tt)), ((omega arith, tt), (tt, tt))));
        new_rises = ((omega arith, (omega arith, (omega arith, tt))), ((omega arith, (omega arith, tt)), ((omega arith, tt), (tt, tt))));
        old_once = (refl, (refl, (refl, (refl, tt))));
        new_once = (refl, (refl, (refl, (refl, tt))));
        same_order = order.0;
        new_behind = order.1;
      };
      old_alike = givers OLD refl;
      new_alike = givers NEW refl;
    }
