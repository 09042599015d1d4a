-- The law, applied to a change of a kernel's tables.
use Rattle.std.proofs.Common.{◌≡◌, ℕ, zero, suc, Bool, List, [], ◌∷◌, ◌++◌, refl, sym, ◌∙◌, ap, subst, inl, inr, filter, not, map, reverse, take, length}
use Rattle.std.proofs.lemmas.Bool.{cases_Bool}
use Rattle.std.proofs.lemmas.List.{append-nil}
use Rattle.rule_law.specs.Rules.{Stands, has}
use Rattle.rule_law.specs.Plans.{Request, Add, Delete, Other, beyond, after, concerning, plan, undone, AskInTurn, GoesOver, GoesOverAndBack}
use Rattle.rule_law.proofs.Statements.{goes_over, goes_over_and_back, ends_in_new, ends_as_before}
use Rattle.rule_law.proofs.Beside.{each_done, each_undone}
use Rattle.rule_law.proofs.Asking.{asks_done, asks_undone}
use Rattle.law_example.specs.Rules.{gives}
use Rattle.law_example.specs.Kinds.{rule_kind}
use Rattle.law_example.specs.Kernels.{rules_of, verdict_by}
use Rattle.law_example.specs.Changes.{MayChange, MovesOver, ComesBack, StopsBetween, verdict_at}
use Rattle.law_example.specs.declared.rule.Packet.{Packet}
use Rattle.law_example.specs.declared.rule.Rule.{Rule}
use Rattle.law_example.specs.declared.rule.Verdict.TheVariants.{Unreachable}
use Rattle.law_example.proofs.Histories.{rules_of-more}

-- each of these requests concerns the rules
AllConcern : List (Request Rule) → Type 0
AllConcern [] = Unit {0}
AllConcern (Add r ∷ es) = AllConcern es
AllConcern (Delete r ∷ es) = AllConcern es
AllConcern (Other ∷ es) = ⊥

concerning-all : (es : List (Request Rule)) → AllConcern es → concerning es ≡ es
unfolding AllConcern
concerning-all [] h = refl
concerning-all (Add r ∷ es) h = ap (λ fs. Add r ∷ fs) (concerning-all es h)
concerning-all (Delete r ∷ es) h = ap (λ fs. Delete r ∷ fs) (concerning-all es h)
concerning-all (Other ∷ es) h = absurd h

AllConcern-front : (es fs : List (Request Rule)) → AllConcern (es ++ fs) → AllConcern es
unfolding AllConcern
AllConcern-front [] fs h = tt
AllConcern-front (Add r ∷ es) fs h = AllConcern-front es fs h
AllConcern-front (Delete r ∷ es) fs h = AllConcern-front es fs h
AllConcern-front (Other ∷ es) fs h = h

AllConcern-plan : (rs ds : List Rule) → AllConcern (map Add rs ++ map Delete ds)
unfolding AllConcern
AllConcern-plan [] [] = tt
AllConcern-plan [] (d ∷ ds) = AllConcern-plan [] ds
AllConcern-plan (r ∷ rs) ds = AllConcern-plan rs ds

-- a prefix of such requests
front : (made rest : List (Request Rule)) (rs ds : List Rule) → made ++ rest ≡ map Add rs ++ map Delete ds → concerning made ++ rest ≡ map Add rs ++ map Delete ds
front made rest rs ds c =
    ap (λ es. es ++ rest) (concerning-all made (AllConcern-front made rest (subst AllConcern (sym c) (AllConcern-plan rs ds)))) ∙ c

-- what a test leaves of a prefix is a prefix of what it leaves
filter-take : (p : Rule → Bool) (n : ℕ) (xs : List Rule) → filter p (take n xs) ≡ take (length (filter p (take n xs))) (filter p xs)
filter-take p zero xs = refl
filter-take p (suc n) [] = refl
filter-take p (suc n) (x ∷ xs) = elim (cases_Bool (p x)) [
  | inl t ↦ rw t (ap (λ ys. x ∷ ys) (filter-take p n xs))
  | inr t ↦ rw t (filter-take p n xs)
]

module _ (old new : List Rule) (before behind : List (Request Rule)) (may : MayChange old new) (stands : Stands rule_kind (rules_of before) old) where
  -- along a prefix of the plan
  in_turn : (made rest : List (Request Rule)) → made ++ rest ≡ plan rule_kind old new → AskInTurn rule_kind made (rules_of before)
  in_turn made rest c =
      asks_done rule_kind old new (rules_of before) made rest may.tables.new_once stands
      (front made rest (beyond rule_kind old new) (reverse (beyond rule_kind new old)) c)

  goes : (packet : Packet) (made rest : List (Request Rule)) → made ++ rest ≡ plan rule_kind old new
      → GoesOver (length made) (verdict_at packet (rules_of before) made) (verdict_by packet old) (verdict_by packet new)
  goes packet made rest c =
      goes_over rule_kind (gives packet) Unreachable old new (rules_of before) made rest
      may.tables.old_rises may.tables.new_rises may.tables.old_once may.tables.same_order may.tables.new_behind
      (may.old_alike packet) (may.new_alike packet) stands
      (front made rest (beyond rule_kind old new) (reverse (beyond rule_kind new old)) c)

  pub moves_over : behind ≡ before ++ plan rule_kind old new → MovesOver old new before behind
  moves_over g =
      let all : plan rule_kind old new ++ [] ≡ plan rule_kind old new = append-nil (plan rule_kind old new) in
      let concern : concerning (plan rule_kind old new) ≡ plan rule_kind old new =
      concerning-all (plan rule_kind old new) (AllConcern-plan (beyond rule_kind old new) (reverse (beyond rule_kind new old))) in
      let end : Stands rule_kind (after rule_kind (plan rule_kind old new) (rules_of before)) new =
      ends_in_new rule_kind old new (rules_of before) (plan rule_kind old new) may.tables.same_order may.tables.new_behind stands concern in
      record {
        requests = plan rule_kind old new;
        grew = g;
        in_turn = in_turn (plan rule_kind old new) [] all;
        one_switch = λ packet. goes packet (plan rule_kind old new) [] all;
        ends = subst (λ rules. Stands rule_kind rules new) (sym (ap rules_of g ∙ rules_of-more before (plan rule_kind old new))) end;
      }

  pub stops_on_the_way : (made : List (Request Rule)) (broken : Rule) (rest : List (Request Rule)) → made ++ Delete broken ∷ rest ≡ plan rule_kind old new
      → behind ≡ before ++ made → StopsBetween old new before behind
  stops_on_the_way made broken rest c g = record {
    requests = made;
    grew = g;
    in_turn = in_turn made (Delete broken ∷ rest) c;
    old_or_new = λ packet. each_done (length made) (verdict_at packet (rules_of before) made) (verdict_by packet old) (verdict_by packet new) (goes packet made (Delete broken ∷ rest) c);
    broken = broken;
    rest = rest;
    stopped = inl c;
  }

  -- along a prefix of the undoing, where the first so many of the new rules have been looked at
  module _ (place : ℕ) where
    additions : List Rule
    additions = beyond rule_kind old (take place new)

    undone-is : undone additions ≡ undone (take (length (beyond rule_kind old (take place new))) (beyond rule_kind old new))
    unfolding additions
    undone-is = ap undone (filter-take (λ x. not (has rule_kind old x)) place new)

    undone_front : (made rest : List (Request Rule)) → made ++ rest ≡ undone additions
        → concerning made ++ rest ≡ undone (take (length (beyond rule_kind old (take place new))) (beyond rule_kind old new))
    undone_front made rest c = front made rest additions (reverse additions) c ∙ undone-is

    undone_in_turn : (made rest : List (Request Rule)) → made ++ rest ≡ undone additions → AskInTurn rule_kind made (rules_of before)
    undone_in_turn made rest c =
        asks_undone rule_kind old new (rules_of before) (length (beyond rule_kind old (take place new))) made rest may.tables.new_once stands (undone_front made rest c)

    goes_and_returns : (packet : Packet) (made rest : List (Request Rule)) → made ++ rest ≡ undone additions
        → GoesOverAndBack (length made) (verdict_at packet (rules_of before) made) (verdict_by packet old) (verdict_by packet new)
    goes_and_returns packet made rest c =
        goes_over_and_back rule_kind (gives packet) Unreachable old new (rules_of before) (length (beyond rule_kind old (take place new))) made rest
        may.tables.old_rises may.tables.new_rises may.tables.new_once (may.old_alike packet) stands (undone_front made rest c)

    pub comes_back : behind ≡ before ++ undone (beyond rule_kind old (take place new)) → ComesBack old new before behind
    unfolding additions
    comes_back g =
        let all : undone additions ++ [] ≡ undone additions = append-nil (undone additions) in
        let concern : concerning (undone additions) ≡ undone additions = concerning-all (undone additions) (AllConcern-plan additions (reverse additions)) in
        let end : after rule_kind (undone additions) (rules_of before) ≡ rules_of before =
        ends_as_before rule_kind old new (rules_of before) (length (beyond rule_kind old (take place new))) (undone additions) stands (concern ∙ undone-is) in
        record {
          requests = undone additions;
          grew = g;
          in_turn = undone_in_turn (undone additions) [] all;
          over_and_back = λ packet. goes_and_returns packet (undone additions) [] all;
          as_before = ap rules_of g ∙ (rules_of-more before (undone additions) ∙ end);
        }

    pub stops_on_the_way_back : (made : List (Request Rule)) (broken : Rule) (rest : List (Request Rule))
        → made ++ Delete broken ∷ rest ≡ undone (beyond rule_kind old (take place new)) → behind ≡ before ++ made → StopsBetween old new before behind
    unfolding additions
    stops_on_the_way_back made broken rest c g = record {
      requests = made;
      grew = g;
      in_turn = undone_in_turn made (Delete broken ∷ rest) c;
      old_or_new = λ packet. each_undone (length made) (verdict_at packet (rules_of before) made) (verdict_by packet old) (verdict_by packet new)
          (goes_and_returns packet made (Delete broken ∷ rest) c);
      broken = broken;
      rest = rest;
      stopped = inr (length (beyond rule_kind old (take place new)), c ∙ undone-is);
    }
