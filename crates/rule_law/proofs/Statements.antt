-- The law, as the contracts of this crate state it.
use Rattle.std.proofs.Common.{◌≡◌, ℕ, List, ◌++◌, sym, ◌∙◌, ap, subst, arith, Option, take, drop, length}
use Rattle.std.specs.List.{find}
use Rattle.std.proofs.lemmas.List.{take-append-drop}
use Rattle.rule_law.specs.Rules.{Kind, Rises, HasEachOnce, AreAbsent, Stands, GiversAreAlike, walk}
use Rattle.rule_law.specs.Plans.{KeepsOrder, PutsNewBehind, beyond, Request, after, concerning, plan, undone, walk_at, GoesOver, GoesOverAndBack}
use Rattle.rule_law.proofs.Moments.{Back-concerning, Back-front, Back-map, Over, Over-concerning, Over-front, Over-map, OverAndBack, after-concerning}
use Rattle.rule_law.proofs.Numbers.{back-numbers, over-numbers}
use Rattle.rule_law.proofs.Adding.{Leads}
use Rattle.rule_law.proofs.Classes.{stands_in_the_end}
use Rattle.rule_law.proofs.Undoing.{restored}
use Rattle.rule_law.proofs.Walks.{leads-stands, same_walk, speaks}
use Rattle.rule_law.proofs.Law.{additions-absent, returns, switches}

module _ {R V : Type 0} (k : Kind R) (gives : R → Option V) (none : V) where
  over-record : (es : List (Request R)) (xs : List R) (a b : V)
      → Over k (λ zs. walk gives none zs ≡ a) (λ zs. walk gives none zs ≡ b) es xs → GoesOver (length es) (walk_at k gives none xs es) a b
  over-record es xs a b h =
      let t : _ = over-numbers k (λ zs. walk gives none zs ≡ a) (λ zs. walk gives none zs ≡ b) es xs h in
      record { switch = t.0; before = λ i l m. t.1 i l (omega arith) m; behind = t.2 }

  back-record : (es : List (Request R)) (xs : List R) (a b : V)
      → OverAndBack k (λ zs. walk gives none zs ≡ a) (λ zs. walk gives none zs ≡ b) es xs → GoesOverAndBack (length es) (walk_at k gives none xs es) a b
  back-record es xs a b h =
      let t : _ = back-numbers k (λ zs. walk gives none zs ≡ a) (λ zs. walk gives none zs ≡ b) es xs h in
      record { over = t.0; back = t.1; in_order = t.2; before = λ i l m. t.3 i l (omega arith) m; between = t.4; behind = t.5 }

  pub stands_walks : (rules table : List R) → Rises k table → GiversAreAlike k gives table → Stands k rules table → walk gives none rules ≡ walk gives none table
  stands_walks rules table n u h = same_walk gives none rules table (leads-stands k gives rules table h n u)

  pub goes_over : (old new rules : List R) (requests rest : List (Request R))
      → Rises k old → Rises k new → HasEachOnce k old → KeepsOrder k old new → PutsNewBehind k old new
      → GiversAreAlike k gives old → GiversAreAlike k gives new → Stands k rules old
      → concerning requests ++ rest ≡ plan k old new
      → GoesOver (length requests) (walk_at k gives none rules requests) (walk gives none old) (walk gives none new)
  goes_over old new rules requests rest old_rises new_rises old_once same_order new_behind u v g c =
      let s : _ = speaks gives in
      let P : List R → Type 0 = Leads s (find s old) in
      let Q : List R → Type 0 = Leads s (find s new) in
      let d : find s rules ≡ find s old = leads-stands k gives rules old g old_rises u in
      let end : Stands k (after k (plan k old new) rules) new = stands_in_the_end k old new rules same_order new_behind g in
      let e : find s (after k (plan k old new) rules) ≡ find s new = leads-stands k gives (after k (plan k old new) rules) new end new_rises v in
      let o : Over k P Q (plan k old new) rules = switches k old new rules g s new_rises old_once d e in
      over-record requests rules (walk gives none old) (walk gives none new)
      (Over-map k P Q (λ zs. walk gives none zs ≡ walk gives none old) (λ zs. walk gives none zs ≡ walk gives none new)
      (λ zs q. same_walk gives none zs old q) (λ zs q. same_walk gives none zs new q) requests rules
      (Over-concerning k P Q requests rules (Over-front k P Q (concerning requests) rest rules (subst (λ es. Over k P Q es rules) (sym c) o))))

  pub goes_over_and_back : (old new rules : List R) (j : ℕ) (requests rest : List (Request R))
      → Rises k old → Rises k new → HasEachOnce k new → GiversAreAlike k gives old → Stands k rules old
      → concerning requests ++ rest ≡ undone (take j (beyond k old new))
      → GoesOverAndBack (length requests) (walk_at k gives none rules requests) (walk gives none old) (walk gives none new)
  goes_over_and_back old new rules j requests rest a b n u g c =
      let s : _ = speaks gives in
      let P : List R → Type 0 = Leads s (find s old) in
      let Q : List R → Type 0 = Leads s (find s new) in
      let d : find s rules ≡ find s old = leads-stands k gives rules old g a u in
      let o : OverAndBack k P Q (undone (take j (beyond k old new))) rules =
      returns k old new rules g s b n (take j (beyond k old new)) (drop j (beyond k old new)) (take-append-drop j (beyond k old new)) d in
      back-record requests rules (walk gives none old) (walk gives none new)
      (Back-map k P Q (λ zs. walk gives none zs ≡ walk gives none old) (λ zs. walk gives none zs ≡ walk gives none new)
      (λ zs q. same_walk gives none zs old q) (λ zs q. same_walk gives none zs new q) requests rules
      (Back-concerning k P Q requests rules (Back-front k P Q (concerning requests) rest rules (subst (λ es. OverAndBack k P Q es rules) (sym c) o))))

module _ {R : Type 0} (k : Kind R) where
  pub ends_in_new : (old new rules : List R) (requests : List (Request R))
      → KeepsOrder k old new → PutsNewBehind k old new → Stands k rules old
      → concerning requests ≡ plan k old new → Stands k (after k requests rules) new
  ends_in_new old new rules requests o n g c =
      subst (λ zs. Stands k zs new) (ap (λ es. after k es rules) (sym c) ∙ after-concerning k requests rules) (stands_in_the_end k old new rules o n g)

  pub any_ends_as_before : (added rules : List R) (requests : List (Request R))
      → AreAbsent k added rules → concerning requests ≡ undone added → after k requests rules ≡ rules
  any_ends_as_before added rules requests a c =
      sym (after-concerning k requests rules) ∙ (ap (λ es. after k es rules) c ∙ restored k added rules a)

  pub ends_as_before : (old new rules : List R) (j : ℕ) (requests : List (Request R))
      → Stands k rules old → concerning requests ≡ undone (take j (beyond k old new)) → after k requests rules ≡ rules
  ends_as_before old new rules j requests g c =
      any_ends_as_before (take j (beyond k old new)) rules requests
      (additions-absent k old new rules g (take j (beyond k old new)) (drop j (beyond k old new)) (take-append-drop j (beyond k old new))) c
