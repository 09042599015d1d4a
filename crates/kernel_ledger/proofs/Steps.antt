-- A ledger after one more entry.
use Rattle.std.proofs.Common.{◌≡◌, ℕ, ◌+◌, ◌≤◌, true, false, not, List, [], ◌∷◌, ◌++◌, length, sym, ◌∙◌, ap, subst, arith, filter, Option, Some, IsSome, refl}
use Rattle.std.proofs.Common.{length-append}
use Rattle.list_lemmas.proofs.Anys.{length-filter-le}
use Rattle.prefixes.specs.declared.addr.Family.{Family}
use Rattle.prefixes.specs.declared.addr.Family.TheVariants as fam
use Rattle.rule_match.specs.declared.rule.Rule.{Rule}
use Rattle.kernel_model.specs.State.{KernelState, NumberedTable, rules_of, start}
use Rattle.kernel_model.specs.Journal.{entry, act, may_stand, well_asked, replay, asks_addition, fails, is_addition, is_deletion, FailWhere}
use Rattle.kernel_model.specs.View.{KernelView, Lists, grown}
use Rattle.kernel_model.specs.declared.request.Request.{Request}
use Rattle.kernel_model.specs.declared.request.Request.TheVariants as req
use Rattle.kernel_model.specs.declared.request.EntryKind.{EntryKind}
use Rattle.kernel_model.specs.declared.request.Entry.{Entry}
use Rattle.kernel_model.proofs.Replays.{replay-append, well_asked_push}
use Rattle.kernel_ledger.specs.Kept.{IsKept, fails_next}
use Rattle.kernel_ledger.specs.Seen.{seen_by}
use Rattle.kernel_ledger.specs.declared.ledger.Ledger.{Ledger}
use Rattle.kernel_ledger.proofs.Pushed.{FailWhere-push, filter_push_in, filter_push_out}

module _ {lists : Option Lists} {journal : List Entry} {a d : ℕ} (kept : IsKept lists journal a d) where
  -- how many were asked for, at most as many as there are entries
  pub additions_bound : a ≤ length journal
  additions_bound = omega (arith, kept.additions_are, length-filter-le is_addition journal)

  pub deletions_bound : d ≤ length journal
  deletions_bound = omega (arith, kept.deletions_are, length-filter-le is_deletion journal)

  module _ (longer : List Entry) (kind : EntryKind) (q : Request) (grew : longer ≡ journal ++ entry kind q ∷ []) (may : may_stand (replay journal) kind q ≡ true)
      (told : IsSome lists → fails kind ≡ fails_next lists journal (asks_addition kind)) where
    -- as the lists said
    said : (given : Lists) → lists ≡ Some given → fails kind ≡ fails_next (Some given) journal (asks_addition kind)
    said given is = rw is at told refl

    -- an addition was asked for, and became what the lists say
    pub asked_addition : asks_addition kind ≡ true → IsKept lists longer (a + 1) d
    asked_addition asks =
        let more : filter is_addition longer ≡ filter is_addition journal ++ entry kind q ∷ [] = ap (filter is_addition) grew ∙ filter_push_in is_addition journal (entry kind q) asks in
        let same : filter is_deletion longer ≡ filter is_deletion journal = ap (filter is_deletion) grew ∙ filter_push_out is_deletion journal (entry kind q) (ap not asks) in
        record {
          additions_are = ap (λ n. n + 1) kept.additions_are ∙ sym (ap length more ∙ length-append (filter is_addition journal) (entry kind q ∷ []));
          deletions_are = kept.deletions_are ∙ ap length (sym same);
          well_asked_all = ap (well_asked start) grew ∙ well_asked_push journal (entry kind q) kept.well_asked_all may;
          as_listed = λ given is.
              let listed = kept.as_listed given is in
              record {
                refusals = subst (FailWhere given.refuse) (sym more) (FailWhere-push given.refuse (filter is_addition journal) (entry kind q) (said given is ∙ ap (fails_next (Some given) journal) asks) listed.refusals);
                broken = subst (FailWhere given.breaks) (sym same) listed.broken;
              };
        }

    pub asked_deletion : asks_addition kind ≡ false → IsKept lists longer a (d + 1)
    asked_deletion asks =
        let more : filter is_deletion longer ≡ filter is_deletion journal ++ entry kind q ∷ [] = ap (filter is_deletion) grew ∙ filter_push_in is_deletion journal (entry kind q) (ap not asks) in
        let same : filter is_addition longer ≡ filter is_addition journal = ap (filter is_addition) grew ∙ filter_push_out is_addition journal (entry kind q) asks in
        record {
          additions_are = kept.additions_are ∙ ap length (sym same);
          deletions_are = ap (λ n. n + 1) kept.deletions_are ∙ sym (ap length more ∙ length-append (filter is_deletion journal) (entry kind q ∷ []));
          well_asked_all = ap (well_asked start) grew ∙ well_asked_push journal (entry kind q) kept.well_asked_all may;
          as_listed = λ given is.
              let listed = kept.as_listed given is in
              record {
                refusals = subst (FailWhere given.refuse) (sym same) listed.refusals;
                broken = subst (FailWhere given.breaks) (sym more) (FailWhere-push given.breaks (filter is_deletion journal) (entry kind q) (said given is ∙ ap (fails_next (Some given) journal) asks) listed.broken);
              };
        }

-- what one more entry makes of the state that the journal left
module _ (old new : Ledger) (kind : EntryKind) (state : KernelState) where
  pub acted : (q : Request) (next : KernelState) → seen_by new ≡ grown (seen_by old) (entry kind q ∷ []) → replay old.journal.items ≡ state → act state kind q ≡ next
      → replay new.journal.items ≡ next
  acted q next grew was acts =
      ap (λ (v : KernelView). replay v.journal) grew ∙ replay-append old.journal.items (entry kind q ∷ []) ∙ ap (λ k. act k kind q) was ∙ acts

  -- where it is of one family's rules
  module _ (family : Family) (rule : Rule) (rules : List Rule) (grew : seen_by new ≡ grown (seen_by old) (entry kind (req.Rule family rule) ∷ [])) (was : replay old.journal.items ≡ state) where
    pub acted_in4 : family ≡ fam.V4 → rules ≡ rules_of (act state kind (req.Rule fam.V4 rule)) fam.V4
        → act state kind (req.Rule fam.V4 rule) ≡ record state { rules4 = rules_of (act state kind (req.Rule fam.V4 rule)) fam.V4 } → replay new.journal.items ≡ record state { rules4 = rules }
    acted_in4 is goes only = acted (req.Rule family rule) (record state { rules4 = rules }) grew was (ap (λ f. act state kind (req.Rule f rule)) is ∙ only ∙ ap (λ rs. record state { rules4 = rs }) (sym goes))

    pub acted_in6 : family ≡ fam.V6 → rules ≡ rules_of (act state kind (req.Rule fam.V6 rule)) fam.V6
        → act state kind (req.Rule fam.V6 rule) ≡ record state { rules6 = rules_of (act state kind (req.Rule fam.V6 rule)) fam.V6 } → replay new.journal.items ≡ record state { rules6 = rules }
    acted_in6 is goes only = acted (req.Rule family rule) (record state { rules6 = rules }) grew was (ap (λ f. act state kind (req.Rule f rule)) is ∙ only ∙ ap (λ rs. record state { rules6 = rs }) (sym goes))

abbrev pub of_parts : List Rule → List Rule → List NumberedTable → KernelState
of_parts rules4 rules6 tables = record { rules4 = rules4; rules6 = rules6; tables = tables }
