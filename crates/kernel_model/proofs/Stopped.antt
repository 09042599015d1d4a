-- The moments of entries that stop before others.
use Rattle.std.proofs.Common.{◌≡◌, ℕ, ◌+◌, ◌<◌, ◌≤◌, List, [], ◌∷◌, ◌++◌, length, take, drop, Some, slice_get, sym, ◌∙◌, ap, arith, length-append}
use Rattle.std.proofs.lemmas.List.{take_all, take-append-le, take-append-drop, length-take-le}
use Rattle.std.proofs.lemmas.Option.{slice_get_within}
use Rattle.std.proofs.Math.Seq.{take-append-add}
use Rattle.rule_law.specs.Plans.{GoesOver, GoesOverAndBack}
use Rattle.rule_match.specs.declared.verdict.Verdict.{Verdict}
use Rattle.kernel_model.specs.State.{KernelState}
use Rattle.kernel_model.specs.Journal.{entry, replay, replay_from}
use Rattle.kernel_model.specs.Moments.{moment, moment_from}
use Rattle.kernel_model.specs.declared.request.Entry.{Entry}
use Rattle.kernel_model.specs.declared.request.EntryKind.TheVariants.{Broken}
use Rattle.kernel_model.specs.declared.request.Request.{Request}
use Rattle.kernel_model.proofs.Held.{held_over, held_back}
use Rattle.kernel_model.proofs.Replays.{replay_from-append, replay-append}

pub moments_go_on : (journal entries : List Entry) (i : ℕ) → moment (journal ++ entries) (length journal + i) ≡ moment_from (replay journal) entries i
moments_go_on journal entries i = ap replay (take-append-add journal entries i) ∙ replay-append journal (take i entries)

-- what is asked of the moments of two lists of entries
pub record StopsAt (k : KernelState) (all entries : List Entry) : Type 0 where
  pub place : ℕ
  pub within : place ≤ length all
  pub stops : place ≤ length entries
  pub same : (i : ℕ) → i ≤ length entries → i ≤ place → moment_from k entries i ≡ moment_from k all i
  pub stays : (i : ℕ) → i ≤ length entries → place < i → moment_from k entries i ≡ moment_from k all place

-- the first of the entries
pub prefix_stops : (k : KernelState) (all entries rest : List Entry) → entries ++ rest ≡ all → StopsAt k all entries
prefix_stops k all entries rest is = record {
  place = length entries;
  within = omega (arith, ap length is, length-append entries rest);
  stops = omega arith;
  same = λ i l m. ap (replay_from k) (sym (ap (take i) (sym is) ∙ take-append-le i entries rest l));
  stays = λ i l m. absurd (omega (arith, l, m));
}

-- the entries before a deletion, and that deletion as broken
pub broken_stops : (k : KernelState) (all entries : List Entry) (n : ℕ) (e : Entry) (q : Request) → slice_get all n ≡ Some e → entries ≡ take n all ++ entry Broken q ∷ [] → StopsAt k all entries
broken_stops k all entries n e q next is =
    let within : n < length all = slice_get_within all n e next in
    let front : length (take n all) ≡ n = length-take-le n all (omega (arith, within)) in
    let long : length entries ≡ n + 1 = ap length is ∙ length-append (take n all) (entry Broken q ∷ []) ∙ ap (λ m. m + 1) front in
    let part : (i : ℕ) → i ≤ n → take i all ≡ take i entries = λ i l.
    ap (take i) (sym (take-append-drop n all)) ∙ take-append-le i (take n all) (drop n all) (omega (arith, l, front))
    ∙ sym (ap (take i) is ∙ take-append-le i (take n all) (entry Broken q ∷ []) (omega (arith, l, front))) in
    record {
      place = n;
      within = omega (arith, within);
      stops = omega (arith, long);
      same = λ i l m. ap (replay_from k) (sym (part i m));
      stays = λ i l m. ap (replay_from k) (take_all i entries (omega (arith, long, m)) ∙ is) ∙ replay_from-append k (take n all) (entry Broken q ∷ []);
    }

module _ (k : KernelState) (all entries : List Entry) (value : KernelState → Verdict) (old new : Verdict) (h : StopsAt k all entries) where
  abbrev values : List Entry → ℕ → Verdict
  values es i = value (moment_from k es i)

  same : (i : ℕ) → i ≤ length entries → i ≤ h.place → values entries i ≡ values all i
  same i l m = ap value (h.same i l m)

  stays : (i : ℕ) → i ≤ length entries → h.place < i → values entries i ≡ values all h.place
  stays i l m = ap value (h.stays i l m)

  pub over_stops : GoesOver (length all) (values all) old new → GoesOver (length entries) (values entries) old new
  over_stops = held_over (values all) (values entries) old new (length all) h.place (length entries) h.within same stays h.stops

  pub back_stops : GoesOverAndBack (length all) (values all) old new → GoesOverAndBack (length entries) (values entries) old new
  back_stops = held_back (values all) (values entries) old new (length all) h.place (length entries) h.within same stays h.stops
