-- The four ways in which a plan is carried out.
use Rattle.std.proofs.Common.{◌≡◌, ℕ, zero, suc, ◌+◌, List, [], ◌∷◌, ◌++◌, length, map, take, reverse, Some, inl, inr, slice_get, refl, sym, ◌∙◌, ap, arith, length-append, append_assoc, ◌≤◌, zero-add}
use Rattle.std.proofs.lemmas.List.{length_push, append-nil, length-take-le, length-map}
use Rattle.std.proofs.lemmas.Option.{none-some, same_Some, slice_get_within}
use Rattle.kernel_model.specs.View.{KernelView, grown}
use Rattle.kernel_model.specs.Journal.{entry}
use Rattle.kernel_model.specs.Segment.{done, undone, IsWhole, IsHalted}
use Rattle.kernel_model.specs.PlanView.{PlanView}
use Rattle.kernel_model.specs.declared.request.Entry.{Entry}
use Rattle.kernel_model.specs.declared.request.Request.{Request}
use Rattle.kernel_model.specs.declared.request.EntryKind.TheVariants.{Added, Deleted, Refused, Broken}
use Rattle.plan_exec.specs.InTurn.{Standing, noted, after, RefusedAt, BrokenAt}
use Rattle.plan_exec.specs.Carries.{Carries}
use Rattle.plan_exec.specs.declared.Carried.TheVariants.{Done, Undone, Halted}
use Rattle.plan_exec.proofs.Turns.{after-append}

suc-add : (m n : ℕ) → suc m + n ≡ suc (m + n)
suc-add m n = omega arith

abbrev with_journal : KernelView → List Entry → KernelView
with_journal k journal = record k { journal = journal }

-- what is seen after entries
pub seen-after : (k : Standing) (es : List Entry) → (after k es).seen ≡ grown k.seen es
seen-after k [] = ap (with_journal k.seen) (sym (append-nil k.seen.journal))
seen-after k (e ∷ es) = seen-after (noted k e) es ∙ ap (with_journal k.seen) (append_assoc k.seen.journal (e ∷ []) es)

length-after : (k : Standing) (es : List Entry) → length (after k es).seen.journal ≡ length k.seen.journal + length es
length-after k es = ap (λ (v : KernelView). length v.journal) (seen-after k es) ∙ length-append k.seen.journal es

pub spare-after : (k : Standing) (es : List Entry) (n : ℕ) → length es + n ≤ k.room.spare → n ≤ (after k es).room.spare
spare-after k [] n room = omega (arith, room)
spare-after k (e ∷ es) n room = spare-after (noted k e) es n (omega (arith, room))

-- one entry after a list of entries
noted_last : (k : Standing) (es : List Entry) (e : Entry) → noted (after k es) e ≡ after k (es ++ e ∷ [])
noted_last k es e = sym (after-append k es (e ∷ []))

-- where a list of deletions stops after others
stops_at : (front : List Entry) (ds : List Request) (j : ℕ) (q : Request) → slice_get ds j ≡ Some q → slice_get (front ++ map (entry Deleted) ds) (length front + j) ≡ Some (entry Deleted q)
stops_at [] ds j q h = rw zero-add (at_map ds j h)
  where
    at_map : (ds : List Request) (j : ℕ) → slice_get ds j ≡ Some q → slice_get (map (entry Deleted) ds) j ≡ Some (entry Deleted q)
    at_map [] j h = absurd (none-some q h)
    at_map (d ∷ ds) zero h = ap (λ x. Some (entry Deleted x)) (same_Some d q h)
    at_map (d ∷ ds) (suc j) h = at_map ds j h
stops_at (e ∷ es) ds j q h = rw suc-add (stops_at es ds j q h)

cut_at : (front : List Entry) (ds : List Request) (j : ℕ) → take (length front + j) (front ++ map (entry Deleted) ds) ≡ front ++ map (entry Deleted) (take j ds)
cut_at [] ds j = rw zero-add (sym (map_take ds j))
  where
    map_take : (ds : List Request) (j : ℕ) → map (entry Deleted) (take j ds) ≡ take j (map (entry Deleted) ds)
    map_take ds zero = refl
    map_take [] (suc j) = refl
    map_take (d ∷ ds) (suc j) = ap (λ l. entry Deleted d ∷ l) (map_take ds j)
cut_at (e ∷ es) ds j = rw suc-add (ap (λ l. e ∷ l) (cut_at es ds j))

halted : (adds deletes : List Request) (front whole entries : List Entry) (ds : List Request) (j : ℕ) (q : Request) → IsWhole adds deletes whole → whole ≡ front ++ map (entry Deleted) ds → slice_get ds j ≡ Some q
    → entries ≡ front ++ map (entry Deleted) (take j ds) ++ entry Broken q ∷ [] → IsHalted adds deletes entries
halted adds deletes front whole entries ds j q is_whole is at all = record {
  whole = whole;
  is_whole = is_whole;
  at = length front + j;
  request = q;
  stops = ap (λ l. slice_get l (length front + j)) is ∙ stops_at front ds j q at;
  all = all ∙ sym (ap (λ l. take (length front + j) l ++ entry Broken q ∷ []) is ∙ ap (λ l. l ++ entry Broken q ∷ []) (cut_at front ds j));
}

module _ (plan : PlanView) (old mid new : Standing) where
  pub carried_done : mid ≡ after old (map (entry Added) plan.adds) → new ≡ after mid (map (entry Deleted) plan.deletes) → Carries plan old.seen new.seen Done
  carried_done added deleted = record {
    entries = done plan.adds plan.deletes;
    grew = ap (λ (k : Standing). k.seen) (deleted ∙ ap (λ k. after k (map (entry Deleted) plan.deletes)) added ∙ sym (after-append old (map (entry Added) plan.adds) (map (entry Deleted) plan.deletes))) ∙ seen-after old (done plan.adds plan.deletes);
    form = refl;
  }

  pub carried_broken : (j request : ℕ) → mid ≡ after old (map (entry Added) plan.adds) → BrokenAt plan.deletes mid new j → request ≡ length new.seen.journal → Carries plan old.seen new.seen (Halted request)
  carried_broken j request added broke number =
      let front = map (entry Added) plan.adds in
      let cut = map (entry Deleted) (take j plan.deletes) in
      let last = entry Broken broke.request in
      let grew : new ≡ after old (front ++ cut ++ last ∷ []) =
      broke.grew ∙ ap (λ k. noted (after k cut) last) added ∙ ap (λ k. noted k last) (sym (after-append old front cut)) ∙ noted_last old (front ++ cut) last in
      record {
        entries = front ++ cut ++ last ∷ [];
        grew = ap (λ (k : Standing). k.seen) grew ∙ seen-after old (front ++ cut ++ last ∷ []);
        form = (halted plan.adds plan.deletes front (done plan.adds plan.deletes) (front ++ cut ++ last ∷ []) plan.deletes j broke.request (inl refl) refl broke.next refl, number ∙ ap (λ (k : Standing). length k.seen.journal) grew ∙ length-after old (front ++ cut ++ last ∷ []));
      }

  pub carried_undone : (k request : ℕ) → RefusedAt plan.adds old mid k → request ≡ length mid.seen.journal → new ≡ after mid (map (entry Deleted) (reverse (take k plan.adds))) → Carries plan old.seen new.seen (Undone request)
  carried_undone k request refused number deleted =
      let front = map (entry Added) (take k plan.adds) in
      let middle = entry Refused refused.request in
      let back = map (entry Deleted) (reverse (take k plan.adds)) in
      let inside : k ≤ length plan.adds = omega (arith, slice_get_within plan.adds k refused.request refused.next) in
      record {
        entries = undone plan.adds k refused.request;
        grew = ap (λ (v : Standing). v.seen) (deleted ∙ ap (λ v. after v back) refused.grew ∙ sym (after-append old front (middle ∷ back))) ∙ seen-after old (front ++ middle ∷ back);
        form = (
          k,
          record { refused = refused.request; next = refused.next; all = refl },
          number ∙ ap (λ (v : Standing). length v.seen.journal) refused.grew ∙ length_push (after old front).seen.journal middle
              ∙ ap (λ n. n + 1) (length-after old front ∙ ap (λ n. length old.seen.journal + n) (length-map (take k plan.adds) (entry Added) ∙ length-take-le k plan.adds inside)),
        );
      }

  pub carried_halted : (k j request : ℕ) → RefusedAt plan.adds old mid k → BrokenAt (reverse (take k plan.adds)) mid new j → request ≡ length new.seen.journal → Carries plan old.seen new.seen (Halted request)
  carried_halted k j request refused broke number =
      let front = map (entry Added) (take k plan.adds) in
      let middle = entry Refused refused.request in
      let cut = map (entry Deleted) (take j (reverse (take k plan.adds))) in
      let last = entry Broken broke.request in
      let entries = (front ++ middle ∷ []) ++ cut ++ last ∷ [] in
      let grew : new ≡ after old entries =
      broke.grew ∙ ap (λ v. noted (after v cut) last) (refused.grew ∙ noted_last old front middle)
      ∙ ap (λ v. noted v last) (sym (after-append old (front ++ middle ∷ []) cut)) ∙ noted_last old ((front ++ middle ∷ []) ++ cut) last in
      record {
        entries = entries;
        grew = ap (λ (v : Standing). v.seen) grew ∙ seen-after old entries;
        form = (
          halted plan.adds plan.deletes (front ++ middle ∷ []) (undone plan.adds k refused.request) entries (reverse (take k plan.adds)) j broke.request
              (inr (k, record { refused = refused.request; next = refused.next; all = refl })) (sym (append_assoc front (middle ∷ []) (map (entry Deleted) (reverse (take k plan.adds))))) broke.next refl,
          number ∙ ap (λ (v : Standing). length v.seen.journal) grew ∙ length-after old entries,
        );
      }
