use Rattle.std.proofs.Common.{◌≡◌, ◌∙◌, ◌<◌, ◌+◌, ◌++◌, ◌∷◌, [], ℕ, List, Some, ap, sym, append_assoc, arith, get_or, length, slice_get, take}
use Rattle.std.proofs.lemmas.List.{append-nil, take_all, take_more}
use Rattle.std.proofs.lemmas.List.Concat.{flat_map-append}
use Rattle.std.proofs.lemmas.Option.{get_or_from_slice_get, slice_get_within}
use Rattle.packet_trace.specs.Changes.{changes_since}
use Rattle.policy_state.specs.View.{StateView}
use Rattle.rule_match.specs.declared.verdict.Verdict.{Verdict}
use Rattle.netd_session.specs.Watches.{noted_text, request_text}
use Rattle.netd_session.proofs.watch.put_requests.Goals as goal

-- one change more
more_noted : (n : ℕ) (state : StateView) (changes : List (ℕ × Verdict)) (i : ℕ) (change : ℕ × Verdict) → slice_get changes i ≡ Some change
    → noted_text n state (take (i + 1) changes) ≡ noted_text n state (take i changes) ++ request_text n state change.0 change.1
more_noted n state changes i change at =
    let text_of : ℕ × Verdict → List ℕ = λ (c : ℕ × Verdict). request_text n state c.0 c.1 in
    ap (noted_text n state) (take_more changes i change (slice_get_within changes i change at))
    ∙ (flat_map-append text_of (take i changes) (get_or changes i change ∷ [])
    ∙ ap (λ (text : List ℕ). noted_text n state (take i changes) ++ text)
    (append-nil (text_of (get_or changes i change)) ∙ ap text_of (get_or_from_slice_get changes i change change at)))

pub put_request-requires : goal.put_request-requires
put_request-requires g c =
    let within : c.loop-place.place < length (changes_since c.args.watched.now.packet c.args.watched.now.since (g.K.Kernel.seen c.args.watched.now.inner.now).journal) =
    slice_get_within _ c.loop-place.place c.change_at-request.result c.change_at-request.ensures in
    omega (arith, within, c.loop-place.invariant.room)

pub loop-place-preserved : goal.loop-place-preserved
loop-place-preserved g c =
    let changes : List (ℕ × Verdict) = changes_since c.args.watched.now.packet c.args.watched.now.since (g.K.Kernel.seen c.args.watched.now.inner.now).journal in
    let before = c.args.out.now.items in
    let said : List ℕ = request_text c.args.number c.args.state.now c.change_at-request.result.0 c.change_at-request.result.1 in
    record {
      text = c.put_request.ensures.text
          ∙ (ap (λ (xs : List ℕ). xs ++ said) c.loop-place.invariant.text
          ∙ (append_assoc before (noted_text c.args.number c.args.state.now (take c.loop-place.place changes)) said
          ∙ ap (λ (xs : List ℕ). before ++ xs) (sym (more_noted c.args.number c.args.state.now changes c.loop-place.place c.change_at-request.result c.change_at-request.ensures))));
      room = omega (arith, c.loop-place.invariant.room, c.put_request.ensures.len, c.put_request.ensures.capacity);
    }

pub returns-clause-text : goal.returns-clause-text
returns-clause-text g c =
    let changes : List (ℕ × Verdict) = changes_since c.args.watched.now.packet c.args.watched.now.since (g.K.Kernel.seen c.args.watched.now.inner.now).journal in
    c.loop-place.invariant.text
    ∙ ap (λ (seen : List (ℕ × Verdict)). c.args.out.now.items ++ noted_text c.args.number c.args.state.now seen) (take_all c.loop-place.place changes (omega (arith, c.loop-place-test.false, c.seen_count-place-end.ensures)))

pub returns-clause-room : goal.returns-clause-room
returns-clause-room g c = omega (arith, c.loop-place.invariant.room, c.loop-place.auto.place-end, c.seen_count-place-end.ensures)
