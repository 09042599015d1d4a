-- What a watch notes of the requests is what is said of them, by the walks of the moments.
use Rattle.std.proofs.Common.{◌≡◌, ◌∙◌, ℕ, ◌+◌, ◌-◌, Bool, true, false, List, [], ◌∷◌, ◌++◌, length, drop, Option, None, Some, refl, sym, ap, append_assoc, arith, length-append}
use Rattle.std.proofs.Math.Seq.{drop-append_seam, take-append_seam}
use Rattle.std.specs.Bool.{if◌then◌else◌}
use Rattle.kernel_model.proofs.Replays.{replay-append}
use Rattle.kernel_model.specs.Journal.{act, replay}
use Rattle.kernel_model.specs.Moments.{moment}
use Rattle.kernel_model.specs.State.{KernelState}
use Rattle.kernel_model.specs.View.{KernelView, grown}
use Rattle.kernel_model.specs.Walk.{walk}
use Rattle.kernel_model.specs.declared.request.Entry.{Entry}
use Rattle.packet_trace.specs.Changes.{changes, changes_since}
use Rattle.policy_state.specs.View.{StateView}
use Rattle.rule_match.specs.Verdict.{same_verdict}
use Rattle.rule_match.specs.declared.packet.Packet.{Packet}
use Rattle.rule_match.specs.declared.verdict.Verdict.{Verdict}
use Rattle.netd_session.specs.Watches.{noted_text, request_text, requests_text, said_of_request, said_of_requests}

module _ (n : ℕ) (state : StateView) where
  -- one request, noted or not
  one : (b : Bool) (rest : List (ℕ × Verdict)) (request : ℕ) (verdict : Verdict)
      → noted_text n state (if b then rest else (request, verdict) ∷ rest) ≡ (if b then [] else request_text n state request verdict) ++ noted_text n state rest
  one true rest request verdict = refl
  one false rest request verdict = refl

  module _ (p : Packet) where
    here : (journal : List Entry) (k l : KernelState) (r : ℕ) → moment journal r ≡ k → moment journal (r + 1) ≡ l
        → said_of_request n state p journal r ≡ (if same_verdict (walk k p) (walk l p) then [] else request_text n state (r + 1) (walk l p))
    here journal k l r before after = rw (before, after) refl

    noted : (before es : List Entry) → noted_text n state (changes p (replay before) (length before) es) ≡ said_of_requests n state p (before ++ es) (length before) (length es)
    noted before [] = refl
    noted before (e ∷ es) =
        let next : KernelState = act (replay before) e.kind e.request in
        let after : replay (before ++ e ∷ []) ≡ next = replay-append before (e ∷ []) in
        let longer : length (before ++ e ∷ []) ≡ length before + 1 = length-append before (e ∷ []) in
        let whole : (before ++ e ∷ []) ++ es ≡ before ++ e ∷ es = append_assoc before (e ∷ []) es in
        let rest : noted_text n state (changes p next (length before + 1) es) ≡ said_of_requests n state p (before ++ e ∷ es) (length before + 1) (length es) =
        ap (λ (k : KernelState). noted_text n state (changes p k (length before + 1) es)) (sym after)
        ∙ (ap (λ (m : ℕ). noted_text n state (changes p (replay (before ++ e ∷ [])) m es)) (sym longer)
        ∙ (noted (before ++ e ∷ []) es
        ∙ (ap (λ (m : ℕ). said_of_requests n state p ((before ++ e ∷ []) ++ es) m (length es)) longer
        ∙ ap (λ (j : List Entry). said_of_requests n state p j (length before + 1) (length es)) whole))) in
        let at : moment (before ++ e ∷ es) (length before) ≡ replay before = ap replay (take-append_seam before (e ∷ es)) in
        let behind : moment (before ++ e ∷ es) (length before + 1) ≡ next =
        ap (λ (j : List Entry). moment j (length before + 1)) (sym whole)
        ∙ (ap (moment ((before ++ e ∷ []) ++ es)) (sym longer)
        ∙ (ap replay (take-append_seam (before ++ e ∷ []) es) ∙ after)) in
        one (same_verdict (walk (replay before) p) (walk next p)) (changes p next (length before + 1) es) (length before + 1) (walk next p)
        ∙ (ap (λ (text : List ℕ). text ++ noted_text n state (changes p next (length before + 1) es)) (sym (here (before ++ e ∷ es) (replay before) next (length before) at behind))
        ∙ ap (λ (text : List ℕ). said_of_request n state p (before ++ e ∷ es) (length before) ++ text) rest)

  noted_since : (packet : Option Packet) (before : KernelView) (es : List Entry)
      → noted_text n state (changes_since packet (length before.journal) (before.journal ++ es)) ≡ requests_text n state packet before (grown before es)
  noted_since None before es = refl
  noted_since (Some p) before es =
      let count : length (before.journal ++ es) - length before.journal ≡ length es = omega (arith, length-append before.journal es) in
      ap (λ (j : List Entry). noted_text n state (changes p (replay j) (length before.journal) (drop (length before.journal) (before.journal ++ es)))) (take-append_seam before.journal es)
      ∙ (ap (λ (j : List Entry). noted_text n state (changes p (replay before.journal) (length before.journal) j)) (drop-append_seam before.journal es)
      ∙ (noted p before.journal es
      ∙ ap (said_of_requests n state p (before.journal ++ es) (length before.journal)) (sym count)))

  -- of all requests of a command
  pub noted_all : (packet : Option Packet) (before after : KernelView) (es : List Entry) → after ≡ grown before es
      → noted_text n state (changes_since packet (length before.journal) after.journal) ≡ requests_text n state packet before after
  noted_all packet before after es grew =
      ap (λ (k : KernelView). noted_text n state (changes_since packet (length before.journal) k.journal)) grew
      ∙ (noted_since packet before es
      ∙ ap (requests_text n state packet before) (sym grew))
