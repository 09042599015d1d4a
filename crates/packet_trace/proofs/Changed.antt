-- One more request under watch.
use Rattle.std.proofs.Common.{◌≡◌, ℕ, suc, ◌+◌, ◌≤◌, Bool, true, false, List, [], ◌∷◌, ◌++◌, length, take, drop, Option, Some, None, refl, sym, ◌∙◌, ap, arith, take-append-drop, length-drop, length-append, add-zero}
use Rattle.std.specs.Bool.{if◌then◌else◌}
use Rattle.std.proofs.lemmas.List.{take-append-le, drop-append-le}
use Rattle.std.specs.Option.{option_map}
use Rattle.kernel_model.specs.State.{KernelState}
use Rattle.kernel_model.specs.Walk.{walk}
use Rattle.kernel_model.specs.Journal.{act, replay, replay_from}
use Rattle.kernel_model.specs.declared.request.Entry.{Entry}
use Rattle.rule_match.specs.declared.packet.Packet.{Packet}
use Rattle.rule_match.specs.declared.verdict.Verdict.{Verdict}
use Rattle.kernel_model.proofs.Replays.{replay-append}
use Rattle.rule_match.specs.Verdict.{same_verdict}
use Rattle.packet_trace.specs.Changes.{changes, changes_since, change_by}

-- what the last entry changes
changes-push : (p : Packet) (k : KernelState) (n : ℕ) (es : List Entry) (e : Entry)
    → changes p k n (es ++ e ∷ []) ≡ changes p k n es ++ change_by (Some (walk (replay_from k es) p)) (Some (walk (act (replay_from k es) e.kind e.request) p)) (n + length es + 1)
changes-push p k n [] e = rw add-zero refl
changes-push p k n (f ∷ es) e =
    let next = act k f.kind f.request in
    let ih = changes-push p next (n + 1) es e in
    let numbers : n + suc (length es) + 1 ≡ n + 1 + length es + 1 = omega arith in
    rw numbers (step (same_verdict (walk k p) (walk next p)) (changes p next (n + 1) (es ++ e ∷ [])) (changes p next (n + 1) es) (change_by (Some (walk (replay_from next es) p)) (Some (walk (act (replay_from next es) e.kind e.request) p)) (n + 1 + length es + 1)) (n + 1, walk next p) ih)
  where
    step : (b : Bool) (grown before last : List (ℕ × Verdict)) (here : ℕ × Verdict) → grown ≡ before ++ last → (if b then grown else here ∷ grown) ≡ (if b then before else here ∷ before) ++ last
    step true grown before last here is = is
    step false grown before last here is = ap (λ l. here ∷ l) is

-- one request more: the kernel was at journal, and is at grown
pub changed : (packet : Option Packet) (since : ℕ) (journal grown : List Entry) (e : Entry) (seen : List (ℕ × Verdict)) (number : ℕ) → since ≤ length journal → grown ≡ journal ++ e ∷ [] → number ≡ length grown
    → seen ≡ changes_since packet since journal ++ change_by (option_map (walk (replay journal)) packet) (option_map (walk (replay grown)) packet) number → seen ≡ changes_since packet since grown
changed None since journal grown e seen number later grew is_number is = is
changed (Some p) since journal grown e seen number later grew is_number is =
    let front : take since grown ≡ take since journal = ap (take since) grew ∙ take-append-le since journal (e ∷ []) later in
    let rest : drop since grown ≡ drop since journal ++ e ∷ [] = ap (drop since) grew ∙ drop-append-le since journal (e ∷ []) later in
    let here : replay_from (replay (take since journal)) (drop since journal) ≡ replay journal = sym (replay-append (take since journal) (drop since journal)) ∙ ap replay (take-append-drop since journal) in
    let after : replay grown ≡ act (replay journal) e.kind e.request = ap replay grew ∙ replay-append journal (e ∷ []) in
    let count : since + length (drop since journal) + 1 ≡ number = omega (arith, is_number, ap length grew, length-append journal (e ∷ []), length-drop since journal) in
    is
    ∙ ap (λ k. changes_since (Some p) since journal ++ change_by (Some (walk (replay journal) p)) (Some (walk k p)) number) after
    ∙ sym (
    ap (λ l. changes p (replay l) since (drop since grown)) front
    ∙ ap (λ l. changes p (replay (take since journal)) since l) rest
    ∙ changes-push p (replay (take since journal)) since (drop since journal) e
    ∙ ap (λ k. changes_since (Some p) since journal ++ change_by (Some (walk k p)) (Some (walk (act k e.kind e.request) p)) (since + length (drop since journal) + 1)) here
    ∙ ap (λ n. changes_since (Some p) since journal ++ change_by (Some (walk (replay journal) p)) (Some (walk (act (replay journal) e.kind e.request) p)) n) count
    )

-- the same, of what the calls answered
pub changed_by : (packet : Option Packet) (since : ℕ) (journal grown : List Entry) (e : Entry) (before_seen seen : List (ℕ × Verdict)) (before after : Option Verdict) (number : ℕ)
    → since ≤ length journal → grown ≡ journal ++ e ∷ [] → number ≡ length grown → before_seen ≡ changes_since packet since journal
    → before ≡ option_map (walk (replay journal)) packet → after ≡ option_map (walk (replay grown)) packet → seen ≡ before_seen ++ change_by before after number → seen ≡ changes_since packet since grown
changed_by packet since journal grown e before_seen seen before after number later grew is_number kept was is noted =
    changed packet since journal grown e seen number later grew is_number
    (noted
    ∙ ap (λ l. l ++ change_by before after number) kept
    ∙ ap (λ o. changes_since packet since journal ++ change_by o after number) was
    ∙ ap (λ o. changes_since packet since journal ++ change_by (option_map (walk (replay journal)) packet) o number) is)
