-- A packet that goes over once, and back at most once, changes its way at most twice.
use Rattle.std.proofs.Common.{◌≡◌, ◌∙◌, ℕ, zero, suc, ◌+◌, ◌<◌, ◌≤◌, Bool, true, false, List, [], ◌∷◌, ◌++◌, length, Option, None, Some, refl, sym, ap, arith}
use Rattle.std.proofs.Math.Seq.{take-append_seam, drop-append_seam}
use Rattle.std.specs.Bool.{if◌then◌else◌}
use Rattle.kernel_model.specs.State.{KernelState}
use Rattle.kernel_model.specs.Switch.{walk_along}
use Rattle.kernel_model.specs.Walk.{walk}
use Rattle.kernel_model.specs.Journal.{act, replay}
use Rattle.kernel_model.specs.declared.request.Entry.{Entry}
use Rattle.rule_law.specs.Plans.{GoesOverAndBack}
use Rattle.rule_match.proofs.Sames.{same_verdict-refl}
use Rattle.rule_match.specs.Verdict.{same_verdict}
use Rattle.rule_match.specs.declared.packet.Packet.{Packet}
use Rattle.rule_match.specs.declared.verdict.Verdict.{Verdict}
use Rattle.packet_trace.specs.Changes.{changes, changes_since}

-- one entry that is noted or not
one_more : (b : Bool) (rest : List (ℕ × Verdict)) (here : ℕ × Verdict) (most : ℕ) → length rest ≤ most → length (if b then rest else here ∷ rest) ≤ suc most
one_more true rest here most few = omega (arith, few)
one_more false rest here most few = omega (arith, few)

-- two equal verdicts note nothing
none_more : (v w a b : Verdict) (rest : List (ℕ × Verdict)) (here : ℕ × Verdict) (most : ℕ) → v ≡ a → w ≡ b → a ≡ b → length rest ≤ most
    → length (if same_verdict v w then rest else here ∷ rest) ≤ most
none_more v w a b rest here most first second same few =
    let equal : same_verdict v w ≡ true = ap (λ (x : Verdict). same_verdict x w) (first ∙ same ∙ sym second) ∙ same_verdict-refl w in
    rw equal few

module _ (p : Packet) where
  -- it goes the same way all the while
  still : (k : KernelState) (n : ℕ) (es : List Entry) (v : Verdict) → ((i : ℕ) → i ≤ length es → walk_along k p es i ≡ v) → length (changes p k n es) ≤ 0
  still k n [] v at = omega arith
  still k n (e ∷ es) v at =
      none_more (walk k p) (walk (act k e.kind e.request) p) v v (changes p (act k e.kind e.request) (n + 1) es) (n + 1, walk (act k e.kind e.request) p) 0
      (at 0 (omega arith)) (at 1 (omega arith)) refl
      (still (act k e.kind e.request) (n + 1) es v (λ i within. at (suc i) (omega arith)))

  -- it goes over
  once : (k : KernelState) (n : ℕ) (es : List Entry) (switch : ℕ) (v w : Verdict)
      → ((i : ℕ) → i ≤ length es → i < switch → walk_along k p es i ≡ v)
      → ((i : ℕ) → i ≤ length es → switch ≤ i → walk_along k p es i ≡ w) → length (changes p k n es) ≤ 1
  once k n [] switch v w before behind = omega arith
  once k n (e ∷ es) zero v w before behind =
      let few : length (changes p k n (e ∷ es)) ≤ 0 = still k n (e ∷ es) w (λ i within. behind i within (omega arith)) in
      omega (arith, few)
  once k n (e ∷ es) (suc zero) v w before behind =
      one_more (same_verdict (walk k p) (walk (act k e.kind e.request) p)) (changes p (act k e.kind e.request) (n + 1) es) (n + 1, walk (act k e.kind e.request) p) 0
      (still (act k e.kind e.request) (n + 1) es w (λ i within. behind (suc i) (omega arith) (omega arith)))
  once k n (e ∷ es) (suc (suc switch)) v w before behind =
      none_more (walk k p) (walk (act k e.kind e.request) p) v v (changes p (act k e.kind e.request) (n + 1) es) (n + 1, walk (act k e.kind e.request) p) 1
      (before 0 (omega arith) (omega arith)) (before 1 (omega arith) (omega arith)) refl
      (once (act k e.kind e.request) (n + 1) es (suc switch) v w
      (λ i within below. before (suc i) (omega arith) (omega arith)) (λ i within past. behind (suc i) (omega arith) (omega arith)))

  -- it goes over, and back
  twice : (k : KernelState) (n : ℕ) (es : List Entry) (over back : ℕ) (v w : Verdict) → over ≤ back
      → ((i : ℕ) → i ≤ length es → i < over → walk_along k p es i ≡ v)
      → ((i : ℕ) → i ≤ length es → over ≤ i → i < back → walk_along k p es i ≡ w)
      → ((i : ℕ) → i ≤ length es → back ≤ i → walk_along k p es i ≡ v) → length (changes p k n es) ≤ 2
  twice k n [] over back v w in_order before between behind = omega arith
  twice k n (e ∷ es) zero back v w in_order before between behind =
      let few : length (changes p k n (e ∷ es)) ≤ 1 = once k n (e ∷ es) back w v (λ i within below. between i within (omega arith) below) behind in
      omega (arith, few)
  twice k n (e ∷ es) (suc over) zero v w in_order before between behind = absurd (omega (arith, in_order))
  twice k n (e ∷ es) (suc zero) (suc back) v w in_order before between behind =
      one_more (same_verdict (walk k p) (walk (act k e.kind e.request) p)) (changes p (act k e.kind e.request) (n + 1) es) (n + 1, walk (act k e.kind e.request) p) 1
      (once (act k e.kind e.request) (n + 1) es back w v
      (λ i within below. between (suc i) (omega arith) (omega arith) (omega arith)) (λ i within past. behind (suc i) (omega arith) (omega arith)))
  twice k n (e ∷ es) (suc (suc over)) (suc back) v w in_order before between behind =
      none_more (walk k p) (walk (act k e.kind e.request) p) v v (changes p (act k e.kind e.request) (n + 1) es) (n + 1, walk (act k e.kind e.request) p) 2
      (before 0 (omega arith) (omega arith)) (before 1 (omega arith) (omega arith)) refl
      (twice (act k e.kind e.request) (n + 1) es (suc over) back v w (omega (arith, in_order))
      (λ i within below. before (suc i) (omega arith) (omega arith))
      (λ i within past below. between (suc i) (omega arith) (omega arith) (omega arith))
      (λ i within past. behind (suc i) (omega arith) (omega arith)))

  -- so at most two requests are noted
  pub at_most_two : (k : KernelState) (n : ℕ) (es : List Entry) (old new : Verdict) → GoesOverAndBack (length es) (walk_along k p es) old new → length (changes p k n es) ≤ 2
  at_most_two k n es old new goes = twice k n es goes.over goes.back old new goes.in_order goes.before goes.between goes.behind

-- the same of what a journal changed since a length
pub few_since : (packet : Option Packet) (before es : List Entry) (old new : Packet → Verdict)
    → ((p : Packet) → GoesOverAndBack (length es) (walk_along (replay before) p es) (old p) (new p))
    → length (changes_since packet (length before) (before ++ es)) ≤ 2
few_since None before es old new goes = omega arith
few_since (Some p) before es old new goes =
    rw take-append_seam (rw drop-append_seam (at_most_two p (replay before) (length before) es (old p) (new p) (goes p)))
