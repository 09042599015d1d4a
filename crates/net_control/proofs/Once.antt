-- One switch where nothing is undone, and the very kernel where all is.
use Rattle.std.proofs.Common.{◌≡◌, ◌∙◌, ◌⊎◌, ℕ, zero, suc, ◌+◌, ◌<◌, ◌≤◌, List, [], ◌∷◌, ◌++◌, length, map, reverse, filter, take, Option, None, Some, Result, Ok, Err, slice_get, inl, inr, refl, sym, ap, subst, arith}
use Rattle.std.proofs.lemmas.List.{append-nil}
use Rattle.std.proofs.lemmas.Option.{none-some}
use Rattle.std.specs.declared.alloc.AllocError.{AllocError}
use Rattle.kernel_model.proofs.Counts.{refusals-grown}
use Rattle.kernel_model.proofs.Replays.{replay-append}
use Rattle.kernel_model.specs.Journal.{entry, is_refused, replay, replay_from}
use Rattle.kernel_model.specs.Segment.{done, undone, IsHalted, IsUndoneAt, IsWhole}
use Rattle.kernel_model.specs.State.{KernelState, start as kernel_start}
use Rattle.kernel_model.specs.Switch.{walk_along}
use Rattle.kernel_model.specs.View.{KernelView, grown, refusals_of, state_of}
use Rattle.kernel_model.specs.Walk.{walk}
use Rattle.kernel_model.specs.declared.request.Entry.{Entry}
use Rattle.kernel_model.specs.declared.request.EntryKind.{EntryKind}
use Rattle.kernel_model.specs.declared.request.EntryKind.TheVariants.{Added, Deleted, Refused, Broken}
use Rattle.kernel_model.specs.declared.request.Request.{Request}
use Rattle.net_control.proofs.Causing.{refused_both, undone_refused}
use Rattle.net_control.proofs.Policed.{at_same, same_entries}
use Rattle.net_control.specs.Applied.{IsAnswered, IsTaken, adds_of, deletes_of}
use Rattle.net_control.specs.Causes.{RefusedNone}
use Rattle.net_control.specs.Moments.{GoesOnce, IsAsBefore, IsStartAsBefore, KeepsPolicy}
use Rattle.net_control.specs.Started.{IsStarted, start_adds}
use Rattle.net_control.specs.View.{ControllerView}
use Rattle.net_control.specs.declared.controller.StartFault.{StartFault}
use Rattle.net_control.specs.declared.controller.StartFault.TheVariants as fault
use Rattle.turn_text.specs.declared.answer.Answer.{Answer}
use Rattle.turn_text.specs.declared.answer.Answer.TheVariants as answer
use Rattle.policy_meaning.specs.Policy.{policy}
use Rattle.policy_state.specs.Step.{changed}
use Rattle.policy_state.specs.View.{StateView, start}
use Rattle.commands.specs.declared.command.Command.{Command}
use Rattle.rule_law.specs.Plans.{GoesOver}
use Rattle.rule_match.specs.declared.packet.Packet.{Packet}
use Rattle.rule_match.specs.declared.verdict.Verdict.{Verdict}

-- the same moments, by the verdicts' other names
pub once_by_policy : {last : ℕ} {at : ℕ → Verdict} {old new said_old said_new : Verdict} → old ≡ said_old → new ≡ said_new
    → GoesOver last at old new → GoesOver last at said_old said_new
once_by_policy {last} {at} {old} {new} {said_old} {said_new} a b goes =
    subst (λ (v : Verdict). GoesOver last at v said_new) a (subst (λ (v : Verdict). GoesOver last at old v) b goes)

-- what the kernel was asked is undone
pub as_before : (a : Result Answer AllocError) (command : Command) (old new : ControllerView) (before after : KernelView)
    → (IsTaken old before command → (i : ℕ) (refused : Request) → slice_get (adds_of old.state command) i ≡ Some refused
    → replay_from (state_of before) (undone (adds_of old.state command) i refused) ≡ state_of before)
    → IsAnswered a command old new before after → IsAsBefore a before after
as_before (Ok answer.Done) command old new before after undoes is request e = absurd cc
as_before (Ok (answer.Refused c)) command old new before after undoes is request e = absurd cc
as_before (Ok (answer.KernelRefused q)) command old new before after undoes is request e =
    ap state_of is.1.3 ∙ replay-append before.journal is.1.1 ∙ ap (replay_from (state_of before)) is.1.2.all ∙ undoes is.0 is.1.0 is.1.2.refused is.1.2.next
as_before (Ok (answer.Halted q)) command old new before after undoes is request e = absurd cc
as_before (Err f) command old new before after undoes is request e = absurd cc

abbrev kind_at : Option Entry → EntryKind
kind_at (Some e) = e.kind
kind_at None = Broken

-- what stops before a deletion of an undoing has the refusal after it
behind_refused : (xs : List Request) (r : Request) (rest tail : List Entry) (at : ℕ) (q : Request) → slice_get (map (entry Added) xs ++ entry Refused r ∷ rest) at ≡ Some (entry Deleted q)
    → 1 ≤ length (filter is_refused (take at (map (entry Added) xs ++ entry Refused r ∷ rest) ++ tail))
behind_refused [] r rest tail zero q is = absurd (let same : Refused ≡ Deleted = ap kind_at is in cc)
behind_refused [] r rest tail (suc n) q is = omega arith
behind_refused (x ∷ xs) r rest tail zero q is = absurd (let same : Added ≡ Deleted = ap kind_at is in cc)
behind_refused (x ∷ xs) r rest tail (suc n) q is = behind_refused xs r rest tail n q is

-- none was refused, so the undoing never began
unrefused : {A : Type 0} (adds deletes : List Request) (before after : KernelView) (es : List Entry) (h : IsHalted adds deletes es) (k : ℕ) → IsUndoneAt adds k h.whole
    → after ≡ grown before es → RefusedNone before after → A
unrefused adds deletes before after es h k undone_at grew none =
    absurd (let some : 1 ≤ length (filter is_refused es) = subst (λ (l : List Entry). 1 ≤ length (filter is_refused l)) (sym h.all)
    (subst (λ (w : List Entry). 1 ≤ length (filter is_refused (take h.at w ++ entry Broken h.request ∷ []))) (sym undone_at.all)
    (behind_refused (take k adds) undone_at.refused (map (entry Deleted) (reverse (take k adds))) (entry Broken h.request ∷ []) h.at h.request
    (ap (λ (w : List Entry). slice_get w h.at) (sym undone_at.all) ∙ h.stops))) in
    let more : refusals_of after ≡ refusals_of before + length (filter is_refused es) = ap refusals_of grew ∙ refusals-grown before es in
    omega (arith, some, more, none))

-- done, or halted before a deletion of what was to be done
abbrev pub IsForward : List Request → List Request → List Entry → Type 0
IsForward adds deletes entries =
    (entries ≡ done adds deletes)
    ⊎ ((i : ℕ) × (broken : Request) × (slice_get (done adds deletes) i ≡ Some (entry Deleted broken)) × (entries ≡ take i (done adds deletes) ++ entry Broken broken ∷ []))

-- where nothing was asked there is one moment
still : (before after : KernelView) (old new : StateView) → ((packet : Packet) → walk (state_of before) packet ≡ policy old packet) → after ≡ before → GoesOnce before after old new
still before after old new means same none entries grew packet =
    subst (λ (es : List Entry). GoesOver (length es) (walk_along (state_of before) packet es) (policy old packet) (policy new packet)) is_none record {
      switch = 1;
      before = λ i last front. subst (λ (n : ℕ). walk_along (state_of before) packet [] n ≡ policy old packet) (zero_is i last) (means packet);
      behind = λ i last over. absurd (let l : i ≤ 0 = last in let o : 1 ≤ i = over in omega arith);
    }
  where
    zero_is : (i : ℕ) → i ≤ 0 → 0 ≡ i
    zero_is i last = let l : i ≤ 0 = last in omega arith

    is_none : [] ≡ entries
    is_none = same_entries before after [] entries (same ∙ sym (ap (λ (es : List Entry). record before { journal = es }) (append-nil before.journal))) grew

-- these entries, by any account
of_entries : (before after : KernelView) (old new : StateView) (es : List Entry) → after ≡ grown before es
    → (RefusedNone before after → (packet : Packet) → GoesOver (length es) (walk_along (state_of before) packet es) (policy old packet) (policy new packet))
    → GoesOnce before after old new
of_entries before after old new es is goes none entries grew packet =
    subst (λ (l : List Entry). GoesOver (length l) (walk_along (state_of before) packet l) (policy old packet) (policy new packet))
    (same_entries before after es entries is grew) (goes none packet)

-- the requests of a command
pub once : (a : Result Answer AllocError) (command : Command) (old new : ControllerView) (before after : KernelView)
    → ((packet : Packet) → walk (state_of before) packet ≡ policy old.state packet)
    → (IsTaken old before command → (entries : List Entry) → IsForward (adds_of old.state command) (deletes_of old.state command) entries → (packet : Packet)
    → GoesOver (length entries) (walk_along (state_of before) packet entries) (policy old.state packet) (policy (changed old.state command) packet))
    → IsAnswered a command old new before after → GoesOnce before after old.state (changed old.state command)
once (Ok answer.Done) command old new before after means goes is =
    of_entries before after old.state (changed old.state command) (done (adds_of old.state command) (deletes_of old.state command)) is.1 (λ none. goes is.0 _ (inl refl))
once (Ok (answer.Refused c)) command old new before after means goes is = still before after old.state (changed old.state command) means is.2
once (Ok (answer.KernelRefused q)) command old new before after means goes is =
    λ none. refused_both before after (undone_refused (adds_of old.state command) (deletes_of old.state command) before after is.1.0 is.1.1 is.1.2 is.1.3) none
once (Ok (answer.Halted q)) command old new before after means goes (inl is) = still before after old.state (changed old.state command) means is.1
once (Ok (answer.Halted q)) command old new before after means goes (inr is) =
    of_entries before after old.state (changed old.state command) is.1.0 is.1.2 (λ none. forward none is.1.1.is_whole)
  where
    forward : RefusedNone before after → IsWhole (adds_of old.state command) (deletes_of old.state command) is.1.1.whole → (packet : Packet)
        → GoesOver (length is.1.0) (walk_along (state_of before) packet is.1.0) (policy old.state packet) (policy (changed old.state command) packet)
    forward none (inl whole) =
        let stops : slice_get (done (adds_of old.state command) (deletes_of old.state command)) is.1.1.at ≡ Some (entry Deleted is.1.1.request) =
        ap (λ (w : List Entry). slice_get w is.1.1.at) (sym whole) ∙ is.1.1.stops in
        let all : is.1.0 ≡ take is.1.1.at (done (adds_of old.state command) (deletes_of old.state command)) ++ entry Broken is.1.1.request ∷ [] =
        is.1.1.all ∙ ap (λ (w : List Entry). take is.1.1.at w ++ entry Broken is.1.1.request ∷ []) whole in
        goes is.0 is.1.0 (inr (is.1.1.at, is.1.1.request, stops, all))
    forward none (inr (k, undone_at)) = unrefused (adds_of old.state command) (deletes_of old.state command) before after is.1.0 is.1.1 k undone_at is.1.2 none
once (Err e) command old new before after means goes is = still before after old.state (changed old.state command) means is.1

-- the start goes from the first state's policy to the same
pub start_once : (before after : KernelView) → KeepsPolicy before after start start → GoesOnce before after start start
start_once before after keeps none entries grew packet =
    subst (λ (l : List Entry). GoesOver (length l) (walk_along (state_of before) packet l) (policy start packet) (policy start packet))
    (same_entries before after keeps.entries entries keeps.grew grew) record {
      switch = 0;
      before = λ i last front. absurd (let f : i < 0 = front in omega arith);
      behind = λ i last over. at_same (keeps.moments packet) i last;
    }

-- the start's additions, undone at each of the six
start_undone : (k : ℕ) (r : Request) → slice_get start_adds k ≡ Some r → replay_from kernel_start (undone start_adds k r) ≡ kernel_start
start_undone zero r next = refl
start_undone (suc zero) r next = refl
start_undone (suc (suc zero)) r next = refl
start_undone (suc (suc (suc zero))) r next = refl
start_undone (suc (suc (suc (suc zero)))) r next = refl
start_undone (suc (suc (suc (suc (suc zero))))) r next = refl
start_undone (suc (suc (suc (suc (suc (suc k)))))) r next = absurd (none-some r next)

pub start_as_before : (result : Result ControllerView StartFault) (before after : KernelView) → before.journal ≡ [] → IsStarted result before after
    → IsStartAsBefore result before after
start_as_before (Ok controller) before after none is q e = absurd cc
start_as_before (Err (fault.Refused r)) before after none is q e =
    ap state_of is.3 ∙ replay-append before.journal is.1 ∙ ap (replay_from (state_of before)) is.2.all
    ∙ subst (λ (k : KernelState). replay_from k (undone start_adds is.0 is.2.refused) ≡ k) (sym (ap replay none)) (start_undone is.0 is.2.refused is.2.next)
start_as_before (Err (fault.Halted r)) before after none is q e = absurd cc
start_as_before (Err (fault.Memory m)) before after none is q e = absurd cc
