-- The whole journal of a session, moment by moment.
use Rattle.std.proofs.Common.{◌≡◌, ◌≢◌, ◌∙◌, ◌⊎◌, ◌↔◌, ℕ, ◌+◌, ◌-◌, ◌≤◌, Bool, true, false, ◌&&◌, not, List, [], ◌∷◌, ◌++◌, length, take, filter, Option, None, Some, Result, Ok, Err, IsSome, IsTrue, inl, inr, refl, sym, ap, subst, append_assoc, arith, length-append}
use Rattle.std.proofs.lemmas.Bool.{cases_lt, false≢true}
use Rattle.std.proofs.lemmas.List.{append-nil, take_all, take-append-le}
use Rattle.std.proofs.lemmas.List.Elements.{Contains-append_right}
use Rattle.std.proofs.lemmas.Option.{none-some}
use Rattle.std.proofs.Math.Seq.{take-append_seam}
use Rattle.std.specs.List.{AllByRecursion, Contains}
use Rattle.std.specs.declared.alloc.AllocError.{AllocError}
use Rattle.std.specs.Prelude.{alloc_error}
use Rattle.list_lemmas.proofs.Alls.{all-append}
use Rattle.kernel_model.proofs.Replays.{replay-append}
use Rattle.kernel_model.proofs.Stopped.{moments_go_on}
use Rattle.kernel_model.specs.Journal.{is_broken, is_refused, replay, replay_from}
use Rattle.kernel_model.specs.Moments.{moment, moment_from}
use Rattle.kernel_model.specs.State.{KernelState, start as kernel_start}
use Rattle.kernel_model.specs.Switch.{walk_along}
use Rattle.kernel_model.specs.View.{KernelView, grown, state_of}
use Rattle.kernel_model.specs.Walk.{walk}
use Rattle.kernel_model.specs.declared.request.Entry.{Entry}
use Rattle.net_control.proofs.Once.{start_as_before}
use Rattle.net_control.proofs.Policed.{at_each as at_either, at_same, stays as nothing_asked}
use Rattle.net_control.specs.Applied.{IsAnswered, code_of}
use Rattle.net_control.specs.Causes.{BrokeNone, RefusedNone}
use Rattle.net_control.specs.Moments.{KeepsPolicy, SendsByPolicy}
use Rattle.net_control.specs.View.{ControllerView}
use Rattle.net_control.specs.declared.controller.StartFault.TheVariants as fault
use Rattle.policy_meaning.specs.Policy.{IsBarred, policy}
use Rattle.policy_meaning.specs.Promise.{StaysIn}
use Rattle.policy_state.specs.Step.{changed}
use Rattle.policy_state.specs.View.{StateView, start}
use Rattle.commands.specs.declared.command.Command.{Command}
use Rattle.rule_law.specs.Plans.{GoesOver, GoesOverAndBack}
use Rattle.fwmark.specs.Mark.{is_protected}
use Rattle.rule_match.specs.Packet.{is_made}
use Rattle.rule_match.specs.declared.packet.Packet.{Packet}
use Rattle.rule_match.specs.declared.verdict.Verdict.{Verdict}
use Rattle.script_reader.specs.Lines.{Spells}
use Rattle.script_reader.specs.declared.line.Line.{Line}
use Rattle.script_reader.specs.declared.line.Line.TheVariants as line
use Rattle.turn_text.specs.declared.answer.Answer.{Answer}
use Rattle.turn_text.specs.declared.answer.Answer.TheVariants as answer
use Rattle.netd_session.proofs.Asking.{IsKind, Keeps, is_command, is_other, kind_of_line}
use Rattle.netd_session.proofs.SessionPass.{said_ends}
use Rattle.netd_session.proofs.Tellings.{not_with_input}
use Rattle.netd_session.specs.Answers.{IsCommanded}
use Rattle.netd_session.specs.EndedView.{EndedView}
use Rattle.netd_session.specs.Ends.{FailsToStart, HasBegun, HasEnded, HasRun, at_input, at_line, at_start, before_line, not_begun, start_halted, start_refused}
use Rattle.netd_session.specs.History.{Part, asked_of, behind, left_by, Runs, Follow, AllRunButLast, AreSaid, the_start, a_command, another, Holds, LiesIn, asked, turn_of_part, History, HasHistory}
use Rattle.netd_session.specs.Lines.{Goes, IsSaid, Ran, no_line, one_more, says_answer, says_bad}
use Rattle.netd_session.specs.Stops.{End, ends_with_input, status_of}
use Rattle.netd_session.specs.Turns.{Standing}
use Rattle.netd_session.specs.World.{World}
use Rattle.netd_session.specs.declared.end.Status.{Status}
use Rattle.netd_session.specs.declared.end.Status.TheVariants as status
use Rattle.netd_session.specs.declared.turn.Said.TheVariants as said
use Rattle.netd_session.specs.declared.turn.Turn.{Turn}

-- the same values at each moment
same_over_and_back : {last : ℕ} {at other : ℕ → Verdict} {old new : Verdict} → ((i : ℕ) → i ≤ last → other i ≡ at i)
    → GoesOverAndBack last at old new → GoesOverAndBack last other old new
same_over_and_back {last} {at} {other} {old} {new} same goes = record {
  over = goes.over;
  back = goes.back;
  in_order = goes.in_order;
  before = λ i l f. same i l ∙ goes.before i l f;
  between = λ i l o b. same i l ∙ goes.between i l o b;
  behind = λ i l b. same i l ∙ goes.behind i l b;
}

same_over : {last : ℕ} {at other : ℕ → Verdict} {old new : Verdict} → ((i : ℕ) → i ≤ last → other i ≡ at i)
    → GoesOver last at old new → GoesOver last other old new
same_over {last} {at} {other} {old} {new} same goes = record {
  switch = goes.switch;
  before = λ i l f. same i l ∙ goes.before i l f;
  behind = λ i l b. same i l ∙ goes.behind i l b;
}

-- what a part of a kernel's journal is of the whole journal
module _ (before after : KernelView) (es rest : List Entry) (grew : after ≡ grown before es) where
  whole_is : after.journal ++ rest ≡ before.journal ++ (es ++ rest)
  whole_is = ap (λ (k : KernelView). k.journal ++ rest) grew ∙ append_assoc before.journal es rest

  ends_at : length after.journal ≡ length before.journal + length es
  ends_at = ap (λ (k : KernelView). length k.journal) grew ∙ length-append before.journal es

  front : take (length before.journal) (after.journal ++ rest) ≡ before.journal
  front = ap (take (length before.journal)) whole_is ∙ take-append_seam before.journal (es ++ rest)

  all : take (length before.journal + length es) (after.journal ++ rest) ≡ after.journal
  all = ap (λ (n : ℕ). take n (after.journal ++ rest)) (sym ends_at) ∙ take-append_seam after.journal rest

  at_moment : (i : ℕ) → i ≤ length es → moment (after.journal ++ rest) (length before.journal + i) ≡ moment_from (state_of before) es i
  at_moment i within =
      ap (λ (l : List Entry). moment l (length before.journal + i)) whole_is ∙ moments_go_on before.journal (es ++ rest) i
      ∙ ap (replay_from (state_of before)) (take-append-le i es rest within)

  holds : (command : Option Command) (a : Result Answer AllocError) (old : StateView)
      → ((packet : Packet) → GoesOverAndBack (length es) (walk_along (state_of before) packet es) (policy old packet) (policy (asked_of old command) packet))
      → (RefusedNone before after → (packet : Packet) → GoesOver (length es) (walk_along (state_of before) packet es) (policy old packet) (policy (asked_of old command) packet))
      → ((packet : Packet) → IsBarred old packet → IsBarred (asked_of old command) packet → packet.uid.number ≢ 0 → (i : ℕ) → i ≤ length es → StaysIn (old.networks ++ (asked_of old command).networks) (walk_along (state_of before) packet es i))
      → (((request : ℕ) → a ≢ Ok (answer.Halted request)) → (packet : Packet) → walk (state_of after) packet ≡ policy (behind (record { command = command; answer = a; old = old; from = 0; count = 0 })) packet)
      → ((request : ℕ) → a ≡ Ok (answer.KernelRefused request) → state_of after ≡ state_of before)
      → ((c : Command) → command ≡ Some c → (a ≡ Ok answer.Done) ↔ ((code_of old before.journal c ≡ None) × RefusedNone before after × BrokeNone before after))
      → Holds (after.journal ++ rest) (record { command = command; answer = a; old = old; from = length before.journal; count = length es })
  holds command a old policies once barred sends same done = record {
    keeps_policy = λ packet. same_over_and_back (at_walk packet) (policies packet);
    once = λ none packet. same_over (at_walk packet) (once (refused none) packet);
    keeps_lockdown = λ packet was is user i within. subst (StaysIn (old.networks ++ (asked_of old command).networks)) (sym (at_walk packet i within)) (barred packet was is user i within);
    sends = λ runs packet. ap (λ (j : List Entry). walk (replay j) packet) all ∙ sends runs packet;
    as_before = λ request is. ap replay all ∙ same request is ∙ sym (ap replay front);
    carried_out = λ c is. (
      (λ e. let h = (done c is).0 e in (ap (λ (j : List Entry). code_of old j c) front ∙ h.0, unrefused h.1, unbroken h.2)),
      (λ h. (done c is).1 (ap (λ (j : List Entry). code_of old j c) (sym front) ∙ h.0, refused h.1, broke h.2)),
    );
  }
    where
      at_walk : (packet : Packet) (i : ℕ) → i ≤ length es → walk (moment (after.journal ++ rest) (length before.journal + i)) packet ≡ walk_along (state_of before) packet es i
      at_walk packet i within = ap (λ (k : KernelState). walk k packet) (at_moment i within)

      refused : length (filter is_refused (take (length before.journal + length es) (after.journal ++ rest))) ≡ length (filter is_refused (take (length before.journal) (after.journal ++ rest)))
          → RefusedNone before after
      refused e = ap (λ (j : List Entry). length (filter is_refused j)) (sym all) ∙ e ∙ ap (λ (j : List Entry). length (filter is_refused j)) front

      broke : length (filter is_broken (take (length before.journal + length es) (after.journal ++ rest))) ≡ length (filter is_broken (take (length before.journal) (after.journal ++ rest)))
          → BrokeNone before after
      broke e = ap (λ (j : List Entry). length (filter is_broken j)) (sym all) ∙ e ∙ ap (λ (j : List Entry). length (filter is_broken j)) front

      unrefused : RefusedNone before after
          → length (filter is_refused (take (length before.journal + length es) (after.journal ++ rest))) ≡ length (filter is_refused (take (length before.journal) (after.journal ++ rest)))
      unrefused e = ap (λ (j : List Entry). length (filter is_refused j)) all ∙ e ∙ sym (ap (λ (j : List Entry). length (filter is_refused j)) front)

      unbroken : BrokeNone before after
          → length (filter is_broken (take (length before.journal + length es) (after.journal ++ rest))) ≡ length (filter is_broken (take (length before.journal) (after.journal ++ rest)))
      unbroken e = ap (λ (j : List Entry). length (filter is_broken j)) all ∙ e ∙ sym (ap (λ (j : List Entry). length (filter is_broken j)) front)

-- an answer for which there was memory
abbrev made : Answer → Result Answer AllocError
made a = Ok a

-- after a command the policy has the state that its answer says
state_behind : (a : Answer) (command : Command) (old new : ControllerView) (before after : KernelView) → IsAnswered (Ok a) command old new before after
    → new.state ≡ left_by (Ok a) old.state (changed old.state command)
state_behind answer.Done command old new before after is = ap (λ (c : ControllerView). c.state) is.2
state_behind (answer.Refused c) command old new before after is = ap (λ (c : ControllerView). c.state) is.3
state_behind (answer.KernelRefused q) command old new before after is = ap (λ (c : ControllerView). c.state) is.2
state_behind (answer.Halted q) command old new before after (inl is) = ap (λ (c : ControllerView). c.state) is.2
state_behind (answer.Halted q) command old new before after (inr is) = ap (λ (c : ControllerView). c.state) is.2

goes_on : (a : Answer) (command : Command) (old new : ControllerView) (before after : KernelView) → IsAnswered (Ok a) command old new before after
    → ((request : ℕ) → made a ≢ Ok (answer.Halted request)) → new.halted ≡ None
goes_on answer.Done command old new before after is runs = ap (λ (c : ControllerView). c.halted) is.2
goes_on (answer.Refused c) command old new before after is runs = ap (λ (c : ControllerView). c.halted) is.3 ∙ is.0
goes_on (answer.KernelRefused q) command old new before after is runs = ap (λ (c : ControllerView). c.halted) is.2 ∙ is.0.runs
goes_on (answer.Halted q) command old new before after is runs = absurd (runs q refl)

follow_on : (parts : List Part) (at : ℕ) (s : StateView) (end : ℕ) (last : StateView) (p : Part) (new_end : ℕ) (new_last : StateView) → Follow at s parts end last
    → p.from ≡ end → p.old ≡ last → new_end ≡ p.from + p.count → new_last ≡ behind p → Follow at s (parts ++ p ∷ []) new_end new_last
follow_on [] at s end last p new_end new_last is from old ends left = (from ∙ is.0, old ∙ is.1, (ends, left))
follow_on (q ∷ parts) at s end last p new_end new_last is from old ends left =
    (is.0, is.1, follow_on parts (q.from + q.count) (behind q) end last p new_end new_last is.2 from old ends left)

last_may_halt : (parts : List Part) (p : Part) → AllByRecursion Runs parts → AllRunButLast (parts ++ p ∷ [])
last_may_halt [] p runs = tt
last_may_halt (q ∷ []) p runs = (runs.0, tt)
last_may_halt (q ∷ (r ∷ parts)) p runs = (runs.0, last_may_halt (r ∷ parts) p runs.1)

-- a moment lies in one of the parts
record Found (P : Part → Type 0) (parts : List Part) (i : ℕ) : Type 0 where
  part : Part
  stands : Contains parts part
  begun : part.from ≤ i
  inside : i ≤ part.from + part.count
  holds : P part

find : (P : Part → Type 0) (p : Part) (parts : List Part) (at : ℕ) (s : StateView) (end : ℕ) (last : StateView) → Follow at s (p ∷ parts) end last → AllByRecursion P (p ∷ parts)
    → (i : ℕ) → at ≤ i → i ≤ end → Found P (p ∷ parts) i
find P p [] at s end last is each i low high = record {
  part = p;
  stands = (0, omega arith, refl);
  begun = omega (arith, is.0, low);
  inside = omega (arith, is.2.0, high);
  holds = each.0;
}
find P p (q ∷ parts) at s end last is each i low high = elim (cases_lt (p.from + p.count) i) as (λ _. Found P (p ∷ (q ∷ parts)) i) [
  | inl past ↦
      let there : Found P (q ∷ parts) i = find P q parts (p.from + p.count) (behind p) end last is.2 each.1 i (omega (arith, past)) high in record {
        part = there.part;
        stands = Contains-append_right (p ∷ []) (q ∷ parts) there.part there.stands;
        begun = there.begun;
        inside = there.inside;
        holds = there.holds;
      }
  | inr within ↦ record { part = p; stands = (0, omega arith, refl); begun = omega (arith, is.0, low); inside = within; holds = each.0 }
]

lies_in : (journal : List Entry) (parts : List Part) (i : ℕ) → Found (Holds journal) parts i → LiesIn journal parts i
lies_in journal parts i found =
    let p = found.part in
    let at : p.from + (i - p.from) ≡ i = omega (arith, found.begun) in
    let within : i - p.from ≤ p.count = omega (arith, found.begun, found.inside) in record {
      part = p;
      stands = found.stands;
      begun = found.begun;
      inside = found.inside;
      keeps_policy = λ packet. subst (λ (n : ℕ). (walk (moment journal n) packet ≡ policy p.old packet) ⊎ (walk (moment journal n) packet ≡ policy (asked p) packet)) at
          (at_either (found.holds.keeps_policy packet) (i - p.from) within);
      keeps_lockdown = λ packet was is user. subst (λ (n : ℕ). StaysIn (p.old.networks ++ (asked p).networks) (walk (moment journal n) packet)) at (found.holds.keeps_lockdown packet was is user (i - p.from) within);
    }

-- there's a part
not_none : {A : Type 0} (texts : List (List ℕ)) (parts : List Part) (turns : List Turn) → AreSaid texts parts turns → parts ≡ [] → A
not_none texts parts turns (the_start p is) e = absurd cc
not_none texts parts turns (a_command before front said_before said text command p a spells is answered) e = absurd (snoc_some front p e)
  where
    snoc_some : (qs : List Part) (q : Part) → qs ++ q ∷ [] ≡ [] → ⊥
    snoc_some [] q e = absurd cc
    snoc_some (r ∷ qs) q e = absurd cc
not_none texts parts turns (another before front said_before said text l more spells other) e = not_none before front said_before said e

all_lie_in : (journal : List Entry) (texts : List (List ℕ)) (parts : List Part) (turns : List Turn) (last : StateView) → AreSaid texts parts turns
    → Follow 0 start parts (length journal) last → AllByRecursion (Holds journal) parts → (i : ℕ) → i ≤ length journal → LiesIn journal parts i
all_lie_in journal texts [] turns last said is each i within = not_none texts [] turns said refl
all_lie_in journal texts (p ∷ parts) turns last said is each i within =
    lies_in journal (p ∷ parts) i (find (Holds journal) p parts 0 start (length journal) last is each i (omega arith) within)

history_of : (s : Status) (turns : List Turn) (lines answered unanswered : List (List ℕ)) (journal : List Entry) (parts : List Part) (last : StateView)
    → lines ≡ answered ++ unanswered → (ends_with_input s ≡ true → unanswered ≡ []) → AreSaid answered parts turns
    → Follow 0 start parts (length journal) last → AllRunButLast parts → AllByRecursion (Holds journal) parts → History s turns lines journal
history_of s turns lines answered unanswered journal parts last cut whole said is halted each = record {
  parts = parts;
  last = last;
  answered = answered;
  unanswered = unanswered;
  cut = cut;
  all_answered = whole;
  said = said;
  follow = is;
  halted = halted;
  each = each;
  moments = all_lie_in journal answered parts turns last said is each;
}

-- the parts of the journal of a session that stands here after these lines and with these turns, whatever comes
record Told (texts : List (List ℕ)) (turns : List Turn) (e : Standing) : Type 0 where
  parts : List Part
  said : AreSaid texts parts turns
  follow : Follow 0 start parts (length e.kernel.journal) e.controller.state
  each : (rest : List Entry) → AllByRecursion (Holds (e.kernel.journal ++ rest)) parts
  halted : AllRunButLast parts
  runs : e.controller.halted ≡ None → AllByRecursion Runs parts

-- a line that asks nothing
stays : (texts : List (List ℕ)) (turns more : List Turn) (m e : Standing) (text : List ℕ) (l : Line) → Told texts turns m → Spells text l
    → ((command : Command) → l ≢ line.Control command) → Keeps m e → Told (texts ++ text ∷ []) (turns ++ more) e
stays texts turns more m e text l told spells other keeps = record {
  parts = told.parts;
  said = another texts told.parts turns told.said text l more spells other;
  follow = subst (λ (k : KernelView). Follow 0 start told.parts (length k.journal) e.controller.state) (sym keeps.kernel)
      (subst (λ (c : ControllerView). Follow 0 start told.parts (length m.kernel.journal) c.state) (sym keeps.controller) told.follow);
  each = λ rest. subst (λ (k : KernelView). AllByRecursion (Holds (k.journal ++ rest)) told.parts) (sym keeps.kernel) (told.each rest);
  halted = told.halted;
  runs = λ on. told.runs (ap (λ (c : ControllerView). c.halted) (sym keeps.controller) ∙ on);
}

module _ (texts : List (List ℕ)) (turns : List Turn) (m e : Standing) (text : List ℕ) (command : Command) (more : List Turn) (out : List ℕ)
    (told : Told texts turns m) (running : m.controller.halted ≡ None) (spells : Spells text (line.Control command))
    (is : IsCommanded command (length texts + 1) m e more out) (sends : SendsByPolicy e.controller e.kernel) where
  abbrev part : Part
  part = record { command = Some command; answer = Ok is.a; old = m.controller.state; from = length m.kernel.journal; count = length is.moments.entries }

  exactly : (c : Command) → Some command ≡ Some c
      → (made is.a ≡ Ok answer.Done) ↔ ((code_of m.controller.state m.kernel.journal c ≡ None) × RefusedNone m.kernel e.kernel × BrokeNone m.kernel e.kernel)
  exactly c same =
      subst (λ (d : Command). (made is.a ≡ Ok answer.Done) ↔ ((code_of m.controller.state m.kernel.journal d ≡ None) × RefusedNone m.kernel e.kernel × BrokeNone m.kernel e.kernel)) (of_some same) (
        (λ done. let h = (is.caused.done refl).0 done in (h.0.accepted, h.1, h.2)),
        (λ h. (is.caused.done refl).1 (record { runs = running; accepted = h.0 }, h.1, h.2)),
      )
    where
      of_some : Some command ≡ Some c → command ≡ c
      of_some e = cc

  here : (rest : List Entry) → Holds (e.kernel.journal ++ rest) part
  here rest =
      holds m.kernel e.kernel is.moments.entries rest is.moments.grew (Some command) (Ok is.a) m.controller.state
      is.moments.moments
      (λ none packet. is.once none is.moments.entries is.moments.grew packet)
      (λ packet was barred user i within. is.locked is.moments.entries is.moments.grew packet was barred user i within)
      (λ runs packet. sends.everywhere (goes_on is.a command m.controller e.controller m.kernel e.kernel is.answered runs) packet
      ∙ ap (λ (s : StateView). policy s packet) (state_behind is.a command m.controller e.controller m.kernel e.kernel is.answered))
      is.as_before exactly

  before : (rest : List Entry) → AllByRecursion (Holds (e.kernel.journal ++ rest)) told.parts
  before rest =
      subst (λ (j : List Entry). AllByRecursion (Holds j) told.parts) (sym (whole_is m.kernel e.kernel is.moments.entries rest is.moments.grew))
      (told.each (is.moments.entries ++ rest))

  runs_on : e.controller.halted ≡ None → Runs part
  runs_on on request halts = false≢true (subst (λ (h : Option ℕ). IsSome h) on (is.caused.halts.1 (is.caused.halted.0 (request, halts))))

  end_is : length e.kernel.journal ≡ length m.kernel.journal + length is.moments.entries
  end_is = ends_at m.kernel e.kernel is.moments.entries [] is.moments.grew

  turn_is : turns ++ turn_of_part (length texts + 1) is.a part ∷ [] ≡ turns ++ more
  turn_is =
      ap (λ (end : ℕ). turns ++ record { line = length texts + 1; said = said.Answered is.a; journal_end = end } ∷ []) (sym end_is)
      ∙ ap (λ (ts : List Turn). turns ++ ts) (sym is.turns_are)

  commanded : Told (texts ++ text ∷ []) (turns ++ more) e
  commanded = record {
    parts = told.parts ++ part ∷ [];
    said = subst (λ (ts : List Turn). AreSaid (texts ++ text ∷ []) (told.parts ++ part ∷ []) ts) turn_is
        (a_command texts told.parts turns told.said text command part is.a spells refl refl);
    follow = follow_on told.parts 0 start (length m.kernel.journal) m.controller.state part (length e.kernel.journal) e.controller.state told.follow refl refl
        end_is (state_behind is.a command m.controller e.controller m.kernel e.kernel is.answered);
    each = λ rest. all-append (Holds (e.kernel.journal ++ rest)) told.parts (part ∷ []) (before rest) (here rest, tt);
    halted = last_may_halt told.parts part (told.runs running);
    runs = λ on. all-append Runs told.parts (part ∷ []) (told.runs running) (runs_on on, tt);
  }

-- a line more
told_line : (texts : List (List ℕ)) (turns : List Turn) (m e : Standing) (text : List ℕ) (more : List Turn) (out : List ℕ) → Told texts turns m
    → m.controller.halted ≡ None → Goes text (length texts + 1) m e more out → Told (texts ++ text ∷ []) (turns ++ more) e
told_line texts turns m e text more out told running goes = by (kind_of_line goes.line (length texts + 1) m e more out goes.answered)
  where
    by : IsKind goes.line (length texts + 1) m e more out → Told (texts ++ text ∷ []) (turns ++ more) e
    by (is_command command same is) = commanded texts turns m e text command more out told running (subst (Spells text) same goes.spelled) is goes.sends
    by (is_other other keeps) = stays texts turns more m e text goes.line told goes.spelled other keeps

ran_told : {begun : Standing} {texts : List (List ℕ)} {e : Standing} {turns : List Turn} {out : List ℕ} → Ran begun texts e turns out → Told [] [] begun → Told texts turns e
ran_told no_line told = told
ran_told (one_more texts m turns out ran runs text e more more_out goes) told = told_line texts turns m e text more more_out (ran_told ran told) runs goes

-- no user is locked down at the start
none_barred : (packet : Packet) → IsBarred start packet → ⊥
none_barred packet barred = never (is_made packet) (not (is_protected packet.mark)) barred
  where
    never : (a b : Bool) → IsTrue (a && (b && false)) → ⊥
    never true true h = false≢true h
    never true false h = false≢true h
    never false b h = false≢true h

left_same : (a : Result Answer AllocError) → left_by a start start ≡ start
left_same (Ok answer.Done) = refl
left_same (Ok (answer.Refused c)) = refl
left_same (Ok (answer.KernelRefused q)) = refl
left_same (Ok (answer.Halted q)) = refl
left_same (Err e) = refl

module _ (s : Status) (before after : KernelView) (a : Result Answer AllocError) (keeps : KeepsPolicy before after start start) where
  start_holds : (rest : List Entry) → ((request : ℕ) → a ≡ Ok (answer.KernelRefused request) → state_of after ≡ state_of before)
      → Holds (after.journal ++ rest) (record { command = None; answer = a; old = start; from = length before.journal; count = length keeps.entries })
  start_holds rest same =
      holds before after keeps.entries rest keeps.grew None a start keeps.moments
      (λ none packet. record { switch = 0; before = λ i l f. absurd (omega (arith, f)); behind = λ i l b. at_same (keeps.moments packet) i l })
      (λ packet was barred user i within. absurd (none_barred packet was))
      (λ runs packet. ap (λ (k : KernelState). walk k packet) last ∙ at_same (keeps.moments packet) (length keeps.entries) (omega arith) ∙ ap (λ (s : StateView). policy s packet) (sym (left_same a)))
      same (λ c e. absurd (none-some c e))
    where
      last : state_of after ≡ moment_from (state_of before) keeps.entries (length keeps.entries)
      last = ap state_of keeps.grew ∙ replay-append before.journal keeps.entries ∙ ap (replay_from (state_of before)) (sym (take_all (length keeps.entries) keeps.entries (omega arith)))

  -- a start that failed is all of the journal
  start_alone : before.journal ≡ [] → ((request : ℕ) → a ≡ Ok (answer.KernelRefused request) → state_of after ≡ state_of before) → History s [] [] after.journal
  start_alone none same =
      let p : Part = record { command = None; answer = a; old = start; from = length before.journal; count = length keeps.entries } in
      history_of s [] [] [] [] after.journal (p ∷ []) start refl (λ _. refl) (the_start p refl)
      (ap length none, refl, (ends_at before after keeps.entries [] keeps.grew, sym (left_same a))) tt
      (subst (λ (j : List Entry). Holds j p) (append-nil after.journal) (start_holds [] same), tt)

began_told : (before : KernelView) (begun : Standing) → HasBegun before begun → before.journal ≡ [] → Told [] [] begun
began_told before begun began none = record {
  parts = record { command = None; answer = Ok answer.Done; old = start; from = length before.journal; count = length began.moments.entries } ∷ [];
  said = the_start (record { command = None; answer = Ok answer.Done; old = start; from = length before.journal; count = length began.moments.entries }) refl;
  follow = (ap length none, refl, (ends_at before begun.kernel began.moments.entries [] began.moments.grew, ap (λ (c : ControllerView). c.state) began.started.1));
  each = λ rest. (start_holds status.Finished before begun.kernel (Ok answer.Done) began.moments rest (λ request e. absurd cc), tt);
  halted = tt;
  runs = λ _. ((λ request e. absurd cc), tt);
}

-- the start failed, or was not made
module _ (s : Status) (old new : KernelView) (none : old.journal ≡ []) where
  failed : (text : List ℕ) (whole : End) → FailsToStart old new text whole → KeepsPolicy old new start start → History s [] [] new.journal
  failed text whole (start_refused q started says is) keeps =
      start_alone s old new (Ok (answer.KernelRefused q)) keeps none (λ request e. start_as_before (Err (fault.Refused q)) old new none started q refl)
  failed text whole (start_halted q started says is) keeps = start_alone s old new (Ok (answer.Halted q)) keeps none (λ request e. absurd cc)

  unasked : ((packet : Packet) → walk kernel_start packet ≡ policy start packet) → new ≡ old → History s [] [] new.journal
  unasked means same =
      start_alone s old new (Err alloc_error)
      (nothing_asked old new start start (λ packet. subst (λ (k : KernelState). walk k packet ≡ policy start packet) (sym (ap replay none)) (means packet)) same)
      none (λ request e. absurd cc)

-- how far the lines were answered
record Reached (texts : List (List ℕ)) (text : List ℕ) (turns : List Turn) (e : Standing) : Type 0 where
  answered : List (List ℕ)
  unanswered : List (List ℕ)
  cut : texts ++ text ∷ [] ≡ answered ++ unanswered
  told : Told answered turns e

line_told : (texts : List (List ℕ)) (turns : List Turn) (text : List ℕ) (a e : Standing) (more : List Turn) (out : List ℕ) (whole : End) → Told texts turns a
    → a.controller.halted ≡ None → IsSaid text (length texts + 1) a e more out whole → Reached texts text (turns ++ more) e
line_told texts turns text a e more out whole told runs (says_bad bad is) = record {
  answered = texts;
  unanswered = text ∷ [];
  cut = refl;
  told = subst (λ (ts : List Turn). Told texts ts e) (sym (append-nil turns) ∙ ap (λ (ts : List Turn). turns ++ ts) (sym bad.no_turn))
      (subst (Told texts turns) (sym bad.stays) told);
}
line_told texts turns text a e more out whole told runs (says_answer goes is) = record {
  answered = texts ++ text ∷ [];
  unanswered = [];
  cut = sym (append-nil (texts ++ text ∷ []));
  told = told_line texts turns a e text more out told runs goes;
}

all_told : (s : Status) (turns : List Turn) (texts more lines : List (List ℕ)) (e : Standing) → lines ≡ texts ++ more → (ends_with_input s ≡ true → more ≡ [])
    → Told texts turns e → History s turns lines e.kernel.journal
all_told s turns texts more lines e is whole told =
    history_of s turns lines texts more e.kernel.journal told.parts e.controller.state is whole told.said told.follow told.halted
    (subst (λ (j : List Entry). AllByRecursion (Holds j) told.parts) (append-nil e.kernel.journal) (told.each []))

pub session_history : (old new : World) (ended : EndedView) → ((packet : Packet) → walk kernel_start packet ≡ policy start packet) → old.kernel.journal ≡ [] → HasHistory old new ended
session_history old new ended means none s = by s.ending
  where
    run_told : (lines : List (List ℕ)) (stands : Standing) (turns : List Turn) (out : List ℕ) → HasRun old lines stands turns out → Told lines turns stands
    run_told lines stands turns out run = ran_told run.ran (began_told old.kernel run.begun run.began none)

    same_kernel : (k : KernelView) → new.kernel ≡ k → History (status_of ended.result) ended.turns s.lines k.journal → History (status_of ended.result) ended.turns s.lines new.kernel.journal
    same_kernel k is history = subst (λ (v : KernelView). History (status_of ended.result) ended.turns s.lines v.journal) (sym is) history

    nothing_met : ended.turns ≡ [] → s.lines ≡ [] → History (status_of ended.result) [] [] new.kernel.journal → History (status_of ended.result) ended.turns s.lines new.kernel.journal
    nothing_met no_turn unmet history =
        subst (λ (ts : List Turn). History (status_of ended.result) ts s.lines new.kernel.journal) (sym no_turn)
        (subst (λ (ls : List (List ℕ)). History (status_of ended.result) [] ls new.kernel.journal) (sym unmet) history)

    not_ended : (e : End) {A : Type 0} → ends_with_input (status_of e) ≡ false → ends_with_input (status_of e) ≡ true → A
    not_ended e not_so so = absurd (false≢true (sym not_so ∙ so))

    by : HasEnded old new ended s.given s.lines s.out → History (status_of ended.result) ended.turns s.lines new.kernel.journal
    by (not_begun at) = nothing_met at.no_turn at.nothing_met (unasked (status_of ended.result) old.kernel new.kernel none means at.kernel_is)
    by (at_start at) = nothing_met at.no_turn at.nothing_met (failed (status_of ended.result) old.kernel new.kernel none at.text at.whole at.failed at.moments)
    by (at_line at) =
        let r : Reached at.before at.text (at.turns ++ at.more) at.stands =
        line_told at.before at.turns at.text at.stood at.stands at.more at.last at.whole (run_told at.before at.stood at.turns at.told_before at.run) at.run.running at.said in
        same_kernel at.stands.kernel at.kernel_is
        (all_told (status_of ended.result) ended.turns r.answered (r.unanswered ++ at.behind) s.lines at.stands (at.cut ∙ sym (append_assoc at.before (at.text ∷ []) at.behind)
        ∙ ap (λ (l : List (List ℕ)). l ++ at.behind) r.cut ∙ append_assoc r.answered r.unanswered at.behind)
        (not_ended ended.result (not_with_input at.whole ended.result at.taken (length at.last) old.sink.faults new.sink.faults
        (said_ends at.text (length at.before + 1) at.stood at.stands at.more at.last at.whole at.said) at.told at.stops))
        (subst (λ (ts : List Turn). Told r.answered ts at.stands) (sym at.turns_are) r.told))
    by (before_line at) =
        same_kernel at.stands.kernel at.kernel_is
        (all_told (status_of ended.result) ended.turns at.before at.behind s.lines at.stands at.cut
        (not_ended ended.result (ap (λ (e : End). ends_with_input (status_of e)) at.no_memory))
        (run_told at.before at.stands ended.turns s.out at.run))
    by (at_input at) =
        same_kernel at.stands.kernel at.kernel_is
        (all_told (status_of ended.result) ended.turns s.lines [] s.lines at.stands (sym (append-nil s.lines)) (λ _. refl) (run_told s.lines at.stands ended.turns s.out at.run))
