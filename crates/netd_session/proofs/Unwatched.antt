-- What is asked of a watched kernel is asked of the kernel under the watch.
use Rattle.std.proofs.Common.{◌≡◌, ◌∙◌, ℕ, ◌≤◌, List, [], ◌∷◌, length, Option, Result, Ok, Err, inl, inr, sym, ap, subst}
use Rattle.std.specs.declared.alloc.AllocError.{AllocError}
use Rattle.commands.specs.declared.command.Command.{Command}
use Rattle.kernel_model.specs.State.{KernelState}
use Rattle.kernel_model.specs.View.{KernelView, Watching, grown}
use Rattle.kernel_model.specs.declared.request.Entry.{Entry}
use Rattle.net_control.specs.Applied.{IsAnswered, IsTaken}
use Rattle.net_control.specs.Bounds.{KeepsLimit}
use Rattle.net_control.specs.Causes.{HasCause}
use Rattle.net_control.specs.Moments.{GoesOnce, KeepsLockdown, KeepsPolicy, SendsByPolicy}
use Rattle.net_control.specs.View.{ControllerView, IsKept}
use Rattle.packet_trace.proofs.Few.{few_since}
use Rattle.packet_trace.specs.Changes.{changes_since}
use Rattle.packet_trace.specs.Seen.{watched}
use Rattle.policy_meaning.specs.Policy.{policy}
use Rattle.policy_state.specs.View.{StateView}
use Rattle.rule_match.specs.declared.packet.Packet.{Packet}
use Rattle.rule_match.specs.declared.verdict.Verdict.{Verdict}
use Rattle.turn_text.specs.declared.answer.Answer.{Answer}
use Rattle.turn_text.specs.declared.answer.Answer.TheVariants as answer
use Rattle.netd_session.proofs.Requests.{noted_all}
use Rattle.netd_session.specs.Watches.{noted_text, requests_text}

-- the watches under the outermost one, and that one
abbrev rest_of : List Watching → List Watching
rest_of [] = []
rest_of (w ∷ ws) = ws

abbrev first_of : Watching → List Watching → Watching
first_of other [] = other
first_of other (w ∷ ws) = w

-- the kernel under the outermost watch
abbrev under : KernelView → KernelView
under k = record k { watching = rest_of k.watching }

-- what is so of one kernel is so of the same one by another name
pub moved_one : (P : KernelView → Type 0) (l l0 : KernelView) → l ≡ l0 → P l0 → P l
moved_one P l l0 b is = subst P (sym b) is

pub moved : (P : KernelView → KernelView → Type 0) (k l k0 l0 : KernelView) → k ≡ k0 → l ≡ l0 → P k0 l0 → P k l
moved P k l k0 l0 a b is = subst (λ (v : KernelView). P v l) (sym a) (subst (P k0) (sym b) is)

pub moved_journals : (P : List Entry → List Entry → Type 0) (i j i0 j0 : List Entry) → i ≡ i0 → j ≡ j0 → P i0 j0 → P i j
moved_journals P i j i0 j0 a b is = subst (λ (x : List Entry). P x j) (sym a) (subst (P i0) (sym b) is)

pub moved_states : (P : KernelState → KernelState → Type 0) (i j i0 j0 : KernelState) → i ≡ i0 → j ≡ j0 → P i0 j0 → P i j
moved_states P i j i0 j0 a b is = subst (λ (x : KernelState). P x j) (sym a) (subst (P i0) (sym b) is)

-- the kernel before and after, each with the watch that it has then
module _ (k l : KernelView) (p q : Option Packet) (m n a b : ℕ) where
  under_grown : (entries : List Entry) → watched l q n b ≡ grown (watched k p m a) entries → l ≡ grown k entries
  under_grown entries grew = ap under grew

  under_same : watched l q n b ≡ watched k p m a → l ≡ k
  under_same same = ap under same

  taken : (c : ControllerView) (command : Command) → IsTaken c (watched k p m a) command → IsTaken c k command
  taken c command t = record { runs = t.runs; accepted = t.accepted }

  watched_taken : (c : ControllerView) (command : Command) → IsTaken c k command → IsTaken c (watched k p m a) command
  watched_taken c command t = record { runs = t.runs; accepted = t.accepted }

  pub answered_under : (r : Result Answer AllocError) (command : Command) (old new : ControllerView)
      → IsAnswered r command old new (watched k p m a) (watched l q n b) → IsAnswered r command old new k l
  answered_under (Ok answer.Done) command old new (t, grew, is) = (taken old command t, under_grown _ grew, is)
  answered_under (Ok (answer.Refused c)) command old new (runs, code, same, is) = (runs, code, under_same same, is)
  answered_under (Ok (answer.KernelRefused request)) command old new (t, (i, entries, undone, grew, number), is) =
      (taken old command t, (i, entries, undone, under_grown entries grew, number), is)
  answered_under (Ok (answer.Halted request)) command old new (inl (before, same, is)) = inl (before, under_same same, is)
  answered_under (Ok (answer.Halted request)) command old new (inr (t, (entries, halted, grew, number), is)) =
      inr (taken old command t, (entries, halted, under_grown entries grew, number), is)
  answered_under (Err e) command old new (runs, same, is) = (runs, under_same same, is)

  pub caused_under : (r : Result Answer AllocError) (command : Command) (old new : ControllerView)
      → HasCause r command old new (watched k p m a) (watched l q n b) → HasCause r command old new k l
  caused_under r command old new c = record {
    done = λ ok. (
      (λ is. let h = (c.done ok).0 is in (taken old command h.0, h.1, h.2)),
      (λ h. (c.done ok).1 (watched_taken old command h.0, h.1, h.2)),
    );
    refused = c.refused;
    kernel_refused = c.kernel_refused;
    halted = c.halted;
    halted_before = c.halted_before;
    halts = c.halts;
  }

  pub bounded_under : (state : StateView) (command : Command) → KeepsLimit state command (watched k p m a) (watched l q n b) → KeepsLimit state command k l
  bounded_under state command bounds = record { asked = bounds.asked; within = bounds.within }

  pub moments_under : (old new : StateView) → KeepsPolicy (watched k p m a) (watched l q n b) old new → KeepsPolicy k l old new
  moments_under old new keeps = record { entries = keeps.entries; grew = under_grown keeps.entries keeps.grew; moments = keeps.moments }

  -- the watch stays, so what the kernel under it grew by, it grew by
  module _ (old new : StateView) (keeps : KeepsPolicy (watched k p m a) (watched l q n b) old new) where
    same_watch : watched l q n b ≡ watched l p m a
    same_watch = ap (λ (v : KernelView). record l { watching = first_of (record { packet = p; since = m; over = a }) v.watching ∷ l.watching }) keeps.grew

    watched_grown : (entries : List Entry) → l ≡ grown k entries → watched l q n b ≡ grown (watched k p m a) entries
    watched_grown entries grew = same_watch ∙ ap (λ (v : KernelView). watched v p m a) grew

    pub locked_under : KeepsLockdown (watched k p m a) (watched l q n b) old new → KeepsLockdown k l old new
    locked_under locked = λ entries grew. locked entries (watched_grown entries grew)

    pub once_under : GoesOnce (watched k p m a) (watched l q n b) old new → GoesOnce k l old new
    once_under once = λ none entries grew. once none entries (watched_grown entries grew)

    -- what was seen is what the packet's walk changed by
    pub changed_under : changes_since q n l.journal ≡ changes_since p m l.journal
    changed_under =
        ap (λ (v : KernelView). changes_since (first_of (record { packet = p; since = m; over = a }) v.watching).packet
        (first_of (record { packet = p; since = m; over = a }) v.watching).since l.journal) keeps.grew

    pub few_under : m ≡ length k.journal → length (changes_since q n l.journal) ≤ 2
    few_under begun =
        let few : length (changes_since p (length k.journal) l.journal) ≤ 2 =
        subst (λ (j : List Entry). length (changes_since p (length k.journal) j) ≤ 2) (sym (ap (λ (v : KernelView). v.journal) keeps.grew))
        (few_since p k.journal keeps.entries (policy old) (policy new) keeps.moments) in
        subst (λ (c : List (ℕ × Verdict)). length c ≤ 2) (sym (changed_under ∙ ap (λ (i : ℕ). changes_since p i l.journal) begun)) few

    -- and what is said of it
    pub said_under : (number : ℕ) (state : StateView) → m ≡ length k.journal
        → noted_text number state (changes_since q n l.journal) ≡ requests_text number state p k l
    said_under number state begun =
        ap (noted_text number state) (changed_under ∙ ap (λ (i : ℕ). changes_since p i l.journal) begun)
        ∙ noted_all number state p k l keeps.entries (under_grown keeps.entries keeps.grew)

pub kept_under : (c : ControllerView) (k : KernelView) (p : Option Packet) (m a : ℕ) → IsKept c (watched k p m a) → IsKept c k
kept_under c k p m a kept = record { good = kept.good; stands = kept.stands }

pub sends_under : (c : ControllerView) (k : KernelView) (p : Option Packet) (m a : ℕ) → SendsByPolicy c (watched k p m a) → SendsByPolicy c k
sends_under c k p m a sends = record { everywhere = sends.everywhere; locked = sends.locked }
