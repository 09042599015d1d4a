-- Where packets go while a command is carried out, and during the start.
use Rattle.std.proofs.Common.{◌++◌, ◌≡◌, ◌≢◌, ◌∙◌, ◌⊎◌, ℕ, ◌≤◌, List, [], length, Option, None, Some, Result, Ok, Err, inl, inr, refl, sym, ap, subst, arith}
use Rattle.std.proofs.lemmas.List.{append-nil, append_cancel_left}
use Rattle.std.proofs.lemmas.Bool.{cases_lt}
use Rattle.std.specs.declared.alloc.AllocError.{AllocError}
use Rattle.kernel_model.specs.Segment.{IsSegment}
use Rattle.kernel_model.specs.Stands.{Stands}
use Rattle.kernel_model.specs.State.{KernelState}
use Rattle.kernel_model.specs.Switch.{walk_along}
use Rattle.kernel_model.specs.View.{KernelView, grown, state_of}
use Rattle.kernel_model.specs.Walk.{walk}
use Rattle.kernel_model.specs.declared.request.Entry.{Entry}
use Rattle.net_control.specs.Applied.{IsAnswered, IsTaken, adds_of, deletes_of, or_else}
use Rattle.net_control.specs.Started.{IsStarted, start_adds}
use Rattle.net_control.specs.View.{ControllerView, IsKept}
use Rattle.turn_text.specs.declared.answer.Answer.{Answer}
use Rattle.turn_text.specs.declared.answer.Answer.TheVariants as answer
use Rattle.net_control.specs.declared.controller.StartFault.{StartFault}
use Rattle.net_control.specs.declared.controller.StartFault.TheVariants as fault
use Rattle.net_names.specs.declared.code.Code.{Code}
use Rattle.net_control.specs.Moments.{KeepsPolicy, KeepsLockdown, SendsByPolicy}
use Rattle.policy_meaning.specs.Policy.{IsBarred, policy}
use Rattle.policy_meaning.specs.Promise.{StaysIn}
use Rattle.policy_state.specs.Step.{changed, refusal}
use Rattle.policy_state.specs.Table.{rule_table, route_list}
use Rattle.networks.specs.declared.network.Network.{Network}
use Rattle.policy_state.specs.Good.{IsGood}
use Rattle.policy_state.specs.View.{StateView, start}
use Rattle.commands.specs.declared.command.Command.{Command}
use Rattle.rule_law.specs.Plans.{GoesOverAndBack}
use Rattle.rule_match.specs.declared.packet.Packet.{Packet}
use Rattle.rule_match.specs.declared.verdict.Verdict.{Verdict}
use Rattle.std.specs.Prelude.{IfOk}

-- the same moments, by the verdicts' other names
pub by_policy : {last : ℕ} {at : ℕ → Verdict} {old new said_old said_new : Verdict} → old ≡ said_old → new ≡ said_new
    → GoesOverAndBack last at old new → GoesOverAndBack last at said_old said_new
by_policy {last} {at} {old} {new} {said_old} {said_new} a b goes =
    subst (λ (v : Verdict). GoesOverAndBack last at v said_new) a (subst (λ (v : Verdict). GoesOverAndBack last at old v) b goes)

-- where nothing was asked there is one moment
one_moment : (k : KernelState) (packet : Packet) (old new : Verdict) → walk k packet ≡ old → GoesOverAndBack 0 (walk_along k packet []) old new
one_moment k packet old new is = record {
  over = 1;
  back = 1;
  in_order = omega arith;
  before = λ i last front. subst (λ (n : ℕ). walk_along k packet [] n ≡ old) (zero_is i last) is;
  between = λ i last over front. absurd (let l : i ≤ 0 = last in let o : 1 ≤ i = over in omega arith);
  behind = λ i last behind. absurd (let l : i ≤ 0 = last in let o : 1 ≤ i = behind in omega arith);
}
  where
    zero_is : (i : ℕ) → i ≤ 0 → 0 ≡ i
    zero_is i last = let l : i ≤ 0 = last in omega arith

pub stays : (before after : KernelView) (old new : StateView) → ((packet : Packet) → walk (state_of before) packet ≡ policy old packet) → after ≡ before
    → KeepsPolicy before after old new
stays before after old new means same = record {
  entries = [];
  grew = same ∙ sym (ap (λ (entries : List Entry). record before { journal = entries }) (append-nil before.journal));
  moments = λ packet. one_moment (state_of before) packet (policy old packet) (policy new packet) (means packet);
}

first_none : (a b : Option Code) → or_else a b ≡ None → a ≡ None
first_none None b none = refl
first_none (Some c) b none = none

-- what the policy accepts is what the controller takes
pub accepted : (old : ControllerView) (before : KernelView) (command : Command) → IsTaken old before command → refusal old.state command ≡ None
accepted old before command taken = first_none (refusal old.state command) _ taken.accepted

-- the requests of a command
pub answered : (a : Result Answer AllocError) (command : Command) (old new : ControllerView) (before after : KernelView)
    → ((packet : Packet) → walk (state_of before) packet ≡ policy old.state packet)
    → (IsTaken old before command → (entries : List Entry) → IsSegment (adds_of old.state command) (deletes_of old.state command) entries → (packet : Packet)
    → GoesOverAndBack (length entries) (walk_along (state_of before) packet entries) (policy old.state packet) (policy (changed old.state command) packet))
    → IsAnswered a command old new before after → KeepsPolicy before after old.state (changed old.state command)
answered (Ok answer.Done) command old new before after means goes is = record { entries = _; grew = is.1; moments = goes is.0 _ (inl refl) }
answered (Ok (answer.Refused c)) command old new before after means goes is = stays before after old.state (changed old.state command) means is.2
answered (Ok (answer.KernelRefused q)) command old new before after means goes is =
    record { entries = is.1.1; grew = is.1.3; moments = goes is.0 is.1.1 (inr (inl (is.1.0, is.1.2))) }
answered (Ok (answer.Halted q)) command old new before after means goes (inl is) = stays before after old.state (changed old.state command) means is.1
answered (Ok (answer.Halted q)) command old new before after means goes (inr is) =
    record { entries = is.1.0; grew = is.1.2; moments = goes is.0 is.1.0 (inr (inr is.1.1)) }
answered (Err e) command old new before after means goes is = stays before after old.state (changed old.state command) means is.1

-- the requests of the start
pub begun : (r : Result ControllerView StartFault) (before after : KernelView)
    → ((packet : Packet) → walk (state_of before) packet ≡ policy start packet)
    → ((entries : List Entry) → IsSegment start_adds [] entries → (packet : Packet)
    → GoesOverAndBack (length entries) (walk_along (state_of before) packet entries) (policy start packet) (policy start packet))
    → IsStarted r before after → KeepsPolicy before after start start
begun (Ok c) before after means goes is = record { entries = _; grew = is.0; moments = goes _ (inl refl) }
begun (Err (fault.Refused q)) before after means goes is = record { entries = is.1; grew = is.3; moments = goes is.1 (inr (inl (is.0, is.2))) }
begun (Err (fault.Halted q)) before after means goes is = record { entries = is.0; grew = is.2; moments = goes is.0 (inr (inr is.1)) }
begun (Err (fault.Memory e)) before after means goes is = stays before after start start means is

-- each moment has the one value or the other
pub at_each : {last : ℕ} {at : ℕ → Verdict} {old new : Verdict} → GoesOverAndBack last at old new → (i : ℕ) → i ≤ last → (at i ≡ old) ⊎ (at i ≡ new)
at_each {last} {at} {old} {new} goes i within = elim (cases_lt i goes.over) as (λ _. (at i ≡ old) ⊎ (at i ≡ new)) [
  | inl front ↦ inl (goes.before i within front)
  | inr over ↦ elim (cases_lt i goes.back) as (λ _. (at i ≡ old) ⊎ (at i ≡ new)) [
    | inl front ↦ inr (goes.between i within over front)
    | inr behind ↦ inl (goes.behind i within behind)
  ]
]

-- between two names of one value
pub at_same : {last : ℕ} {at : ℕ → Verdict} {v : Verdict} → GoesOverAndBack last at v v → (i : ℕ) → i ≤ last → at i ≡ v
at_same {last} {at} {v} goes i within = by (at_each goes i within)
  where
    by : (at i ≡ v) ⊎ (at i ≡ v) → at i ≡ v
    by (inl is) = is
    by (inr is) = is

-- the journal grew by these entries alone
pub same_entries : (before after : KernelView) (xs ys : List Entry) → after ≡ grown before xs → after ≡ grown before ys → xs ≡ ys
same_entries before after xs ys is same = append_cancel_left before.journal xs ys (ap (λ (k : KernelView). k.journal) (sym is ∙ same))

-- what lockdown promises of the policy
abbrev pub BarredStaysIn : Type 0
BarredStaysIn = (s : StateView) (packet : Packet) → IsGood s → IsBarred s packet → packet.uid.number ≢ 0 → StaysIn s.networks (policy s packet)

-- what stays in stays in where more networks may be used
abbrev pub MoreStayIn : Type 0
MoreStayIn = (ns ms : List Network) (v : Verdict) → StaysIn ns v → StaysIn (ns ++ ms) v × StaysIn (ms ++ ns) v

-- the state after what was asked is good, or nothing was asked
pub good_or_same : (a : Result Answer AllocError) (command : Command) (old new : ControllerView) (before after : KernelView)
    → (IsTaken old before command → IsGood (changed old.state command)) → IsAnswered a command old new before after → IsGood (changed old.state command) ⊎ (after ≡ before)
good_or_same (Ok answer.Done) command old new before after good is = inl (good is.0)
good_or_same (Ok (answer.Refused c)) command old new before after good is = inr is.2
good_or_same (Ok (answer.KernelRefused q)) command old new before after good is = inl (good is.0)
good_or_same (Ok (answer.Halted q)) command old new before after good (inl is) = inr is.1
good_or_same (Ok (answer.Halted q)) command old new before after good (inr is) = inl (good is.0)
good_or_same (Err e) command old new before after good is = inr is.1

-- what the policy keeps in at every moment stays in
pub locked : (before after : KernelView) (old new : StateView) → BarredStaysIn → MoreStayIn → IsGood old → IsGood new ⊎ (after ≡ before)
    → ((packet : Packet) → walk (state_of before) packet ≡ policy old packet) → KeepsPolicy before after old new → KeepsLockdown before after old new
locked before after old new bars more good either means keeps entries grew packet was is user i within =
    by either (subst (λ (es : List Entry). i ≤ length es) (sym same) within)
  where
    same : keeps.entries ≡ entries
    same = same_entries before after keeps.entries entries keeps.grew grew

    of_old : (v : Verdict) → v ≡ policy old packet → StaysIn (old.networks ++ new.networks) v
    of_old v e = subst (StaysIn (old.networks ++ new.networks)) (sym e) (more old.networks new.networks (policy old packet) (bars old packet good was user)).0

    at : StaysIn (old.networks ++ new.networks) (walk_along (state_of before) packet keeps.entries i) → StaysIn (old.networks ++ new.networks) (walk_along (state_of before) packet entries i)
    at h = subst (λ (es : List Entry). StaysIn (old.networks ++ new.networks) (walk_along (state_of before) packet es i)) same h

    stays_in : IsGood new → (walk_along (state_of before) packet keeps.entries i ≡ policy old packet) ⊎ (walk_along (state_of before) packet keeps.entries i ≡ policy new packet)
        → StaysIn (old.networks ++ new.networks) (walk_along (state_of before) packet entries i)
    stays_in good_new (inl e) = at (of_old (walk_along (state_of before) packet keeps.entries i) e)
    stays_in good_new (inr e) = at (subst (StaysIn (old.networks ++ new.networks)) (sym e) (more new.networks old.networks (policy new packet) (bars new packet good_new is user)).1)

    none : after ≡ before → [] ≡ keeps.entries
    none unchanged = same_entries before after [] keeps.entries
        (unchanged ∙ sym (ap (λ (es : List Entry). record before { journal = es }) (append-nil before.journal))) keeps.grew

    by : IsGood new ⊎ (after ≡ before) → i ≤ length keeps.entries → StaysIn (old.networks ++ new.networks) (walk_along (state_of before) packet entries i)
    by (inl good_new) inside = stays_in good_new (at_each (keeps.moments packet) i inside)
    by (inr unchanged) inside =
        let first : i ≤ 0 = subst (λ (es : List Entry). i ≤ length es) (sym (none unchanged)) inside in
        let zero_is : 0 ≡ i = omega (arith, first) in
        at (subst (λ (n : ℕ). StaysIn (old.networks ++ new.networks) (walk_along (state_of before) packet keeps.entries n)) zero_is
        (subst (λ (es : List Entry). StaysIn (old.networks ++ new.networks) (walk_along (state_of before) packet es 0)) (none unchanged) (of_old (walk (state_of before) packet) (means packet))))

-- that the table means the policy
abbrev pub TableMeansPolicy : Type 0
TableMeansPolicy = (s : StateView) (k : KernelState) (packet : Packet) → IsGood s → Stands k (rule_table s) (route_list s) → walk k packet ≡ policy s packet

-- where the kernel stands for the state, it sends every packet where the policy does
pub sends : (controller : ControllerView) (kernel : KernelView) → TableMeansPolicy → BarredStaysIn → IsKept controller kernel → SendsByPolicy controller kernel
sends controller kernel means bars kept = record {
  everywhere = everywhere;
  locked = λ running packet barred user. subst (StaysIn controller.state.networks) (sym (everywhere running packet)) (bars controller.state packet kept.good barred user);
}
  where
    everywhere : controller.halted ≡ None → (packet : Packet) → walk (state_of kernel) packet ≡ policy controller.state packet
    everywhere running packet = means controller.state (state_of kernel) packet kept.good (kept.stands running)

pub started_sends : (r : Result ControllerView StartFault) (kernel : KernelView) → TableMeansPolicy → BarredStaysIn → IfOk r (λ controller. IsKept controller kernel)
    → IfOk r (λ controller. SendsByPolicy controller kernel)
started_sends (Ok controller) kernel means bars kept = sends controller kernel means bars kept
started_sends (Err fault) kernel means bars kept = tt
