-- What carrying out a command's plan says of the controller.
use Rattle.std.proofs.Common.{◌≡◌, ◌∙◌, ℕ, ◌+◌, ◌<◌, ◌≤◌, Bool, nat_lt, List, ◌++◌, Option, Some, None, length, refl, sym, ap, subst, lit≤, inl, inr}
use Rattle.std.proofs.lemmas.Bool.{lt-ltb, le-ltb}
use Rattle.std.specs.Bool.{if◌then◌else◌}
use Rattle.net_names.specs.declared.code.Code.{Code}
use Rattle.net_names.specs.declared.code.Code.TheVariants as code
use Rattle.kernel_model.specs.Segment.{done, IsUndoneAt, IsHalted}
use Rattle.kernel_model.proofs.Replays.{replay-append}
use Rattle.kernel_model.specs.PlanView.{PlanView}
use Rattle.kernel_model.specs.Stands.{Stands}
use Rattle.kernel_model.specs.View.{KernelView, Room, state_of, grown}
use Rattle.kernel_model.specs.Same.{Distinct}
use Rattle.kernel_model.specs.declared.request.Request.{Request}
use Rattle.kernel_model.specs.declared.request.Request.TheVariants as req
use Rattle.prefixes.specs.declared.route.Route.{Route}
use Rattle.plan_exec.specs.MayCarry.{MayCarry, ReadyFor}
use Rattle.std.specs.List.{AllByRecursion}
use Rattle.kernel_model.specs.declared.request.Entry.{Entry}
use Rattle.policy_state.specs.Step.{FitsTypes, refusal, changed}
use Rattle.policy_state.specs.Table.{rule_table, route_list}
use Rattle.policy_state.specs.View.{StateView}
use Rattle.commands.specs.declared.command.Command.{Command}
use Rattle.rule_compile.specs.Asked.{asked, carried, MayStep}
use Rattle.plan_exec.specs.Carries.{Carries}
use Rattle.plan_exec.specs.declared.Carried.TheVariants.{Done, Halted, Undone}
use Rattle.std.specs.Prelude.{◌⊎◌, ◌*◌, true, false, slice_get, Err, [], ◌∷◌, ◌≢◌}
use Rattle.std.proofs.lemmas.Bool.Decides.{eqb_tells}
use Rattle.prefixes.specs.declared.addr.Family.{Family}
use Rattle.prefixes.specs.declared.addr.Family.TheVariants as family
use Rattle.rule_law.specs.Rules as law
use Rattle.rule_match.specs.declared.rule.Rule.{Rule}
use Rattle.kernel_model.specs.Kind.{rule_kind}
use Rattle.kernel_model.specs.State.{is_absent, is_present, is_route, rules_of, routes_of, own_rule, loopback, start as start_state}
use Rattle.policy_state.specs.View.{start}
use Rattle.policy_state.proofs.FirstState.{good-start}
use Rattle.net_control.specs.Started.{start_adds, IsStarted}
use Rattle.net_control.specs.declared.controller.StartFault.TheVariants as fault
use Rattle.kernel_model.specs.Journal.{replay, replay_from}
use Rattle.net_control.specs.Applied.{IsTaken, code_of, most_requests, adds_of, deletes_of, or_else}
use Rattle.net_control.specs.Limit.{journal_limit}
use Rattle.net_control.specs.View.{ControllerView, running, IsKept, StandsFor}

-- the policy accepts and the journal has room
pub accepted_with_room : (s : StateView) (journal : List Entry) (command : Command) → refusal s command ≡ None
    → length journal + most_requests s command ≤ journal_limit → code_of s journal command ≡ None
accepted_with_room s journal command accepted room =
    ap (λ (c : Option Code). or_else c (if nat_lt journal_limit (length journal + most_requests s command) then Some code.NoSpace else None)) accepted
    ∙ ap (λ (b : Bool). if b then Some code.NoSpace else None) (le-ltb journal_limit (length journal + most_requests s command) room)

-- the policy accepts and the journal has no room
pub accepted_without_room : (s : StateView) (journal : List Entry) (command : Command) → refusal s command ≡ None
    → journal_limit < length journal + most_requests s command → code_of s journal command ≡ Some code.NoSpace
accepted_without_room s journal command accepted full =
    ap (λ (c : Option Code). or_else c (if nat_lt journal_limit (length journal + most_requests s command) then Some code.NoSpace else None)) accepted
    ∙ ap (λ (b : Bool). if b then Some code.NoSpace else None) (lt-ltb journal_limit (length journal + most_requests s command) full)

-- the policy refuses
pub refused_with : (s : StateView) (journal : List Entry) (command : Command) (c : Code) → refusal s command ≡ Some c → code_of s journal command ≡ Some c
refused_with s journal command c is =
    ap (λ (d : Option Code). or_else d (if nat_lt journal_limit (length journal + most_requests s command) then Some code.NoSpace else None)) is

-- what a command is taken on
pub may_step : (old : ControllerView) (kernel : KernelView) (command : Command) → IsKept old kernel → old.halted ≡ None → FitsTypes command → refusal old.state command ≡ None
    → MayStep (state_of kernel) old.state command
may_step old kernel command kept runs fits accepted = record { good = kept.good; fits = fits; accepted = accepted; stands = kept.stands runs }

-- rules alone, or one route alone
abbrev pub AreOfOneKind : List Request → Type 0
AreOfOneKind adds = AllByRecursion (λ q. is_route q ≡ false) adds ⊎ ((n : ℕ) × (route : Route) × (adds ≡ req.Route n route ∷ []))

-- the kernel is ready for the table of the route that comes first
abbrev pub IsReadyForFirst : List Request → Option ℕ → Type 0
IsReadyForFirst adds ready = (n : ℕ) (route : Route) → slice_get adds 0 ≡ Some (req.Route n route) → ready ≡ Some n

ready_for : (adds : List Request) (ready : Option ℕ) → AreOfOneKind adds → IsReadyForFirst adds ready → ReadyFor adds ready
ready_for adds ready (inl rules) made = inl rules
ready_for adds ready (inr (n, route, is)) made = inr (n, route, is, made n route (ap (λ qs. slice_get qs 0) is))

-- a plan that can be asked may be carried out where room was made for it
pub may_carry : (plan asked : PlanView) (before mid : KernelView) (room : Room) → plan ≡ asked → mid ≡ before
    → Distinct (asked.adds ++ asked.deletes)
    → AllByRecursion (λ q. is_absent (state_of before) q ≡ true) asked.adds
    → AllByRecursion (λ q. is_present (state_of before) q ≡ true) asked.deletes
    → AreOfOneKind asked.adds → 2 * length plan.adds + length plan.deletes ≤ room.spare → IsReadyForFirst plan.adds room.ready
    → MayCarry plan mid room
may_carry plan asked before mid room is same distinct absent present kind spare ready =
    subst (λ (k : KernelView). MayCarry plan k room) (sym same)
    (subst (λ (p : PlanView). 2 * length p.adds + length p.deletes ≤ room.spare → IsReadyForFirst p.adds room.ready → MayCarry p before room) (sym is)
    (λ enough made. record { distinct = distinct; absent = absent; present = present; spare = enough; ready = ready_for asked.adds room.ready kind made })
    spare ready)

-- a kernel that was asked all of a plan stands for the new state
pub stands_for_new : (before after : KernelView) (s : StateView) (command : Command)
    → Stands (carried (state_of before) s command) (rule_table (changed s command)) (route_list (changed s command))
    → after ≡ grown before (done (adds_of s command) (deletes_of s command)) → StandsFor after (changed s command)
stands_for_new before after s command stands grew =
    subst (λ k. StandsFor k (changed s command)) (sym grew)
    (subst (λ k. Stands k (rule_table (changed s command)) (route_list (changed s command)))
    (sym (replay-append before.journal (done (adds_of s command) (deletes_of s command)))) stands)

-- the kernel from before stands for what it stood for
pub stands_as_before : (before after : KernelView) (s : StateView) → state_of after ≡ state_of before → StandsFor before s → StandsFor after s
stands_as_before before after s same stands = subst (λ k. Stands k (rule_table s) (route_list s)) (sym same) stands

-- a plan that was carried out
pub done_grew : (plan : PlanView) (old mid new : KernelView) (s : StateView) (command : Command) → plan ≡ asked s command → mid ≡ old
    → Carries plan mid new Done → new ≡ grown old (done (adds_of s command) (deletes_of s command))
done_grew plan old mid new s command plan_is same carries =
    let here : Carries (asked s command) old new Done =
    subst (λ (k : KernelView). Carries (asked s command) k new Done) same
    (subst (λ (p : PlanView). Carries p mid new Done) plan_is carries) in
    here.grew ∙ ap (grown old) here.form

-- the policy accepts, and the journal has room for the plan
pub taken : (old : ControllerView) (before : KernelView) (plan : PlanView) (command : Command) → old.halted ≡ None → refusal old.state command ≡ None → plan ≡ asked old.state command
    → length before.journal + (2 * length plan.adds + length plan.deletes) ≤ journal_limit → IsTaken old before command
taken old before plan command runs accepted is room = record {
  runs = runs;
  accepted = accepted_with_room old.state before.journal command accepted
      (subst (λ (p : PlanView). length before.journal + (2 * length p.adds + length p.deletes) ≤ journal_limit) is room);
}

-- the policy accepts, and the journal has no room for the plan
pub has_no_room : (s : StateView) (journal : List Entry) (plan : PlanView) (command : Command) → refusal s command ≡ None → plan ≡ asked s command
    → journal_limit < length journal + (2 * length plan.adds + length plan.deletes) → code_of s journal command ≡ Some code.NoSpace
has_no_room s journal plan command accepted is full = accepted_without_room s journal command accepted
    (subst (λ (p : PlanView). journal_limit < length journal + (2 * length p.adds + length p.deletes)) is full)

-- a plan that was undone
abbrev pub IsUndone : (s : StateView) → Command → (old new : KernelView) → ℕ → Type 0
IsUndone s command old new request =
    (k : ℕ) × (entries : List Entry) × IsUndoneAt (adds_of s command) k entries × (new ≡ grown old entries) × (request ≡ length old.journal + k + 1)

pub undone_grew : (plan : PlanView) (old mid new : KernelView) (s : StateView) (command : Command) (request : ℕ) → plan ≡ asked s command → mid ≡ old
    → Carries plan mid new (Undone request) → IsUndone s command old new request
undone_grew plan old mid new s command request plan_is same carries =
    let here : Carries (asked s command) old new (Undone request) =
    subst (λ (k : KernelView). Carries (asked s command) k new (Undone request)) same
    (subst (λ (p : PlanView). Carries p mid new (Undone request)) plan_is carries) in
    (here.form.0, here.entries, here.form.1, here.grew, here.form.2)

-- a plan that was halted
abbrev pub IsHaltedAt : (s : StateView) → Command → (old new : KernelView) → ℕ → Type 0
IsHaltedAt s command old new request =
    (entries : List Entry) × IsHalted (adds_of s command) (deletes_of s command) entries × (new ≡ grown old entries) × (request ≡ length old.journal + length entries)

pub halted_grew : (plan : PlanView) (old mid new : KernelView) (s : StateView) (command : Command) (request : ℕ) → plan ≡ asked s command → mid ≡ old
    → Carries plan mid new (Halted request) → IsHaltedAt s command old new request
halted_grew plan old mid new s command request plan_is same carries =
    let here : Carries (asked s command) old new (Halted request) =
    subst (λ (k : KernelView). Carries (asked s command) k new (Halted request)) same
    (subst (λ (p : PlanView). Carries p mid new (Halted request)) plan_is carries) in
    (here.entries, here.form.0, here.grew, here.form.1)

-- a start that was halted
pub started_halted : (plan : PlanView) (old mid new : KernelView) (r : ℕ) → plan ≡ record { adds = start_adds; deletes = [] } → mid ≡ old
    → Carries plan mid new (Halted r) → IsStarted (Err (fault.Halted r)) old new
started_halted plan old mid new r plan_is same carries =
    let here : Carries (record { adds = start_adds; deletes = [] }) old new (Halted r) =
    subst (λ (k : KernelView). Carries (record { adds = start_adds; deletes = [] }) k new (Halted r)) same
    (subst (λ (p : PlanView). Carries p mid new (Halted r)) plan_is carries) in
    (here.entries, here.form.0, here.grew, here.form.1)

-- each list stands for itself
stands_itself : (rules : List Rule) → law.Rises rule_kind rules → law.Stands rule_kind rules rules
stands_itself rules rises = record { rises = rises; classes = λ r. refl }

no_other_table : (n : ℕ) → n ≢ 255 → routes_of n start_state.tables ≡ []
no_other_table n other = elim (eqb_tells 255 n) as (λ _. routes_of n start_state.tables ≡ []) [
  | inl (test, same) ↦ absurd (other (sym same))
  | inr (test, differs) ↦ ap (λ (b : Bool). if b then loopback else []) test
]

start_rises : law.Rises rule_kind (own_rule ∷ rule_table start)
unfolding rule_table
start_rises = ((lit≤ tt, (lit≤ tt, (lit≤ tt, tt))), ((lit≤ tt, (lit≤ tt, tt)), ((lit≤ tt, tt), (tt, tt))))

-- the kernel that was asked for the rules of the start
pub start_stands : Stands (replay_from start_state (done start_adds [])) (rule_table start) (route_list start)
unfolding rule_table
start_stands = record {
  in_family = in_each;
  own_table = refl;
  in_table = no_other_table;
}
  where
    in_each : (f : Family) → law.Stands rule_kind (rules_of (replay_from start_state (done start_adds [])) f) (own_rule ∷ rule_table start)
    in_each family.V4 = stands_itself (own_rule ∷ rule_table start) start_rises
    in_each family.V6 = stands_itself (own_rule ∷ rule_table start) start_rises

pub start_kept : (plan : PlanView) (old mid new : KernelView) → old.journal ≡ [] → plan ≡ record { adds = start_adds; deletes = [] } → mid ≡ old
    → Carries plan mid new Done → IsKept (running start) new
start_kept plan old mid new empty plan_is same carries =
    let here : Carries (record { adds = start_adds; deletes = [] }) old new Done =
    subst (λ (k : KernelView). Carries (record { adds = start_adds; deletes = [] }) k new Done) same
    (subst (λ (p : PlanView). Carries p mid new Done) plan_is carries) in
    record {
      good = good-start;
      stands = λ _. subst (λ k. StandsFor k start) (sym here.grew)
          (subst (λ es. Stands (replay es) (rule_table start) (route_list start)) (sym (ap (λ es. es ++ here.entries) empty ∙ here.form)) start_stands);
    }
