-- From a plan that was carried out, or stopped, to the answer of its command.
use Rattle.std.proofs.Common.{◌≡◌, ◌∙◌, Result, Ok, Err, ℕ, Option, sym, ap, ap₂, subst, inr}
use Rattle.std.proofs.lemmas.Option.{none-some}
use Rattle.std.specs.declared.alloc.AllocError.{AllocError}
use Rattle.commands.specs.declared.command.Command.{Command}
use Rattle.kernel_model.specs.PlanView.{PlanView}
use Rattle.kernel_model.specs.Stands.{Stands}
use Rattle.kernel_model.specs.View.{KernelView, state_of}
use Rattle.policy_state.specs.Good.{IsGood}
use Rattle.policy_state.specs.Step.{changed}
use Rattle.policy_state.specs.Table.{rule_table, route_list}
use Rattle.policy_state.specs.View.{StateView}
use Rattle.rule_compile.specs.Asked.{asked, carried}
use Rattle.turn_text.specs.declared.answer.Answer.{Answer}
use Rattle.turn_text.specs.declared.answer.Answer.TheVariants as answer
use Rattle.net_control.specs.Applied.{IsAnswered, IsTaken}
use Rattle.net_control.specs.Brought.{IsBrought}
use Rattle.net_control.specs.View.{ControllerView, IsKept, StandsFor}
use Rattle.net_control.proofs.Carrying.{done_grew, halted_grew, stands_as_before, stands_for_new, undone_grew}

-- the answer of a command that is taken
pub brought_answer : (a : Result Answer AllocError) (plan : PlanView) (next : StateView) (command : Command) (old new : ControllerView) (before mid after : KernelView)
    → IsTaken old before command → plan ≡ asked old.state command → mid ≡ before → next ≡ changed old.state command → IsBrought a plan next old new mid after
    → IsAnswered a command old new before after
brought_answer (Ok answer.Done) plan next command old new before mid after taken is same next_is did =
    (taken, done_grew plan before mid after old.state command is same did.0, did.1 ∙ ap₂ (λ (s : StateView) (h : Option ℕ). record { state = s; halted = h }) next_is taken.runs)
brought_answer (Ok (answer.Refused c)) plan next command old new before mid after taken is same next_is did = absurd did
brought_answer (Ok (answer.KernelRefused request)) plan next command old new before mid after taken is same next_is did =
    (taken, undone_grew plan before mid after old.state command request is same did.0, did.2)
brought_answer (Ok (answer.Halted request)) plan next command old new before mid after taken is same next_is did =
    inr (taken, halted_grew plan before mid after old.state command request is same did.0, did.1)
brought_answer (Err e) plan next command old new before mid after taken is same next_is did = (taken.runs, did.0 ∙ same, did.1)

-- the kernel stands for the state still, or for the next one
pub brought_kept : (a : Result Answer AllocError) (plan : PlanView) (next : StateView) (command : Command) (old new : ControllerView) (before mid after : KernelView)
    → IsKept old before → IsGood next → Stands (carried (state_of before) old.state command) (rule_table (changed old.state command)) (route_list (changed old.state command))
    → plan ≡ asked old.state command → mid ≡ before → next ≡ changed old.state command → IsBrought a plan next old new mid after → IsKept new after
brought_kept (Ok answer.Done) plan next command old new before mid after kept good stands is same next_is did =
    subst (λ (v : ControllerView). IsKept v after) (sym did.1) (record {
      good = good;
      stands = λ _. subst (λ (s : StateView). StandsFor after s) (sym next_is)
          (stands_for_new before after old.state command stands (done_grew plan before mid after old.state command is same did.0));
    })
brought_kept (Ok (answer.Refused c)) plan next command old new before mid after kept good stands is same next_is did = absurd did
brought_kept (Ok (answer.KernelRefused request)) plan next command old new before mid after kept good stands is same next_is did =
    subst (λ (v : ControllerView). IsKept v after) (sym did.2) (record {
      good = kept.good;
      stands = λ runs. stands_as_before before after old.state (did.1 ∙ ap state_of same) (kept.stands runs);
    })
brought_kept (Ok (answer.Halted request)) plan next command old new before mid after kept good stands is same next_is did =
    subst (λ (v : ControllerView). IsKept v after) (sym did.1) (record { good = kept.good; stands = λ runs. absurd (none-some request (sym runs)) })
brought_kept (Err e) plan next command old new before mid after kept good stands is same next_is did =
    subst (λ (v : ControllerView). IsKept v after) (sym did.1) (subst (λ (k : KernelView). IsKept old k) (sym (did.0 ∙ same)) kept)
