-- A journal of well formed requests stays one.
use Rattle.std.proofs.Common.{◌≡◌, List, [], Result, Ok, Err, inl, inr, refl, sym, subst}
use Rattle.std.specs.List.{AllByRecursion}
use Rattle.std.specs.declared.alloc.AllocError.{AllocError}
use Rattle.kernel_model.specs.Form.{IsWellFormedRule, IsWellFormed, AreWellFormed}
use Rattle.kernel_model.specs.Segment.{done}
use Rattle.kernel_model.specs.View.{KernelView, grown}
use Rattle.kernel_model.specs.declared.request.Entry.{Entry}
use Rattle.list_lemmas.proofs.Alls.{all-append}
use Rattle.kernel_model.proofs.Formed.{of_done, of_whole, of_halted}
use Rattle.net_control.specs.Applied.{IsAnswered, IsTaken, adds_of, deletes_of}
use Rattle.net_control.specs.Started.{IsStarted, start_adds}
use Rattle.net_control.specs.View.{ControllerView}
use Rattle.net_control.specs.declared.controller.StartFault.{StartFault}
use Rattle.net_control.specs.declared.controller.StartFault.TheVariants as fault
use Rattle.turn_text.specs.declared.answer.Answer.{Answer}
use Rattle.turn_text.specs.declared.answer.Answer.TheVariants as answer
use Rattle.networks.specs.Network.{local_network}
use Rattle.policy_state.specs.Rows.{net_item, nothing}
use Rattle.policy_state.specs.Table.{rule_of, explicit_local, local_links, last}
use Rattle.commands.specs.declared.command.Command.{Command}

grew-formed : (before after : KernelView) (es : List Entry) → after ≡ grown before es → AreWellFormed es → AreWellFormed before.journal → AreWellFormed after.journal
grew-formed before after es grew formed so_far =
    subst (λ (k : KernelView). AreWellFormed k.journal) (sym grew) (all-append (λ e. IsWellFormed e.request) before.journal es so_far formed)

same-formed : (before after : KernelView) → after ≡ before → AreWellFormed before.journal → AreWellFormed after.journal
same-formed before after same so_far = subst (λ (k : KernelView). AreWellFormed k.journal) (sym same) so_far

-- what is asked for a command is well formed
abbrev AsksWellFormed : ControllerView → KernelView → Command → Type 0
AsksWellFormed old before command =
    IsTaken old before command → AllByRecursion IsWellFormed (adds_of old.state command) × AllByRecursion IsWellFormed (deletes_of old.state command)

pub keeps_form : (a : Result Answer AllocError) (command : Command) (old new : ControllerView) (before after : KernelView) → AsksWellFormed old before command
    → IsAnswered a command old new before after → AreWellFormed before.journal → AreWellFormed after.journal
keeps_form (Ok answer.Done) command old new before after asks is =
    let each = asks is.0 in
    grew-formed before after (done (adds_of old.state command) (deletes_of old.state command)) is.1
    (of_done IsWellFormed (adds_of old.state command) (deletes_of old.state command) each.0 each.1)
keeps_form (Ok (answer.Refused c)) command old new before after asks is = same-formed before after is.2
keeps_form (Ok (answer.KernelRefused q)) command old new before after asks is =
    let each = asks is.0 in
    grew-formed before after is.1.1 is.1.3
    (of_whole IsWellFormed (adds_of old.state command) (deletes_of old.state command) each.0 each.1 is.1.1 (inr (is.1.0, is.1.2)))
keeps_form (Ok (answer.Halted q)) command old new before after asks (inl is) = same-formed before after is.1
keeps_form (Ok (answer.Halted q)) command old new before after asks (inr is) =
    let each = asks is.0 in
    grew-formed before after is.1.0 is.1.2
    (of_halted IsWellFormed (adds_of old.state command) (deletes_of old.state command) each.0 each.1 is.1.0 is.1.1)
keeps_form (Err e) command old new before after asks is = same-formed before after is.1

-- the start asks for three rules, each in both families
start_adds-formed : AllByRecursion IsWellFormed start_adds
start_adds-formed = (explicit, (explicit, (local, (local, (refuses, (refuses, tt))))))
  where
    explicit : IsWellFormedRule (rule_of explicit_local (net_item local_network))
    explicit = record { value = λ e. absurd cc; incoming = λ e. cc; outgoing = λ e. cc }

    local : IsWellFormedRule (rule_of local_links nothing)
    local = record { value = λ e. refl; incoming = λ e. cc; outgoing = λ e. cc }

    refuses : IsWellFormedRule (rule_of last nothing)
    refuses = record { value = λ e. refl; incoming = λ e. cc; outgoing = λ e. cc }

none-formed : (k : KernelView) → k.journal ≡ [] → AreWellFormed k.journal
none-formed k none = subst AreWellFormed (sym none) tt

pub start_formed : (r : Result ControllerView StartFault) (before after : KernelView) → IsStarted r before after → before.journal ≡ [] → AreWellFormed after.journal
start_formed (Ok c) before after is none =
    grew-formed before after (done start_adds []) is.0 (of_done IsWellFormed start_adds [] start_adds-formed tt) (none-formed before none)
start_formed (Err (fault.Refused q)) before after is none =
    grew-formed before after is.1 is.3 (of_whole IsWellFormed start_adds [] start_adds-formed tt is.1 (inr (is.0, is.2))) (none-formed before none)
start_formed (Err (fault.Halted q)) before after is none =
    grew-formed before after is.0 is.2 (of_halted IsWellFormed start_adds [] start_adds-formed tt is.0 is.1) (none-formed before none)
start_formed (Err (fault.Memory e)) before after is none = same-formed before after is (none-formed before none)
