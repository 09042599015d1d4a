-- How many requests a command takes.
use Rattle.std.proofs.Common.{◌≡◌, ◌∙◌, ℕ, ◌+◌, ◌*◌, ◌<◌, ◌≤◌, List, [], ◌∷◌, ◌++◌, length, map, reverse, take, Result, Ok, Err, inl, inr, sym, ap, arith, length-append}
use Rattle.std.proofs.lemmas.Bool.{cases_lt}
use Rattle.std.proofs.lemmas.List.{length-map, length-reverse, length-take-le}
use Rattle.std.proofs.lemmas.Option.{none-some, slice_get_within}
use Rattle.std.specs.declared.alloc.AllocError.{AllocError}
use Rattle.kernel_model.specs.Journal.{entry}
use Rattle.kernel_model.specs.Segment.{done, undone, IsWhole, IsHalted}
use Rattle.kernel_model.specs.View.{KernelView, grown}
use Rattle.kernel_model.specs.declared.request.Entry.{Entry}
use Rattle.kernel_model.specs.declared.request.EntryKind.TheVariants.{Added, Deleted, Refused, Broken}
use Rattle.kernel_model.specs.declared.request.Request.{Request}
use Rattle.net_control.proofs.Policed.{accepted}
use Rattle.net_control.proofs.Carrying.{accepted_without_room}
use Rattle.net_control.specs.Applied.{IsAnswered, IsTaken, adds_of, deletes_of, most_requests}
use Rattle.net_control.specs.Bounds.{KeepsLimit}
use Rattle.net_control.specs.Limit.{journal_limit}
use Rattle.net_control.specs.Started.{IsStarted, start_adds}
use Rattle.net_control.specs.View.{ControllerView}
use Rattle.net_control.specs.declared.controller.StartFault.{StartFault}
use Rattle.net_control.specs.declared.controller.StartFault.TheVariants as fault
use Rattle.turn_text.specs.declared.answer.Answer.{Answer}
use Rattle.turn_text.specs.declared.answer.Answer.TheVariants as answer
use Rattle.commands.specs.declared.command.Command.{Command}

done_length : (adds deletes : List Request) → length (done adds deletes) ≡ length adds + length deletes
done_length adds deletes =
    omega (arith, length-append (map (entry Added) adds) (map (entry Deleted) deletes), length-map adds (entry Added), length-map deletes (entry Deleted))

undone_few : (adds : List Request) (k : ℕ) (refused : Request) → k < length adds → length (undone adds k refused) ≤ 2 * length adds
undone_few adds k refused within =
    let front : length (take k adds) ≡ k = length-take-le k adds (omega (arith, within)) in
    omega (
      arith,
      within,
      front,
      length-append (map (entry Added) (take k adds)) (entry Refused refused ∷ map (entry Deleted) (reverse (take k adds))),
      length-map (take k adds) (entry Added),
      length-map (reverse (take k adds)) (entry Deleted),
      length-reverse (take k adds),
    )

whole_few : (adds deletes : List Request) (es : List Entry) → IsWhole adds deletes es → length es ≤ 2 * length adds + length deletes
whole_few adds deletes es (inl is) = omega (arith, ap length is, done_length adds deletes)
whole_few adds deletes es (inr (k, is)) = omega (arith, ap length is.all, undone_few adds k is.refused (slice_get_within adds k is.refused is.next))

halted_few : (adds deletes : List Request) (es : List Entry) → IsHalted adds deletes es → length es ≤ 2 * length adds + length deletes
halted_few adds deletes es is =
    let inside : is.at < length is.whole = slice_get_within is.whole is.at (entry Deleted is.request) is.stops in
    omega (
      arith,
      ap length is.all,
      length-append (take is.at is.whole) (entry Broken is.request ∷ []),
      length-take-le is.at is.whole (omega (arith, inside)),
      inside,
      whole_few adds deletes is.whole is.is_whole,
    )

-- a command that is taken has room
room_for_all : (old : ControllerView) (before : KernelView) (command : Command) → IsTaken old before command
    → length before.journal + most_requests old.state command ≤ journal_limit
room_for_all old before command taken =
    elim (cases_lt journal_limit (length before.journal + most_requests old.state command)) as (λ _. length before.journal + most_requests old.state command ≤ journal_limit) [
      | inl full ↦ absurd (none-some _ (sym taken.accepted ∙ accepted_without_room old.state before.journal command (accepted old before command taken) full))
      | inr room ↦ room
    ]

grew_few : (old : ControllerView) (before after : KernelView) (command : Command) (es : List Entry) → IsTaken old before command → after ≡ grown before es
    → length es ≤ most_requests old.state command → KeepsLimit old.state command before after
grew_few old before after command es taken grew few =
    let longer : length after.journal ≡ length before.journal + length es = ap (λ (k : KernelView). length k.journal) grew ∙ length-append before.journal es in record {
      asked = omega (arith, longer, few);
      within = λ _. omega (arith, longer, few, room_for_all old before command taken);
    }

same_few : (old : ControllerView) (before after : KernelView) (command : Command) → after ≡ before → KeepsLimit old.state command before after
same_few old before after command same =
    let as_long : length after.journal ≡ length before.journal = ap (λ (k : KernelView). length k.journal) same in record {
      asked = omega (arith, as_long);
      within = λ few. omega (arith, as_long, few);
    }

pub keeps_limit : (a : Result Answer AllocError) (command : Command) (old new : ControllerView) (before after : KernelView) → IsAnswered a command old new before after
    → KeepsLimit old.state command before after
keeps_limit (Ok answer.Done) command old new before after is =
    grew_few old before after command (done (adds_of old.state command) (deletes_of old.state command)) is.0 is.1 (omega (arith, done_length (adds_of old.state command) (deletes_of old.state command)))
keeps_limit (Ok (answer.Refused c)) command old new before after is = same_few old before after command is.2
keeps_limit (Ok (answer.KernelRefused q)) command old new before after is =
    grew_few old before after command is.1.1 is.0 is.1.3 (omega (arith, whole_few (adds_of old.state command) (deletes_of old.state command) is.1.1 (inr (is.1.0, is.1.2))))
keeps_limit (Ok (answer.Halted q)) command old new before after (inl is) = same_few old before after command is.1
keeps_limit (Ok (answer.Halted q)) command old new before after (inr is) =
    grew_few old before after command is.1.0 is.0 is.1.2 (halted_few (adds_of old.state command) (deletes_of old.state command) is.1.0 is.1.1)
keeps_limit (Err e) command old new before after is = same_few old before after command is.1

start_grew : (before after : KernelView) (es : List Entry) → after ≡ grown before es → before.journal ≡ [] → length after.journal ≡ length es
start_grew before after es grew none =
    ap (λ (k : KernelView). length k.journal) grew ∙ ap (λ (journal : List Entry). length (journal ++ es)) none

-- the start asks little
pub start_few : (r : Result ControllerView StartFault) (before after : KernelView) → IsStarted r before after → before.journal ≡ [] → length after.journal ≤ journal_limit
start_few (Ok c) before after is none = omega (arith, start_grew before after (done start_adds []) is.0 none, done_length start_adds [])
start_few (Err (fault.Refused q)) before after is none =
    omega (arith, start_grew before after is.1 is.3 none, whole_few start_adds [] is.1 (inr (is.0, is.2)))
start_few (Err (fault.Halted q)) before after is none = omega (arith, start_grew before after is.0 is.2 none, halted_few start_adds [] is.0 is.1)
start_few (Err (fault.Memory e)) before after is none = omega (arith, ap (λ (k : KernelView). length k.journal) is, ap length none)
