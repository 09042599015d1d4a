-- The whole journal of a session, moment by moment: a cut of it into the parts that the start and each command took.
use Rattle.std.specs.Prelude.{◌≡◌, ◌≢◌, ◌⊎◌, ◌↔◌, ℕ, ◌+◌, ◌≤◌, true, List, [], ◌∷◌, ◌++◌, length, take, filter, Option, None, Some, Result, Ok}
use Rattle.std.specs.declared.alloc.AllocError.{AllocError}
use Rattle.std.specs.List.{AllByRecursion, Contains}
use Rattle.kernel_model.specs.Journal.{is_broken, is_refused}
use Rattle.kernel_model.specs.Moments.{moment}
use Rattle.kernel_model.specs.Walk.{walk}
use Rattle.kernel_model.specs.declared.request.Entry.{Entry}
use Rattle.net_control.specs.Applied.{code_of}
use Rattle.policy_meaning.specs.Policy.{IsBarred, policy}
use Rattle.policy_meaning.specs.Promise.{StaysIn}
use Rattle.policy_state.specs.Step.{changed}
use Rattle.policy_state.specs.View.{StateView, start}
use Rattle.commands.specs.declared.command.Command.{Command}
use Rattle.rule_law.specs.Plans.{GoesOver, GoesOverAndBack}
use Rattle.rule_match.specs.declared.packet.Packet.{Packet}
use Rattle.rule_match.specs.declared.verdict.Verdict.{Verdict}
use Rattle.script_reader.specs.Lines.{Spells}
use Rattle.script_reader.specs.declared.line.Line.{Line}
use Rattle.script_reader.specs.declared.line.Line.TheVariants as line
use Rattle.turn_text.specs.declared.answer.Answer.{Answer}
use Rattle.turn_text.specs.declared.answer.Answer.TheVariants as answer
use Rattle.netd_session.specs.EndedView.{EndedView}
use Rattle.netd_session.specs.Ends.{IsSession}
use Rattle.netd_session.specs.Stops.{ends_with_input, status_of}
use Rattle.netd_session.specs.World.{World}
use Rattle.netd_session.specs.declared.end.Status.{Status}
use Rattle.netd_session.specs.declared.turn.Said.TheVariants as said
use Rattle.netd_session.specs.declared.turn.Turn.{Turn}

-- the part of a journal that the start or one command took
pub record Part : Type 0 where
  -- none: the start
  pub command : Option Command
  -- what became of it; an error: memory ran out, and nothing was asked
  pub answer : Result Answer AllocError
  -- the state of the policy before it
  pub old : StateView
  -- how many entries stand before it, and how many are its own
  pub from : ℕ
  pub count : ℕ

-- the state that it asks for
abbrev pub asked_of : StateView → Option Command → StateView
asked_of old None = old
asked_of old (Some command) = changed old command

abbrev pub asked : Part → StateView
asked p = asked_of p.old p.command

-- the state after it
abbrev pub left_by : Result Answer AllocError → (old asked : StateView) → StateView
left_by (Ok answer.Done) old asked = asked
left_by _ old asked = old

abbrev pub behind : Part → StateView
behind p = left_by p.answer p.old (asked p)

-- no deletion broke
abbrev pub Runs : Part → Type 0
Runs p = (request : ℕ) → p.answer ≢ Ok (answer.Halted request)

-- each part begins where the one before it ended, in the journal and in the policy's state
abbrev pub Follow : (at : ℕ) (s : StateView) → List Part → (end : ℕ) (last : StateView) → Type 0
Follow at s [] end last = (end ≡ at) × (last ≡ s)
Follow at s (p ∷ parts) end last =
    (p.from ≡ at) × (p.old ≡ s) × Follow (p.from + p.count) (behind p) parts end last

-- nothing is asked after a deletion that broke
abbrev pub AllRunButLast : List Part → Type 0
AllRunButLast [] = Unit {0}
AllRunButLast (p ∷ []) = Unit {0}
AllRunButLast (p ∷ (q ∷ parts)) = Runs p × AllRunButLast (q ∷ parts)

-- the turn of a line with this number that says this answer, with the journal as long as after the part
abbrev pub turn_of_part : ℕ → Answer → Part → Turn
turn_of_part n a p = record { line = n; said = said.Answered a; journal_end = p.from + p.count }

-- After the start's part stand those of the commands that these lines say, in order, each with what its turn says; a line
-- that says something else has none.
pub data AreSaid : List (List ℕ) → List Part → List Turn → Type 0 where
  the_start : (p : Part) → p.command ≡ None → AreSaid [] (p ∷ []) []
  a_command : (texts : List (List ℕ)) (parts : List Part) (turns : List Turn)
      → AreSaid texts parts turns → (text : List ℕ) (command : Command) (p : Part) (a : Answer)
      → Spells text (line.Control command) → p.command ≡ Some command → p.answer ≡ Ok a
      → AreSaid (texts ++ text ∷ []) (parts ++ p ∷ [])
      (turns ++ turn_of_part (length texts + 1) a p ∷ [])
  another : (texts : List (List ℕ)) (parts : List Part) (turns : List Turn)
      → AreSaid texts parts turns → (text : List ℕ) (l : Line) (more : List Turn)
      → Spells text l → ((command : Command) → l ≢ line.Control command)
      → AreSaid (texts ++ text ∷ []) parts (turns ++ more)

-- where the packet goes at the i-th moment of the part
abbrev pub way : List Entry → Part → Packet → ℕ → Verdict
way journal p packet i = walk (moment journal (p.from + i)) packet

-- how many additions were refused, and how many deletions broke, in so many entries
abbrev pub refused_in : List Entry → ℕ → ℕ
refused_in journal i = length (filter is_refused (take i journal))

abbrev pub broken_in : List Entry → ℕ → ℕ
broken_in journal i = length (filter is_broken (take i journal))

abbrev pub RefusesNone : List Entry → Part → Type 0
RefusesNone journal p = refused_in journal (p.from + p.count) ≡ refused_in journal p.from

abbrev pub BreaksNone : List Entry → Part → Type 0
BreaksNone journal p = broken_in journal (p.from + p.count) ≡ broken_in journal p.from

-- What is so of each part of the whole journal.
pub record Holds (journal : List Entry) (p : Part) : Type 0 where
  -- at every moment each packet goes by the policy before or after it: over once, and back at most once
  pub keeps_policy : (packet : Packet) → GoesOverAndBack p.count (way journal p packet)
      (policy p.old packet) (policy (asked p) packet)
  -- and never back where no addition was refused
  pub once : RefusesNone journal p → (packet : Packet) → GoesOver p.count (way journal p packet)
      (policy p.old packet) (policy (asked p) packet)
  -- what a user other than root who is locked down in both states sends unprotected leaves by no link but one
  -- of a VPN that is secure in one of them
  pub keeps_lockdown : (packet : Packet) → IsBarred p.old packet → IsBarred (asked p) packet
      → packet.uid.number ≢ 0 → (i : ℕ) → i ≤ p.count
      → StaysIn (p.old.networks ++ (asked p).networks) (way journal p packet i)
  -- after it each packet goes where the policy says
  pub sends : Runs p → (packet : Packet)
      → way journal p packet p.count ≡ policy (behind p) packet
  -- after a refusal by the kernel its rules, their order and its tables are the very ones from before
  pub as_before : (request : ℕ) → p.answer ≡ Ok (answer.KernelRefused request)
      → moment journal (p.from + p.count) ≡ moment journal p.from
  -- carried out exactly where the policy accepts, the journal has room, and nothing was refused or broke
  pub carried_out : (command : Command) → p.command ≡ Some command
      → (p.answer ≡ Ok answer.Done)
      ↔ ((code_of p.old (take p.from journal) command ≡ None)
      × RefusesNone journal p × BreaksNone journal p)

-- A moment of the whole journal, after its first i entries, lies in a part, and packets go by it.
pub record LiesIn (journal : List Entry) (parts : List Part) (i : ℕ) : Type 0 where
  pub part : Part
  pub stands : Contains parts part
  pub begun : part.from ≤ i
  pub inside : i ≤ part.from + part.count
  -- each packet goes where the policy before or after the part sends it
  pub keeps_policy : (packet : Packet)
      → (walk (moment journal i) packet ≡ policy part.old packet)
      ⊎ (walk (moment journal i) packet ≡ policy (asked part) packet)
  -- what a user other than root who is locked down in both states sends unprotected leaves by no link but one
  -- of a VPN that is secure in one of them
  pub keeps_lockdown : (packet : Packet) → IsBarred part.old packet → IsBarred (asked part) packet
      → packet.uid.number ≢ 0
      → StaysIn (part.old.networks ++ (asked part).networks) (walk (moment journal i) packet)

-- The journal is the parts of the start and of the commands, one after the other.
pub record History (s : Status) (turns : List Turn) (lines : List (List ℕ))
    (journal : List Entry) : Type 0 where
  pub parts : List Part
  pub last : StateView
  -- the lines that were answered, and those after them
  pub answered : List (List ℕ)
  pub unanswered : List (List ℕ)
  pub cut : lines ≡ answered ++ unanswered
  -- after 0, 4 and 9 no line that was met is left unanswered
  pub all_answered : ends_with_input s ≡ true → unanswered ≡ []
  pub said : AreSaid answered parts turns
  pub follow : Follow 0 start parts (length journal) last
  pub halted : AllRunButLast parts
  pub each : AllByRecursion (Holds journal) parts
  pub moments : (i : ℕ) → i ≤ length journal → LiesIn journal parts i

-- whatever lines an account of the session names
abbrev pub HasHistory : (old new : World) → EndedView → Type 0
HasHistory old new ended =
    (s : IsSession old new ended)
    → History (status_of ended.result) ended.turns s.lines new.kernel.journal
