-- The whole journal of a run, moment by moment.
use Rattle.std.specs.Prelude.{◌≡◌, ◌⊎◌, ℕ, List, []}
use Rattle.command_words.specs.Forms.{IsForm, run, soak}
use Rattle.kernel_model.specs.Journal.{Listed}
use Rattle.kernel_model.specs.declared.request.Entry.{Entry}
use Rattle.netd_session.specs.History.{History}
use Rattle.netd_session.specs.World.{World}
use Rattle.netd_session.specs.declared.end.Status.{Status}
use Rattle.netd_session.specs.declared.end.Status.TheVariants as status
use Rattle.netd_session.specs.declared.end.Stop.TheVariants as stop
use Rattle.netd_session.specs.declared.turn.Turn.{Turn}

-- the journal is the parts of the start and of the commands of a session that ended with this status
abbrev pub HasHistory : Status → World → Type 0
HasHistory s new = (turns : List Turn) × (lines : List (List ℕ)) × History s turns lines new.kernel.journal

-- memory ran out before anything was done
abbrev pub DidNothing : (old new : World) → Status → Type 0
DidNothing old new s = (s ≡ status.Stopped stop.Memory) × (new ≡ old)

-- The journal of the session that was run, where the words have a form with a session.
pub record HasRunHistory (words : List (List ℕ)) (old new : World) (s : Status) : Type 0 where
  pub run : (refuse breaks : List ℕ) → IsForm words (run refuse breaks) → HasHistory s new ⊎ DidNothing old new s
  pub soak : (seed count : ℕ) → IsForm words (soak seed count) → ((ended : Status) × HasHistory ended new) ⊎ DidNothing old new s

-- Refusals and breaks fall exactly where the two lists say; in `soak` there are none.
pub record FailsWhereListed (words : List (List ℕ)) (journal : List Entry) : Type 0 where
  pub run : (refuse breaks : List ℕ) → IsForm words (run refuse breaks) → Listed refuse breaks journal
  pub soak : (seed count : ℕ) → IsForm words (soak seed count) → Listed [] [] journal
