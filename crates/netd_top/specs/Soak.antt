-- What `soak` does: a session over memory on a made script, and the line that sums it up.
use Rattle.std.specs.Prelude.{◌≡◌, ◌⊎◌, ℕ, Bool, true, false, List, [], ◌∷◌, ◌++◌, codes, filter, length, Some}
use Rattle.std.specs.Fmt.{decimal}
use Rattle.kernel_model.specs.State.{rules_of}
use Rattle.kernel_model.specs.View.{KernelView, state_of}
use Rattle.netd_session.specs.EndedView.{EndedView}
use Rattle.netd_session.specs.Ends.{IsSession}
use Rattle.netd_session.specs.Stops.{End, goes_on, status_of}
use Rattle.netd_session.specs.Telling.{MakesAndTells}
use Rattle.netd_session.specs.World.{World, world}
use Rattle.netd_session.specs.declared.end.Status.{Status}
use Rattle.netd_session.specs.declared.end.Status.TheVariants as status
use Rattle.netd_session.specs.declared.end.Stop.TheVariants as stop
use Rattle.netd_session.specs.declared.turn.Said.{Said}
use Rattle.netd_session.specs.declared.turn.Said.TheVariants as said
use Rattle.netd_session.specs.declared.turn.Turn.{Turn}
use Rattle.net_io.specs.Streams.{SinkView}
use Rattle.netd_top.specs.declared.soak.Sums.{Sums}
use Rattle.prefixes.specs.declared.addr.Family.TheVariants as family
use Rattle.script_gen.specs.Script.{script_text}
use Rattle.turn_text.specs.declared.answer.Answer.TheVariants as answer

abbrev pub says_done : Said → Bool
says_done (said.Answered answer.Done) = true
says_done _ = false

abbrev pub says_refused : Said → Bool
says_refused (said.Answered (answer.Refused code)) = true
says_refused _ = false

-- the sums of a session: its turns, and the kernel's rules for IPv4 and its journal after it
abbrev pub sums_of : List Turn → KernelView → Sums
sums_of turns kernel = record {
  turns = length turns;
  done = length (filter (λ t. says_done t.said) turns);
  refused = length (filter (λ t. says_refused t.said) turns);
  rules = length (rules_of (state_of kernel) family.V4);
  requests = length kernel.journal;
}

-- words, and a number after them
abbrev pub count_text : List ℕ → ℕ → List ℕ
count_text words n = words ++ decimal n

abbrev pub turns_text : Sums → List ℕ
turns_text s = count_text (codes "turns ") s.turns ++ count_text (codes " done ") s.done ++ count_text (codes " refused ") s.refused

abbrev pub kernel_text : Sums → List ℕ
kernel_text s = count_text (codes " rules ") s.rules ++ count_text (codes " requests ") s.requests ++ 10 ∷ []

abbrev pub summary : Sums → List ℕ
summary s = turns_text s ++ kernel_text s

-- the world of that session: a source that holds the script, an empty sink, and the kernel with empty lists
abbrev pub made_world : KernelView → List ℕ → World
made_world kernel script = world
    (record { left = Some script; faults = 0; ended = false })
    (record { bytes = Some []; faults = 0 })
    (record kernel { lists = Some (record { refuse = []; breaks = [] }) })

-- a session over memory, of which the kernel is left
pub record HasRunOver (script : List ℕ) (old new : KernelView) (ended : EndedView) : Type 0 where
  pub after : World
  pub did : IsSession (made_world old script) after ended
  pub kernel_is : new ≡ after.kernel

-- the session reached the end of its script and its sums were told; or memory ran out in it, and nothing was told
abbrev pub SaysSums : EndedView → KernelView → Status → (old new : SinkView) → Type 0
SaysSums ended kernel s old new =
    ((result : End) × (ended.result ≡ goes_on) × MakesAndTells (summary (sums_of ended.turns kernel)) goes_on result old new
    × (s ≡ status_of result))
    ⊎ ((s ≡ status.Stopped stop.Memory) × (new ≡ old))

-- what `soak` did to a kernel and a sink
pub record HasSoaked (seed count : ℕ) (old new : KernelView) (sink sink_after : SinkView) (s : Status) : Type 0 where
  pub ended : EndedView
  pub ran : HasRunOver (script_text seed count) old new ended
  pub told : SaysSums ended new s sink sink_after

-- or there was no memory for the script, and nothing was done
abbrev pub Soaks : (seed count : ℕ) → (old new : KernelView) → (sink sink_after : SinkView) → Status → Type 0
Soaks seed count old new sink sink_after s =
    HasSoaked seed count old new sink sink_after s ⊎ ((s ≡ status.Stopped stop.Memory) × (new ≡ old) × (sink_after ≡ sink))
