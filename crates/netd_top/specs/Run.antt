-- What the program does, by the form of its words.
use Rattle.std.specs.Prelude.{◌≡◌, ◌⊎◌, ◌≤◌, ℕ, List, ◌∷◌, [], ◌++◌, codes, Some, Ok, Err}
use Rattle.command_words.specs.Forms.{FormView, IsForm, run, soak, wordless}
use Rattle.command_words.specs.declared.form.Wordless.TheVariants.{Check}
use Rattle.kernel_model.specs.View.{KernelView}
use Rattle.net_io.specs.Streams.{SinkView}
use Rattle.netd_session.specs.Checks.{IsCheck}
use Rattle.netd_session.specs.EndedView.{EndedView}
use Rattle.netd_session.specs.Ends.{IsSession}
use Rattle.netd_session.specs.Stops.{End, goes_on, status_of}
use Rattle.netd_session.specs.Telling.{Tells}
use Rattle.netd_session.specs.World.{World, streams_of}
use Rattle.netd_session.specs.declared.end.Status.{Status}
use Rattle.netd_session.specs.declared.end.Status.TheVariants as status
use Rattle.netd_session.specs.declared.end.Stop.TheVariants as stop
use Rattle.netd_top.specs.Soak.{Soaks}

-- a kernel that refuses and breaks what these lists say
abbrev pub armed : KernelView → List ℕ → List ℕ → KernelView
armed kernel refuse breaks =
    record kernel { lists = Some (record { refuse = refuse; breaks = breaks }) }

-- the world with its kernel armed so
abbrev pub with_lists : World → List ℕ → List ℕ → World
with_lists w refuse breaks = record w { kernel = armed w.kernel refuse breaks }

-- `run`: a session on the kernel that was handed in, armed with the lists
abbrev pub DoesForm : FormView → (old new : World) → Status → Type 0
DoesForm (run refuse breaks) old new s =
    (ended : EndedView) × IsSession (with_lists old refuse breaks) new ended
    × (s ≡ status_of ended.result)
-- `check`: the canonical lines of the source, up to a bad one; the kernel stays as it was
DoesForm (wordless Check) old new s =
    (result : End) × IsCheck (streams_of old) (streams_of new) result
    × (s ≡ status_of result) × (new.kernel ≡ old.kernel)
-- `soak`: a session over memory on a made script, and its sums; of the source nothing is read
DoesForm (soak seed count) old new s =
    Soaks seed count old.kernel new.kernel old.sink new.sink s × (new.source ≡ old.source)

-- at most 100,000 lines are drawn
abbrev pub IsShort : FormView → Type 0
IsShort (run refuse breaks) = Unit {0}
IsShort (wordless form) = Unit {0}
IsShort (soak seed count) = count ≤ 100000

-- what is printed where the words have no form
abbrev pub usage_text : List ℕ
usage_text = codes "usage: netd_run run [--refuse LIST] [--break LIST]" ++ 10
    ∷ codes "       netd_run check" ++ 10
    ∷ codes "       netd_run soak SEED COUNT" ++ 10 ∷ []

-- the status once the usage text was told, or a prefix of it
abbrev pub usage_status : End → Status
usage_status (Ok u) = status.BadWords
usage_status (Err s) = status.Stopped s

-- what telling the usage text does to a sink
pub record TellsText (s : Status) (old new : SinkView) : Type 0 where
  pub result : End
  pub told : Tells usage_text goes_on result old new
  pub status_is : s ≡ usage_status result

-- the usage text is written; nothing is read, and the kernel stays as it was
pub record TellsUsage (old new : World) (s : Status) : Type 0 where
  pub told : TellsText s old.sink new.sink
  pub rest : new ≡ record old { sink = new.sink }

-- what the program does with these words; where memory runs out before anything was done, all stays as it was
abbrev pub DoesRun : List (List ℕ) → (old new : World) → Status → Type 0
DoesRun words old new s =
    ((form : FormView) × IsForm words form × DoesForm form old new s)
    ⊎ ((((form : FormView) → IsForm words form → ⊥) × TellsUsage old new s)
    ⊎ ((s ≡ status.Stopped stop.Memory) × (new ≡ old)))
