-- The moments of a journal: a packet may be sent between any two requests.
use Rattle.std.specs.Prelude.{ℕ, List, take}
use Rattle.kernel_model.specs.State.{KernelState}
use Rattle.kernel_model.specs.Journal.{replay, replay_from}
use Rattle.kernel_model.specs.declared.request.Entry.{Entry}

-- the kernel after the first i entries
abbrev pub moment : List Entry → ℕ → KernelState
moment journal i = replay (take i journal)

-- the same, of the entries that follow on a kernel in this state
abbrev pub moment_from : KernelState → List Entry → ℕ → KernelState
moment_from k entries i = replay_from k (take i entries)
