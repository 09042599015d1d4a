-- What carrying out a plan does to a kernel.
use Rattle.std.specs.Prelude.{◌≡◌, ℕ, ◌+◌, List, length}
use Rattle.kernel_model.specs.View.{KernelView, grown, state_of, refusals_of, breaks_of}
use Rattle.kernel_model.specs.Segment.{done, IsUndoneAt, IsHalted}
use Rattle.kernel_model.specs.PlanView.{PlanView}
use Rattle.kernel_model.specs.declared.request.Entry.{Entry}
use Rattle.plan_exec.specs.declared.Carried.{Carried}
use Rattle.plan_exec.specs.declared.Carried.TheVariants.{Done, Undone, Halted}

-- the form of the entries that an answer tells, after a journal of n entries
abbrev pub IsForm : PlanView → ℕ → Carried → List Entry → Type 0
IsForm plan n Done entries = entries ≡ done plan.adds plan.deletes
IsForm plan n (Undone request) entries = (k : ℕ) × IsUndoneAt plan.adds k entries × (request ≡ n + k + 1)
IsForm plan n (Halted request) entries = IsHalted plan.adds plan.deletes entries × (request ≡ n + length entries)

-- The journal grew by entries of that form, and nothing else changed.
pub record Carries (plan : PlanView) (old new : KernelView) (result : Carried) : Type 0 where
  pub entries : List Entry
  pub grew : new ≡ grown old entries
  pub form : IsForm plan (length old.journal) result entries

-- Done where nothing was refused and nothing broke, undone where an addition was refused and nothing broke, and halted where a deletion broke.
abbrev pub IsCaused : KernelView → KernelView → Carried → Type 0
IsCaused old new Done = (refusals_of new ≡ refusals_of old) × (breaks_of new ≡ breaks_of old)
IsCaused old new (Undone request) = (refusals_of new ≡ refusals_of old + 1) × (breaks_of new ≡ breaks_of old)
IsCaused old new (Halted request) = breaks_of new ≡ breaks_of old + 1

-- after an undone plan the kernel is the one from before
abbrev pub IsAsBefore : KernelView → KernelView → Carried → Type 0
IsAsBefore old new Done = Unit {0}
IsAsBefore old new (Undone request) = state_of new ≡ state_of old
IsAsBefore old new (Halted request) = Unit {0}
