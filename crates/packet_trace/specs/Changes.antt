-- The requests after which a packet's verdict differs.
use Rattle.std.specs.Prelude.{ℕ, ◌+◌, if◌then◌else◌, List, [], ◌∷◌, take, drop, Option, Some, None}
use Rattle.kernel_model.specs.State.{KernelState}
use Rattle.kernel_model.specs.Walk.{walk}
use Rattle.kernel_model.specs.Journal.{act, replay}
use Rattle.kernel_model.specs.declared.request.Entry.{Entry}
use Rattle.rule_match.specs.declared.packet.Packet.{Packet}
use Rattle.rule_match.specs.declared.verdict.Verdict.{Verdict}
use Rattle.rule_match.specs.Verdict.{same_verdict}

-- each number of an entry, after n of them, after which the walk differs from before it, with the walk
abbrev pub changes : Packet → KernelState → ℕ → List Entry → List (ℕ × Verdict)
changes p k n [] = []
changes p k n (e ∷ es) =
    if same_verdict (walk k p) (walk (act k e.kind e.request) p)
    then changes p (act k e.kind e.request) (n + 1) es
    else (n + 1, walk (act k e.kind e.request) p) ∷ changes p (act k e.kind e.request) (n + 1) es

-- those of a journal past a length
abbrev pub changes_since : Option Packet → ℕ → List Entry → List (ℕ × Verdict)
changes_since None since journal = []
changes_since (Some p) since journal = changes p (replay (take since journal)) since (drop since journal)

-- what a request of this number is noted as, by the verdicts before and after it
abbrev pub change_by : Option Verdict → Option Verdict → ℕ → List (ℕ × Verdict)
change_by (Some before) (Some after) number = if same_verdict before after then [] else (number, after) ∷ []
change_by (Some before) None number = []
change_by None after number = []
