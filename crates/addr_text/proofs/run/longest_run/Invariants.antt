use Rattle.std.proofs.Common.{◌≡◌, ◌+◌, drop}
use Rattle.addr_text.specs.Canonical.{longest_run, zeros_of}
use Rattle.addr_text.proofs.run.longest_run.Given as goal

abbrev pub invariant-loop-start : goal.invariant-loop-start
invariant-loop-start l =
    (l.zeros ≡ zeros_of (drop l.start l.groups))
    × (l.longest.start ≡ l.start + (longest_run (drop l.start l.groups)).start)
    × (l.longest.len ≡ (longest_run (drop l.start l.groups)).len)
