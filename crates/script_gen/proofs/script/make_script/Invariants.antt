use Rattle.std.proofs.Common.{◌≡◌, ◌-◌, ◌++◌}
use Rattle.script_gen.specs.Script.{lines_from, script_text}
use Rattle.script_gen.proofs.script.make_script.Given as goal

-- what is written, and the lines that are left, are the script
abbrev pub invariant-loop : goal.invariant-loop
invariant-loop l = l.script.items ++ lines_from l.draws.number (l.fn.count - l.counter) ≡ script_text l.fn.seed l.fn.count
