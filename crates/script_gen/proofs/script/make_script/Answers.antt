use Rattle.std.proofs.Common.{◌≡◌, ℕ, ◌+◌, ◌-◌, ◌<◌, List, ◌++◌, ◌∙◌, sym, ap, suc, append_assoc, arith}
use Rattle.script_gen.specs.Lines.{line_after, line_text}
use Rattle.script_gen.specs.Script.{lines_from}
use Rattle.script_gen.proofs.script.make_script.Goals as goal

-- of the lines that are left the first one, and the others
lines_from-next : (x count line : ℕ) → line < count → lines_from x (count - line) ≡ line_text x ++ lines_from (line_after x) (count - (line + 1))
lines_from-next x count line below = let next : count - line ≡ suc (count - (line + 1)) = omega arith in ap (lines_from x) next

-- one more line is written
written_next : (old new script : List ℕ) (x after count line : ℕ) → line < count → new ≡ old ++ line_text x → after ≡ line_after x
    → old ++ lines_from x (count - line) ≡ script → new ++ lines_from after (count - (line + 1)) ≡ script
written_next old new script x after count line below written moved before =
    ap (λ (ws : List ℕ). ws ++ lines_from after (count - (line + 1))) written
    ∙ append_assoc old (line_text x) (lines_from after (count - (line + 1)))
    ∙ ap (λ (y : ℕ). old ++ (line_text x ++ lines_from y (count - (line + 1)))) moved
    ∙ sym (ap (λ (ws : List ℕ). old ++ ws) (lines_from-next x count line below))
    ∙ before

pub loop-preserved : goal.loop-preserved
loop-preserved c =
    written_next c.loop.script.items c.write_line.new.out.items _ c.loop.draws.number c.write_line.new.draws.number c.args.count c.loop.counter
    (omega arith) c.in_ok-write_line.ensures.text.written c.write_line.ensures.after c.loop.invariant
