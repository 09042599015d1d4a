use Rattle.std.proofs.Common.{ℕ, ◌+◌, ◌∙◌, ap}
use Rattle.std.specs.Prelude.{codes}
use Rattle.number_text.proofs.Appending.{both, rewritten}
use Rattle.script_gen.specs.Draws.{drawn}
use Rattle.script_gen.specs.Lines.{words_and_number}
use Rattle.script_gen.specs.Words.{permission_words}
use Rattle.script_gen.proofs.line.write_permission.Goals as goal

pub returns-clause-text : goal.returns-clause-text
returns-clause-text c =
    both _
    (rewritten (ap (λ (n : ℕ). words_and_number (codes "permission network ") (100 + n)) c.draw-net.ensures.drawn) c.in_ok-write_words_and_number.ensures)
    (rewritten (c.permission_words.ensures ∙ ap permission_words (c.draw-permission.ensures.drawn ∙ ap (λ (x : ℕ). drawn x 3) c.draw-net.ensures.after)) c.append_bytes.ensures)
