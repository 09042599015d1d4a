use Rattle.command_words.proofs.Reading.{IsReading}
use Rattle.command_words.proofs.list.read_list.Given as goal

abbrev pub invariant-loop-piece : goal.invariant-loop-piece
invariant-loop-piece l =
    (goal.iterator-loop-piece).can_next l.piece-iterator
    × (goal.iterator-loop-piece).is_finite l.piece-iterator
    × IsReading l.text l.piece-iterator l.last l.numbers.items
