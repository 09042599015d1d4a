use Rattle.word_text.proofs.RangeTexts.{range_cut, range_gives}
use Rattle.word_text.proofs.read.read_range.Goals as goal

pub returns-in_err-read_uid : goal.returns-in_err-read_uid
returns-in_err-read_uid c = rw c.from_residual-in_err-read_uid.ensures
    (λ users spells. c.in_err-read_uid.ensures users.first (range_cut _ _ _ users c.in_ok-first.ensures.0 c.in_ok-first.ensures.1 spells).0)

pub returns-in_err-read_uid-2 : goal.returns-in_err-read_uid-2
returns-in_err-read_uid-2 c = rw c.from_residual-in_err-read_uid-2.ensures
    (λ users spells. c.in_err-read_uid-2.ensures users.last (range_cut _ _ _ users c.in_ok-first.ensures.0 c.in_ok-first.ensures.1 spells).1)

pub returns : goal.returns
returns c = range_gives _ _ _ _ _ c.new.result c.in_ok-first.ensures.0 c.in_ok-first.ensures.1
    c.in_ok-read_uid.ensures c.in_ok-read_uid-2.ensures c.new.ensures.none.0 c.new.ensures.first c.new.ensures.last
