use Rattle.std.proofs.Common.{◌≤◌, length, arith}
use Rattle.word_text.proofs.Marks.{mark_gives}
use Rattle.word_text.proofs.read.read_mark.Goals as goal

pub returns : goal.returns
returns c =
    let few : length c.in_ok-digits.digits.now ≤ 8 = omega arith in
    mark_gives _ _ c.read_bits.result c.in_ok-digits.ensures few c.read_bits.ensures.some c.read_bits.ensures.none
