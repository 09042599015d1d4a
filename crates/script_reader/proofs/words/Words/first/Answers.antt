use Rattle.std.proofs.Common.{◌<◌, arith}
use Rattle.std.specs.List.{prefix_len}
use Rattle.script_reader.specs.Words.{is_no_space}
use Rattle.script_reader.proofs.WordLemmas.{first_and_others}
use Rattle.script_reader.proofs.words.Words.first.Goals as goal

pub returns : goal.returns
returns c =
    let some : 0 < prefix_len is_no_space c.args.self.now.rest.now = omega arith in
    rw c.args.self.now.word (first_and_others _ c.args.self.now.rest.now c.args.self.now.at_word some)
