use Rattle.script_reader.proofs.WordLemmas.{behind_spaces, no_space_first}
use Rattle.script_reader.proofs.words.first_place.Goals as goal

pub returns-clause-words : goal.returns-clause-words
returns-clause-words c = λ column. rw c.space_len.ensures.spaces (behind_spaces column c.args.text.now)

pub returns-clause-at_word : goal.returns-clause-at_word
returns-clause-at_word c = rw c.space_len.ensures.spaces (no_space_first c.args.text.now)
