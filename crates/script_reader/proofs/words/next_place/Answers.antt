use Rattle.script_reader.proofs.WordLemmas.{at_word_behind, behind_both}
use Rattle.script_reader.proofs.words.next_place.Goals as goal

pub returns-clause-words : goal.returns-clause-words
returns-clause-words c = λ column. behind_both column _ _ c.args.text.now c.requires.at_word c.requires.word c.space_len.ensures.spaces

pub returns-clause-at_word : goal.returns-clause-at_word
returns-clause-at_word c = at_word_behind _ _ c.args.text.now c.space_len.ensures.spaces
