-- The texts of a session's answers, other than reports.
use Rattle.std.specs.Prelude.{ℕ, ◌<◌, ◌^◌, List, [], ◌∷◌, ◌++◌, codes}
use Rattle.std.specs.Fmt.{decimal}
use Rattle.net_names.specs.Code.{text_of}
use Rattle.net_names.specs.declared.code.Code.{Code}
use Rattle.turn_text.specs.declared.answer.Answer.{Answer}
use Rattle.turn_text.specs.declared.answer.Answer.TheVariants as answer

-- a line's answer: its number and the text
abbrev pub numbered : ℕ → List ℕ → List ℕ
numbered n text = decimal n ++ codes ": " ++ text

abbrev pub line_feed : List ℕ
line_feed = 10 ∷ []

-- some words, a number and a line feed
abbrev pub number_line : List ℕ → ℕ → List ℕ
number_line words number = words ++ decimal number ++ line_feed

abbrev pub refused_text : Code → List ℕ
refused_text code = codes "refused " ++ text_of code ++ line_feed

abbrev pub answer_text : Answer → List ℕ
answer_text answer.Done = codes "done" ++ line_feed
answer_text (answer.Refused code) = refused_text code
answer_text (answer.KernelRefused request) = number_line (codes "kernel refused request ") request
answer_text (answer.Halted request) = number_line (codes "halted at request ") request

-- a line that is none of the grammar
abbrev pub bad_text : ℕ → List ℕ
bad_text column = number_line (codes "bad line at column ") column

abbrev pub start_refused_text : ℕ → List ℕ
start_refused_text request = number_line (codes "start: refused at request ") request

abbrev pub start_halted_text : ℕ → List ℕ
start_halted_text request = number_line (codes "start: halted at request ") request

-- the request that the answer tells has a number that the journal can count
abbrev pub IsCounted : Answer → Type 0
IsCounted answer.Done = Unit {0}
IsCounted (answer.Refused code) = Unit {0}
IsCounted (answer.KernelRefused request) = request < 2 ^ 64
IsCounted (answer.Halted request) = request < 2 ^ 64

-- room for the answer to any command
abbrev pub answer_room : ℕ
answer_room = 80

-- room for the text of a start that failed
abbrev pub start_room : ℕ
start_room = 64
