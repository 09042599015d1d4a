-- What is told of a line other than a command.
use Rattle.std.specs.Prelude.{◌≡◌, ℕ, List, [], ◌∷◌}
use Rattle.net_names.specs.declared.code.Code.{Code}
use Rattle.turn_text.specs.Texts.{answer_text, numbered, refused_text}
use Rattle.turn_text.specs.declared.answer.Answer.TheVariants as answer
use Rattle.netd_session.specs.Turns.{Standing, turn_of}
use Rattle.netd_session.specs.declared.turn.Said.{Said}
use Rattle.netd_session.specs.declared.turn.Said.TheVariants as said
use Rattle.netd_session.specs.declared.turn.Turn.{Turn}

-- a line after which the session stands like this, by what it says and by its text; where that is as before it, the line
-- changes nothing
abbrev pub IsTold : Said → List ℕ → ℕ → (next e : Standing) → List Turn → List ℕ → Type 0
IsTold what text n next e turns out = (e ≡ next) × (turns ≡ turn_of n what e ∷ [])
    × (out ≡ numbered n text)

-- a line that is refused with this code, and changes nothing
abbrev pub IsRefused : Code → ℕ → (s e : Standing) → List Turn → List ℕ → Type 0
IsRefused c n s e turns out =
    IsTold (said.Answered (answer.Refused c)) (refused_text c) n s e turns out

-- done, after which the session stands like this
abbrev pub IsDone : ℕ → (next e : Standing) → List Turn → List ℕ → Type 0
IsDone n next e turns out =
    IsTold (said.Answered answer.Done) (answer_text answer.Done) n next e turns out
