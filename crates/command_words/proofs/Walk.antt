-- The words after `run`, taken one at a time: what stands between the forms and what `clap` does.
use Rattle.std.proofs.Common.{◌≡◌, ◌∙◌, ◌==◌, Bool, true, false, refl, sym, ap, find, List, [], ◌∷◌, Option, Some, None, codes, if◌then◌else◌, is_some, option_map}
use Rattle.std.specs.Str.{bytes_eq}
use Rattle.command_words.specs.Forms.{Text}
use Rattle.command_words.specs.Read.{Given, Reading, alone_given, options, soak_given, wordless_named}
use Rattle.command_words.specs.Refused.{is_refused}

-- the two options of `run`
pub data Which : Type 0 where
  refuse : Which
  broken : Which

-- what a word is to `run`: an option with or without its value, another `--name`, or a plain word
pub data Word : Type 0 where
  plain : Word
  stranger : Word
  bare : Which → Word
  attached : Which → Text → Word

-- what follows the prefix
abbrev pub after_prefix : Text → Text → Option Text
after_prefix [] text = Some text
after_prefix (p ∷ ps) [] = None
after_prefix (p ∷ ps) (x ∷ xs) = if x == p then after_prefix ps xs else None

-- a word that is no option of `run`, from what follows its first two hyphens
abbrev pub other_word : Option Text → Word
other_word (Some (x ∷ xs)) = stranger
other_word _ = plain

-- the value of `--refuse=`, that of `--break=`, or neither
abbrev pub attached_word : Option Text → Option Text → Text → Word
attached_word (Some t) b w = attached refuse t
attached_word None (Some t) w = attached broken t
attached_word None None w = other_word (after_prefix (codes "--") w)

abbrev pub text_word : Text → Word
text_word w = if bytes_eq (codes "--refuse") w then bare refuse
    else (if bytes_eq (codes "--break") w then bare broken
    else attached_word (after_prefix (codes "--refuse=") w) (after_prefix (codes "--break=") w) w)

abbrev pub word_of : Text → Word
word_of w = if is_refused w then stranger else text_word w

abbrev pub given_of : Given → Which → Option Text
given_of g refuse = g.refuses
given_of g broken = g.breaks

abbrev pub with_given : Given → Which → Text → Given
with_given g refuse t = record g { refuses = Some t }
with_given g broken t = record g { breaks = Some t }

abbrev pub nothing_given : Given
nothing_given = record { refuses = None; breaks = None }

abbrev pub given_once : Given → Which → Text → (Given → Option Given) → Option Given
given_once g o t next = if is_some (given_of g o) then None else next (with_given g o t)

-- a word where no option waits for its value
abbrev pub idle_step : Given → Word → (Option Which → Given → Option Given) → Option Given
idle_step g (bare o) next = next (Some o) g
idle_step g (attached o t) next = given_once g o t (next None)
idle_step g _ next = None

-- a word where the option o waits for its value
abbrev pub value_step : Which → Given → Word → Text → (Option Which → Given → Option Given) → Option Given
value_step o g plain w next = given_once g o w (next None)
value_step o g _ w next = None

abbrev pub run_step : Option Which → Given → Text → (Option Which → Given → Option Given) → Option Given
run_step None g w next = idle_step g (word_of w) next
run_step (Some o) g w next = value_step o g (word_of w) w next

abbrev pub run_end : Option Which → Given → Option Given
run_end None g = Some g
run_end (Some o) g = None

-- what is given once the words after `run` are taken, from the option that waits for its value, if one
-- does, and what was given before
abbrev pub run_from : Option Which → Given → List Text → Option Given
run_from waiting g [] = run_end waiting g
run_from waiting g (w ∷ ws) = run_step waiting g w (λ o h. run_from o h ws)

abbrev pub run_given : List Text → Option Given
run_given ws = run_from None nothing_given ws

-- what the words give, where they have a form but for the texts of the lists
abbrev pub words_given : List Text → Option Reading
words_given [] = None
words_given (w ∷ rest) = if bytes_eq (codes "run") w then option_map options (run_given rest)
    else (if bytes_eq (codes "soak") w then soak_given rest else alone_given (wordless_named w) rest)

-- what is found passes
pub find-passes : {X : Type 0} (p : X → Bool) (xs : List X) (x : X) → find p xs ≡ Some x → p x ≡ true
find-passes p [] x e = absurd (let none : None ≡ Some x = e in cc)
find-passes p (y ∷ ys) x e = by (p y) refl e (find-passes p ys x)
  where
    by : (b : Bool) → p y ≡ b → (if b then Some y else find p ys) ≡ Some x → (find p ys ≡ Some x → p x ≡ true) → p x ≡ true
    by true passes found rest = let same : y ≡ x = cc in ap p (sym same) ∙ passes
    by false fails found rest = rest found
