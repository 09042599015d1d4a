-- Which words the command takes, and what it makes of them.
use Rattle.std.proofs.Common.{◌≡◌, ◌∙◌, Bool, true, false, List, [], ◌∷◌, Option, Some, None, codes, refl, sym, ap, find, fold, is_some, option_map}
use Rattle.std.specs.Option.{option_map_or}
use Rattle.std.specs.Str.{bytes_eq}
use Rattle.clap.specs.Lexer.{long_of, short_of}
use Rattle.clap.specs.Kinds.{Kinds, or_else}
use Rattle.clap.specs.Walk.{Row, Rule, Walk, answers_to, nothing_held, walk_from, walked, settled, settled_rows, used, idle, option, finished, rows_after}
use Rattle.clap.specs.Simple.{App, Shape, filled, built, built_leaf, inherited, label_of, marked_built, with_leaf_noted, names_of, entered, rows_at, subcommand_of}
use Rattle.clap.specs.Faults.{fault_of, level_fault, walk_fault, entered_fault, settle_fault, defaults_fault, check_fault, turn_fault, is_simple_and_free}
use Rattle.clap.proofs.OnLiterals.{clap_on_literals}
use Rattle.clap.proofs.WalkLemmas.{walk_stopped}
use Rattle.clap.proofs.FaultLemmas.{stopped_fault}
use Rattle.command_words.specs.App.{named_app, netd_app, run_app, refuse_rule, break_rule}
use Rattle.command_words.specs.Forms.{Text, name_of as word_of_form}
use Rattle.command_words.specs.Read.{wordless_named}
use Rattle.command_words.specs.declared.form.Wordless.{Wordless}
use Rattle.command_words.specs.declared.form.Wordless.TheVariants.{Check}
use Rattle.command_words.specs.Refused.{is_refused}
use Rattle.command_words.proofs.Walk.{Which, refuse, broken}

abbrev pub whole : App
whole = built netd_app

abbrev pub leaf : App → Shape
leaf a = built_leaf (inherited (with_leaf_noted (marked_built netd_app.top)) a.top)

abbrev pub is_fault : Kinds → Bool
is_fault [] = false
is_fault (k ∷ ks) = true

or_else-nil : (k : Kinds) → or_else k [] ≡ k
or_else-nil [] = refl
or_else-nil (k ∷ ks) = refl

-- the walk after a subcommand's name
abbrev after_name : Text → List Text → Walk
after_name name seen = record { held = nothing_held; waiting = (walk_from nothing_held).waiting; position = 1; is_trailing = false; stopped = Some (name, seen) }

-- what the faults come to after the walk w over the rest of the words, from a subcommand's name on
abbrev from_end : Text → List Text → Walk → Kinds
from_end name rest w = or_else (walk_fault whole.top (names_of whole) (after_name name []) rest)
    (or_else (entered_fault whole w.stopped) (or_else (settle_fault whole.top.rules whole.top.args_override_self w.held)
    (or_else (defaults_fault (settled whole.top.rules w.held).rows whole.top.rules)
    (check_fault whole.top (finished whole.top.rules w.held) (is_some (entered whole w.stopped))))))

abbrev left : Text → List Text → Walk
left name rest = fold (walked whole.top.rules (names_of whole)) (after_name name []) rest

left_is : (name : Text) (rest : List Text) → left name rest ≡ after_name name rest
left_is name rest = sym (walk_stopped whole.top.rules (names_of whole) (after_name name []) name [] rest)

-- a subcommand of this name, which is built so
pub record IsSub (name : Text) (below : Shape) : Type 0 where
  pub met : find (answers_to name) (names_of whole) ≡ Some (name, [])
  pub here : find (λ (s : Shape). answers_to name (label_of s)) whole.subs ≡ Some below
  pub named : below.name ≡ name
  pub no_help : bytes_eq name (codes "help") ≡ false
  pub refused : is_refused name ≡ false

pub run_is_sub : IsSub (codes "run") (leaf run_app)
run_is_sub = record { met = refl; here = refl; named = refl; no_help = refl; refused = refl }

module _ (name : Text) (below : Shape) (sub : IsSub name below) (rest : List Text) where
  abbrev below_fault : Shape → Kinds
  below_fault s = level_fault s [] nothing_held rest false []

  name_fault : turn_fault whole.top (names_of whole) (walk_from nothing_held) name ≡ []
  name_fault = rw (sub.met, sub.no_help) refl

  name_goes : walked whole.top.rules (names_of whole) (walk_from nothing_held) name ≡ after_name name []
  unfolding walked
  name_goes = rw sub.met refl

  sub_starts : fault_of netd_app (name ∷ rest) ≡ from_end name rest (left name rest)
  unfolding walk_fault
  sub_starts = rw (name_fault, name_goes) refl

  sub_ends : from_end name rest (after_name name rest) ≡ level_fault below [] nothing_held rest false []
  unfolding clap_on_literals
  sub_ends =
      ap (λ (o : Option Shape). or_else (walk_fault whole.top (names_of whole) (after_name name []) rest) (or_else (option_map_or below_fault o [])
      (check_fault whole.top [] (is_some (option_map (λ (s : Shape). rows_at s rest) o))))) sub.here
      ∙ ap (λ k. or_else k (or_else (below_fault below) [])) (stopped_fault whole.top (names_of whole) (after_name name []) (name, []) rest)
      ∙ or_else-nil (below_fault below)

  pub sub_fault_is : fault_of netd_app (name ∷ rest) ≡ level_fault below [] nothing_held rest false []
  sub_fault_is = sub_starts ∙ ap (from_end name rest) (left_is name rest) ∙ sub_ends

  pub sub_found : subcommand_of netd_app (name ∷ rest) ≡ Some (name, rows_after below.rules [] rest)
  unfolding clap_on_literals
  sub_found =
      ap (λ (w : Walk). entered whole w.stopped) (ap (λ (w : Walk). fold (walked whole.top.rules (names_of whole)) w rest) name_goes ∙ left_is name rest)
      ∙ ap (λ (o : Option Shape). option_map (λ (s : Shape). (s.name, rows_after s.rules [] rest)) o) sub.here
      ∙ ap (λ (n : Text). Some (n, rows_after below.rules [] rest)) sub.named

-- ---- what the code makes of the matches

-- a clean word is no `--` and has no short flag
abbrev pub IsClean : Text → Type 0
IsClean w = (bytes_eq w (codes "--") ≡ false) × (short_of w ≡ None) × (is_refused w ≡ false)

abbrev pub Long : Type 0
Long = Option (Text × Option Text)

-- ---- the words of a subcommand that is built so

-- what is left to say at the end of the words
abbrev pub end_fault : Shape → Walk → Kinds
end_fault below w =
    or_else (settle_fault below.rules false w.held) (or_else (defaults_fault (settled below.rules w.held).rows below.rules) (check_fault below (finished below.rules w.held) false))

-- the faults of the words from a walk on, and the rows at their end
abbrev pub faults_from : Shape → Walk → List Text → Kinds
faults_from below w ws = or_else (walk_fault below [] w ws) (end_fault below (fold (walked below.rules []) w ws))

abbrev pub rows_from : Shape → Walk → List Text → List Row
rows_from below w ws = finished below.rules (fold (walked below.rules []) w ws).held

-- one word that has no fault
pub tail_step : (below : Shape) (w next_walk : Walk) (x : Text) (ws : List Text) → turn_fault below [] w x ≡ [] → walked below.rules [] w x ≡ next_walk → faults_from below w (x ∷ ws) ≡ faults_from below next_walk ws
unfolding walk_fault
tail_step below w next_walk x ws none goes =
    ap (λ (k : Kinds). or_else (or_else k (walk_fault below [] (walked below.rules [] w x) ws)) (end_fault below (fold (walked below.rules []) (walked below.rules [] w x) ws))) none
    ∙ ap (λ (v : Walk). faults_from below v ws) goes

-- ---- `run`

abbrev pub name_of : Which → Text
name_of refuse = codes "refuse"
name_of broken = codes "break"

-- what a word is to `run`
pub data Kind (x : Text) : Type 0 where
  plain : long_of x ≡ None → Kind x
  stranger : (n : Text) (v : Option Text) → long_of x ≡ Some (n, v) → bytes_eq (codes "refuse") n ≡ false → bytes_eq (codes "break") n ≡ false → Kind x
  bare : (o : Which) → long_of x ≡ Some (name_of o, None) → Kind x
  attached : (o : Which) (t : Text) → long_of x ≡ Some (name_of o, Some t) → Kind x

abbrev pub run_leaf : Shape
run_leaf = leaf run_app

-- where no option waits: the rows so far, and the option whose value was the last word, if it was
abbrev pub idle_walk : List Row → Option (Text × List Text) → Walk
idle_walk rows p = record { held = record { rows = rows; pending = p; skip = 0 }; waiting = idle; position = 1; is_trailing = false; stopped = None }

-- where the option o waits
abbrev pub open_walk : Which → List Row → Walk
open_walk o rows = record { held = record { rows = rows; pending = Some (name_of o, []); skip = 0 }; waiting = option (name_of o); position = 1; is_trailing = false; stopped = None }

-- the faults of the words from a walk on, and the rows at their end
abbrev pub tail_fault : Walk → List Text → Kinds
tail_fault w ws = faults_from run_leaf w ws

abbrev pub tail_rows : Walk → List Text → List Row
tail_rows w ws = rows_from run_leaf w ws

pub run_starts_idle : (ws : List Text) → level_fault run_leaf [] nothing_held ws false [] ≡ tail_fault (idle_walk [] None) ws
unfolding clap_on_literals
run_starts_idle ws = refl

pub run_rows_idle : (ws : List Text) → rows_after run_leaf.rules [] ws ≡ tail_rows (idle_walk [] None) ws
unfolding clap_on_literals
run_rows_idle ws = refl

abbrev pub pending_fault : List Row → Option (Text × List Text) → Kinds
pending_fault rows p = settle_fault run_leaf.rules false (record { rows = rows; pending = p; skip = 0 })

abbrev pub rows_with : List Row → Option (Text × List Text) → List Row
rows_with rows p = settled_rows run_leaf.rules p rows

abbrev pub option_rule : Which → Rule
option_rule refuse = filled refuse_rule
option_rule broken = filled break_rule

-- the rows after one use of the option
abbrev pub after_use : Which → Text → List Row → List Row
after_use o t rows = used (option_rule o) (t ∷ []) rows

pub idle_plain : (rows : List Row) (p : Option (Text × List Text)) (x : Text) (ws : List Text) → IsClean x → long_of x ≡ None → is_fault (tail_fault (idle_walk rows p) (x ∷ ws)) ≡ true
unfolding clap_on_literals
idle_plain rows p x ws cx lx = rw (cx.0, lx, cx.1) refl

pub idle_stranger : (rows : List Row) (p : Option (Text × List Text)) (x : Text) (ws : List Text) (n : Text) (v : Option Text) → IsClean x → long_of x ≡ Some (n, v) → bytes_eq (codes "refuse") n ≡ false → bytes_eq (codes "break") n ≡ false
    → is_fault (tail_fault (idle_walk rows p) (x ∷ ws)) ≡ true
unfolding clap_on_literals
idle_stranger rows p x ws n v cx lx nr nb = rw (cx.0, lx, nr, nb) refl

pub idle_bare_turn : (rows : List Row) (p : Option (Text × List Text)) (x : Text) (o : Which) → IsClean x → long_of x ≡ Some (name_of o, None) → pending_fault rows p ≡ [] → turn_fault run_leaf [] (idle_walk rows p) x ≡ []
unfolding clap_on_literals
idle_bare_turn rows p x refuse cx lx fits = rw (cx.0, lx, fits) refl
idle_bare_turn rows p x broken cx lx fits = rw (cx.0, lx, fits) refl

pub idle_bare_goes : (rows : List Row) (p : Option (Text × List Text)) (x : Text) (o : Which) → IsClean x → long_of x ≡ Some (name_of o, None) → walked run_leaf.rules [] (idle_walk rows p) x ≡ open_walk o (rows_with rows p)
unfolding clap_on_literals
idle_bare_goes rows p x refuse cx lx = rw (cx.0, lx) refl
idle_bare_goes rows p x broken cx lx = rw (cx.0, lx) refl

-- the first word is none of the subcommands
pub unknown_fails : (w : Text) (ws : List Text) (o : Long) → IsClean w → long_of w ≡ o → find (answers_to w) (names_of whole) ≡ None → is_fault (fault_of netd_app (w ∷ ws)) ≡ true
unfolding clap_on_literals
unknown_fails w ws None cw lw none = rw (none, cw.0, lw, cw.1) refl
unknown_fails w ws (Some p) cw lw none = rw (none, cw.0, lw) refl

-- ---- a form whose only word is its name

-- a subcommand of this name, as it is built
abbrev pub named_leaf : Text → Shape
named_leaf name = leaf (named_app name)

pub soak_is_sub : IsSub (codes "soak") (named_leaf (codes "soak"))
soak_is_sub = record { met = refl; here = refl; named = refl; no_help = refl; refused = refl }

-- what is so of each of these forms, by its word
pub record IsRow (form : Wordless) : Type 0 where
  pub sub : IsSub (word_of_form form) (named_leaf (word_of_form form))
  pub apart : bytes_eq (codes "run") (word_of_form form) ≡ false
  pub other : bytes_eq (word_of_form form) (codes "run") ≡ false
  pub no_soak : bytes_eq (codes "soak") (word_of_form form) ≡ false
  pub not_soak : bytes_eq (word_of_form form) (codes "soak") ≡ false
  pub found : wordless_named (word_of_form form) ≡ Some form

pub is_row : (form : Wordless) → IsRow form
is_row Check = record { sub = record { met = refl; here = refl; named = refl; no_help = refl; refused = refl }; apart = refl; other = refl; no_soak = refl; not_soak = refl; found = refl }

pub no_words_fail : is_fault (fault_of netd_app []) ≡ true
unfolding clap_on_literals
no_words_fail = refl

pub is_usable : (is_simple_and_free netd_app) ≡ true
unfolding clap_on_literals
is_usable = refl
