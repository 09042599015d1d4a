-- The words after the name of a subcommand whose words are handed on: `clap` takes plain ones, and not more than 4.
use Rattle.std.proofs.Common.{◌≡◌, ◌∙◌, ◌&&◌, ◌++◌, Bool, true, false, List, [], ◌∷◌, ℕ, Option, Some, None, codes, length, refl, sym, ap, ap₂, if◌then◌else◌, is_none, nat_lt, not, append-nil, append_assoc, arith}
use Rattle.std.proofs.lemmas.Bool.{and_parts}
use Rattle.std.proofs.lemmas.Bool.Decides.{nat_tests}
use Rattle.std.specs.List.{list_all}
use Rattle.clap.specs.Kinds.{Kinds, values_kinds}
use Rattle.clap.specs.Lexer.{long_of}
use Rattle.clap.specs.Walk.{Row, Walk, nothing_held, positional, rows_after, walk_from, walked}
use Rattle.clap.specs.Simple.{Shape}
use Rattle.clap.specs.Faults.{level_fault, turn_fault}
use Rattle.clap.specs.declared.builder.value_parser.ValueParser.TheVariants as parser
use Rattle.clap.proofs.OnLiterals.{clap_on_literals}
use Rattle.command_words.specs.Forms.{Text}
use Rattle.command_words.specs.Read.{words_in}
use Rattle.command_words.proofs.Accepted.{IsClean, Long, faults_from, is_fault, rows_from, named_leaf, tail_step}
use Rattle.command_words.proofs.RunAgrees.{AreClean}

-- a word that is no `--NAME`
abbrev pub is_plain : Text → Bool
is_plain word = is_none (long_of word)

-- the words that are taken
abbrev pub taken : List Text → Option (List Text)
taken ws = if list_all is_plain ws && not (nat_lt 4 (length ws)) then Some ws else None

is_none_none : (o : Long) → is_none o ≡ true → o ≡ None
is_none_none None e = refl
is_none_none (Some p) e = cc

module _ (name : Text) where
  abbrev below : Shape
  below = named_leaf name

  -- so many words were taken
  abbrev words_walk : List Text → Walk
  words_walk so_far = record { held = record { rows = []; pending = Some (codes "words", so_far); skip = 0 }; waiting = positional; position = 1; is_trailing = false; stopped = None }

  first_goes : (x : Text) → IsClean x → long_of x ≡ None → walked below.rules [] (walk_from nothing_held) x ≡ words_walk (x ∷ [])
  unfolding clap_on_literals
  first_goes x cx l = rw (cx.0, l, cx.1) refl

  first_turn : (x : Text) → IsClean x → long_of x ≡ None → turn_fault below [] (walk_from nothing_held) x ≡ []
  unfolding clap_on_literals
  first_turn x cx l = rw (cx.0, l, cx.1) refl

  next_goes : (so_far : List Text) (x : Text) → IsClean x → long_of x ≡ None → walked below.rules [] (words_walk so_far) x ≡ words_walk (so_far ++ x ∷ [])
  unfolding clap_on_literals
  next_goes so_far x cx l = rw (cx.0, l, cx.1) refl

  next_turn : (so_far : List Text) (x : Text) → IsClean x → long_of x ≡ None → turn_fault below [] (words_walk so_far) x ≡ []
  unfolding clap_on_literals
  next_turn so_far x cx l = rw (cx.0, l, cx.1) refl

  first_long : (x : Text) (ws : List Text) (p : Text × Option Text) → IsClean x → long_of x ≡ Some p → is_fault (faults_from below (walk_from nothing_held) (x ∷ ws)) ≡ true
  unfolding clap_on_literals
  first_long x ws p cx l = rw (cx.0, l) refl

  next_long : (so_far : List Text) (x : Text) (ws : List Text) (p : Text × Option Text) → IsClean x → long_of x ≡ Some p → is_fault (faults_from below (words_walk so_far) (x ∷ ws)) ≡ true
  unfolding clap_on_literals
  next_long so_far x ws p cx l = rw (cx.0, l) refl

  texts_fit : (vs : List Text) → values_kinds false parser.String vs ≡ []
  texts_fit [] = refl
  texts_fit (v ∷ vs) = texts_fit vs

  none_below : (n : ℕ) → nat_lt n 0 ≡ false
  none_below n = grind (arith, nat_tests)

  few_fit : (x : Text) (xs : List Text) → nat_lt 4 (length (x ∷ xs)) ≡ false → faults_from below (words_walk (x ∷ xs)) [] ≡ []
  unfolding clap_on_literals
  few_fit x xs few = rw (none_below, few, texts_fit xs) refl

  many_fail : (x : Text) (xs : List Text) → nat_lt 4 (length (x ∷ xs)) ≡ true → is_fault (faults_from below (words_walk (x ∷ xs)) []) ≡ true
  unfolding clap_on_literals
  many_fail x xs many = rw (none_below, many) refl

  words_are : (x : Text) (xs : List Text) → words_in (rows_from below (words_walk (x ∷ xs)) []) ≡ x ∷ xs
  unfolding clap_on_literals
  words_are x xs = refl

  -- plain words after so many
  goes_on : (x : Text) (xs ws : List Text) → AreClean ws → list_all is_plain ws ≡ true
      → (faults_from below (words_walk (x ∷ xs)) ws ≡ faults_from below (words_walk (x ∷ (xs ++ ws))) []) × (rows_from below (words_walk (x ∷ xs)) ws ≡ rows_from below (words_walk (x ∷ (xs ++ ws))) [])
  goes_on x xs [] clean plain = (ap (λ (l : List Text). faults_from below (words_walk (x ∷ l)) []) (sym (append-nil xs)), ap (λ (l : List Text). rows_from below (words_walk (x ∷ l)) []) (sym (append-nil xs)))
  goes_on x xs (w ∷ ws) clean plain =
      let parts = and_parts (is_plain w) (list_all is_plain ws) plain in
      let is = is_none_none (long_of w) parts.0 in
      let rest = goes_on x (xs ++ w ∷ []) ws clean.1 parts.1 in
      let joined = append_assoc xs (w ∷ []) ws in (
        tail_step below (words_walk (x ∷ xs)) (words_walk (x ∷ (xs ++ w ∷ []))) w ws (next_turn (x ∷ xs) w clean.0 is) (next_goes (x ∷ xs) w clean.0 is)
            ∙ rest.0 ∙ ap (λ (l : List Text). faults_from below (words_walk (x ∷ l)) []) joined,
        ap (λ (v : Walk). rows_from below v ws) (next_goes (x ∷ xs) w clean.0 is) ∙ rest.1 ∙ ap (λ (l : List Text). rows_from below (words_walk (x ∷ l)) []) joined,
      )

  -- one that is not plain
  stops : (x : Text) (xs ws : List Text) → AreClean ws → list_all is_plain ws ≡ false → is_fault (faults_from below (words_walk (x ∷ xs)) ws) ≡ true
  stops x xs [] clean plain = cc
  stops x xs (w ∷ ws) clean plain = by (long_of w) refl (stops x (xs ++ w ∷ []) ws clean.1)
    where
      by : (o : Long) → long_of w ≡ o → (list_all is_plain ws ≡ false → is_fault (faults_from below (words_walk (x ∷ (xs ++ w ∷ []))) ws) ≡ true) → is_fault (faults_from below (words_walk (x ∷ xs)) (w ∷ ws)) ≡ true
      by (Some p) l rest = next_long (x ∷ xs) w ws p clean.0 l
      by None l rest =
          ap is_fault (tail_step below (words_walk (x ∷ xs)) (words_walk (x ∷ (xs ++ w ∷ []))) w ws (next_turn (x ∷ xs) w clean.0 l) (next_goes (x ∷ xs) w clean.0 l))
          ∙ rest (ap (λ b. b && list_all is_plain ws) (sym (ap is_none l)) ∙ plain)

  -- what is read of the words after the name: all of them, or none
  abbrev pub read_words : Kinds → List Row → Option (List Text)
  read_words k rows = if is_fault k then None else Some (words_in rows)

  not_read : (k : Kinds) (rows : List Row) → is_fault k ≡ true → read_words k rows ≡ None
  not_read k rows fails = ap (λ b. if b then None else Some (words_in rows)) fails

  -- plain words, by whether there are more than 4
  all_read : (x : Text) (xs : List Text) (b : Bool) → nat_lt 4 (length (x ∷ xs)) ≡ b
      → read_words (faults_from below (words_walk (x ∷ xs)) []) (rows_from below (words_walk (x ∷ xs)) []) ≡ (if not b then Some (x ∷ xs) else None)
  all_read x xs true many = not_read (faults_from below (words_walk (x ∷ xs)) []) (rows_from below (words_walk (x ∷ xs)) []) (many_fail x xs many)
  all_read x xs false few = ap (λ (k : Kinds). read_words k (rows_from below (words_walk (x ∷ xs)) [])) (few_fit x xs few) ∙ ap (λ (l : List Text). Some l) (words_are x xs)

  -- the words after a plain one
  rest_read : (x : Text) (ws : List Text) (b : Bool) → list_all is_plain ws ≡ b → AreClean ws
      → read_words (faults_from below (words_walk (x ∷ [])) ws) (rows_from below (words_walk (x ∷ [])) ws) ≡ (if b && not (nat_lt 4 (length (x ∷ ws))) then Some (x ∷ ws) else None)
  rest_read x ws true plain clean = let on = goes_on x [] ws clean plain in ap₂ read_words on.0 on.1 ∙ all_read x ws _ refl
  rest_read x ws false long clean = not_read (faults_from below (words_walk (x ∷ [])) ws) (rows_from below (words_walk (x ∷ [])) ws) (stops x [] ws clean long)

  pub words_taken : (ws : List Text) → AreClean ws → read_words (level_fault below [] nothing_held ws false []) (rows_after below.rules [] ws) ≡ taken ws
  unfolding clap_on_literals
  words_taken [] clean = refl
  words_taken (w ∷ ws) clean = by (long_of w) refl
    where
      by : (o : Long) → long_of w ≡ o
          → read_words (faults_from below (walk_from nothing_held) (w ∷ ws)) (rows_from below (walk_from nothing_held) (w ∷ ws)) ≡ taken (w ∷ ws)
      by (Some p) l = not_read (faults_from below (walk_from nothing_held) (w ∷ ws)) (rows_from below (walk_from nothing_held) (w ∷ ws)) (first_long w ws p clean.0 l)
          ∙ sym (ap (λ (o : Long). if (is_none o && list_all is_plain ws) && not (nat_lt 4 (length (w ∷ ws))) then Some (w ∷ ws) else None) l)
      by None l =
          ap₂ read_words (tail_step below (walk_from nothing_held) (words_walk (w ∷ [])) w ws (first_turn w clean.0 l) (first_goes w clean.0 l))
          (ap (λ (v : Walk). rows_from below v ws) (first_goes w clean.0 l))
          ∙ rest_read w ws (list_all is_plain ws) refl clean.1
          ∙ sym (ap (λ (o : Long). if (is_none o && list_all is_plain ws) && not (nat_lt 4 (length (w ∷ ws))) then Some (w ∷ ws) else None) l)
