-- What `clap` makes of the words is what the walk over them makes.
use Rattle.std.proofs.Common.{◌≡◌, ◌∙◌, ◌||◌, Bool, true, false, List, [], ◌∷◌, Option, Some, None, codes, refl, sym, ap, ap₂, subst, if◌then◌else◌, is_some, find, map, option_map, length, nat_lt, not, ◌&&◌}
use Rattle.std.specs.List.{list_all}
use Rattle.std.proofs.lemmas.Slice.Eq.{bytes_eq-Decides}
use Rattle.std.specs.Str.{bytes_eq}
use Rattle.clap.specs.Lexer.{long_of}
use Rattle.clap.specs.Kinds.{Kinds, IsAmong}
use Rattle.clap.specs.declared.error.kind.ErrorKind.{ErrorKind}
use Rattle.clap.specs.Walk.{Row, answers_to, nothing_held, rows_after}
use Rattle.clap.specs.Simple.{App, subcommand_of}
use Rattle.clap.specs.Faults.{fault_of, level_fault}
use Rattle.command_words.specs.App.{netd_app}
use Rattle.command_words.specs.Forms.{Text, name_of as word_of_form}
use Rattle.command_words.specs.declared.form.TheConstants.{ALL_WORDLESS}
use Rattle.command_words.specs.declared.form.Wordless.{Wordless}
use Rattle.command_words.specs.Read.{Given, Reading, alone_given, given_in, is_value, options, read_found, soak_given, soaking, wordless_named, words_in}
use Rattle.command_words.specs.Refused.{is_refused, has_refused}
use Rattle.command_words.proofs.Walk.{Which, Word, find-passes, with_given, given_of, given_once, words_given, run_given, run_from, run_step, idle_step, value_step, word_of, text_word, nothing_given}
use Rattle.command_words.proofs.Walk.{plain as plain_word, stranger as stranger_word, bare as bare_word, attached as attached_word}
use Rattle.command_words.proofs.Accepted.{is_fault, IsClean, idle_walk, is_row, run_is_sub, run_leaf, soak_is_sub, run_starts_idle, run_rows_idle, sub_fault_is, sub_found, tail_fault, tail_rows, named_leaf, unknown_fails, no_words_fail}
use Rattle.command_words.proofs.Run.{holds_nothing}
use Rattle.command_words.proofs.RunAgrees.{AreClean, answer, idle_agrees}
use Rattle.command_words.proofs.Following.{is_plain, read_words, taken, words_taken}
use Rattle.command_words.proofs.Words.{clean_from}

-- what the code reads, from the faults and the subcommand that was found
abbrev pub outcome : Kinds → Option (Text × List Row) → Option Reading
outcome k found = if is_fault k then None else read_found found

refused : (words : List Text) → is_fault (fault_of netd_app words) ≡ true → outcome (fault_of netd_app words) (subcommand_of netd_app words) ≡ None
refused words fails = ap (λ b. if b then None else read_found (subcommand_of netd_app words)) fails

abbrev Agrees : Text → List Text → Option Reading → Type 0
Agrees name rest given = outcome (fault_of netd_app (name ∷ rest)) (subcommand_of netd_app (name ∷ rest)) ≡ given

-- the same of the options of `run`
run_outcome : (k : Kinds) (rows : List Row) → outcome k (Some (codes "run", rows)) ≡ option_map options (answer k rows)
run_outcome [] rows = refl
run_outcome (k ∷ ks) rows = refl

run_agrees : (rest : List Text) → AreClean rest → Agrees (codes "run") rest (option_map options (run_given rest))
run_agrees rest clean =
    ap₂ outcome (sub_fault_is (codes "run") run_leaf run_is_sub rest ∙ run_starts_idle rest)
    (sub_found (codes "run") run_leaf run_is_sub rest ∙ ap (λ (rows : List Row). Some (codes "run", rows)) (run_rows_idle rest))
    ∙ run_outcome (tail_fault (idle_walk [] None) rest) (tail_rows (idle_walk [] None) rest)
    ∙ ap (option_map options) (idle_agrees rest clean [] None nothing_given refl holds_nothing)

named : (name w : Text) → bytes_eq name w ≡ true → name ≡ w
named name w e = (bytes_eq-Decides name w).0 e

-- the words after a name are read, where a form of the name takes no words that `clap` doesn't take
named_outcome : (name : Text) (given : List Text → Option Reading) → ((l : List Text) → taken l ≡ None → given l ≡ None) → (k : Kinds) (rows : List Row) (ws : List Text)
    → read_words name k rows ≡ taken ws → (if is_fault k then None else given (words_in rows)) ≡ given ws
named_outcome name given none k rows ws read = by (is_fault k) read
  where
    same : (t : Bool) → Some (words_in rows) ≡ (if t then Some ws else None) → given (words_in rows) ≡ given ws
    same true e = let equal : words_in rows ≡ ws = cc in ap given equal
    same false e = absurd (let no : ◌≡◌ {A = Option (List Text)} (Some (words_in rows)) None = e in cc)

    by : (b : Bool) → (if b then None else Some (words_in rows)) ≡ taken ws → (if b then None else given (words_in rows)) ≡ given ws
    by true e = sym (none ws (sym e))
    by false e = same (list_all is_plain ws && not (nat_lt 4 (length ws))) e

-- a form's word, and words after it
alone_agrees : (form : Wordless) (rest : List Text) → AreClean rest → Agrees (word_of_form form) rest (alone_given (Some form) rest)
alone_agrees form rest clean =
    let row = is_row form in
    let name = word_of_form form in
    ap₂ outcome (sub_fault_is name (named_leaf name) row.sub rest) (sub_found name (named_leaf name) row.sub rest)
    ∙ ap (λ a. if is_fault (fault name) then None else (if a then Some (options (given_in (rows name))) else (if bytes_eq name (codes "soak") then soak_given (words_in (rows name)) else alone_given (wordless_named name) (words_in (rows name))))) row.other
    ∙ ap₂ (λ a o. if is_fault (fault name) then None else (if a then soak_given (words_in (rows name)) else alone_given o (words_in (rows name)))) row.not_soak row.found
    ∙ named_outcome name (alone_given (Some form)) none (fault name) (rows name) rest (words_taken name rest clean)
  where
    fault : Text → Kinds
    fault name = level_fault (named_leaf name) [] nothing_held rest false []

    rows : Text → List Row
    rows name = rows_after (named_leaf name).rules [] rest

    none : (l : List Text) → taken l ≡ None → alone_given (Some form) l ≡ None
    none [] e = absurd (let no : ◌≡◌ {A = Option (List Text)} (Some []) None = e in cc)
    none (x ∷ xs) e = refl

-- `soak`, and words after it
soak_agrees : (rest : List Text) → AreClean rest → Agrees (codes "soak") rest (soak_given rest)
soak_agrees rest clean =
    ap₂ outcome (sub_fault_is (codes "soak") (named_leaf (codes "soak")) soak_is_sub rest) (sub_found (codes "soak") (named_leaf (codes "soak")) soak_is_sub rest)
    ∙ named_outcome (codes "soak") soak_given none (level_fault (named_leaf (codes "soak")) [] nothing_held rest false [])
    (rows_after (named_leaf (codes "soak")).rules [] rest) rest (words_taken (codes "soak") rest clean)
  where
    two : (first second : Text) (a b : Bool) → is_plain first ≡ a → is_plain second ≡ b → (if (a && (b && true)) && true then Some (first ∷ second ∷ []) else None) ≡ None
        → soak_given (first ∷ second ∷ []) ≡ None
    two first second true true p q e = absurd (let no : ◌≡◌ {A = Option (List Text)} (Some (first ∷ second ∷ [])) None = e in cc)
    two first second true false p q e = rw q (last (is_value first))
      where
        last : (v : Bool) → (if v && false then Some (soaking first second) else None) ≡ None
        last true = refl
        last false = refl
    two first second false b p q e = rw p refl

    none : (l : List Text) → taken l ≡ None → soak_given l ≡ None
    none [] e = refl
    none (x ∷ []) e = refl
    none (x ∷ y ∷ []) e = two x y (is_plain x) (is_plain y) refl refl e
    none (x ∷ y ∷ z ∷ zs) e = refl

-- a word that names none of these forms names none of their subcommands
names_none : (w : Text) (forms : List Wordless) → find (λ form. bytes_eq (word_of_form form) w) forms ≡ None → find (answers_to w) (map (λ form. (word_of_form form, [])) forms) ≡ None
names_none w [] none = refl
names_none w (form ∷ forms) none = by (bytes_eq (word_of_form form) w) none (names_none w forms)
  where
    by : (b : Bool) → (if b then Some form else find (λ other. bytes_eq (word_of_form other) w) forms) ≡ None
        → (find (λ other. bytes_eq (word_of_form other) w) forms ≡ None → find (answers_to w) (map (λ other. (word_of_form other, [])) forms) ≡ None)
        → (if b || false then Some (word_of_form form, []) else find (answers_to w) (map (λ other. (word_of_form other, [])) forms)) ≡ None
    by true e rest = absurd (cc)
    by false e rest = rest e

-- what the words after the first one give, by what that one is
abbrev given_after : (is_run is_soak : Bool) → Text → List Text → Option Reading
given_after is_run is_soak w rest = if is_run then option_map options (run_given rest) else (if is_soak then soak_given rest else alone_given (wordless_named w) rest)

any_agrees : (w : Text) (rest : List Text) (b s : Bool) → bytes_eq (codes "run") w ≡ b → bytes_eq (codes "soak") w ≡ s → IsClean w → AreClean rest → Agrees w rest (given_after b s w rest)
any_agrees w rest true s e soak_is cw cs = subst (λ (v : Text). Agrees v rest (option_map options (run_given rest))) (named (codes "run") w e) (run_agrees rest cs)
any_agrees w rest false true e soak_is cw cs = subst (λ (v : Text). Agrees v rest (soak_given rest)) (named (codes "soak") w soak_is) (soak_agrees rest cs)
any_agrees w rest false false e soak_is cw cs = by (wordless_named w) refl
  where
    by : (o : Option Wordless) → wordless_named w ≡ o → Agrees w rest (alone_given o rest)
    by (Some form) found = subst (λ (v : Text). Agrees v rest (alone_given (Some form) rest))
        (named (word_of_form form) w (find-passes (λ (f : Wordless). bytes_eq (word_of_form f) w) ALL_WORDLESS form found)) (alone_agrees form rest cs)
    by None none = refused (w ∷ rest) (unknown_fails w rest (long_of w) cw refl
        (ap₂ (λ b s. if b || false then Some (codes "run", []) else (if s || false then Some (codes "soak", []) else find (answers_to w) (map (λ form. (word_of_form form, [])) ALL_WORDLESS))) e soak_is
        ∙ names_none w ALL_WORDLESS none))

-- with no refused word, `clap` and the walk agree
pub clean_agrees : (words : List Text) → AreClean words → outcome (fault_of netd_app words) (subcommand_of netd_app words) ≡ words_given words
clean_agrees [] clean = refused [] no_words_fail
clean_agrees (w ∷ rest) clean = any_agrees w rest _ _ refl refl clean.0 clean.1

-- ---- refused words

-- one step of the words after `run`, from what the word is
abbrev elim_step : Option Which → Given → Text → Word → (Option Which → Given → Option Given) → Option Given
elim_step None g x w next = idle_step g w next
elim_step (Some o) g x w next = value_step o g w x next

once_none : (g : Given) (o : Which) (t : Text) (next : Given → Option Given) → ((k : Given) → next k ≡ None) → given_once g o t next ≡ None
once_none g o t next none = by (is_some (given_of g o))
  where
    by : (b : Bool) → (if b then None else next (with_given g o t)) ≡ None
    by true = refl
    by false = none (with_given g o t)

step_none : (waiting : Option Which) (g : Given) (x : Text) (w : Word) (next : Option Which → Given → Option Given) → ((o : Option Which) (k : Given) → next o k ≡ None)
    → elim_step waiting g x w next ≡ None
step_none None g x plain_word next none = refl
step_none None g x stranger_word next none = refl
step_none None g x (bare_word o) next none = none (Some o) g
step_none None g x (attached_word o t) next none = once_none g o t (next None) (none None)
step_none (Some o) g x plain_word next none = once_none g o x (next None) (none None)
step_none (Some o) g x stranger_word next none = refl
step_none (Some o) g x (bare_word q) next none = refl
step_none (Some o) g x (attached_word q t) next none = refl

-- nothing is given by words of which one is refused
run_refused : (ws : List Text) → has_refused ws ≡ true → (waiting : Option Which) (g : Given) → run_from waiting g ws ≡ None
run_refused [] h waiting g = cc
run_refused (w ∷ ws) h waiting g = by (is_refused w) refl h (run_refused ws)
  where
    step_is : (m : Option Which) → run_step m g w (λ o k. run_from o k ws) ≡ elim_step m g w (word_of w) (λ o k. run_from o k ws)
    step_is None = refl
    step_is (Some o) = refl

    stranger_none : (m : Option Which) → elim_step m g w stranger_word (λ o k. run_from o k ws) ≡ None
    stranger_none None = refl
    stranger_none (Some o) = refl

    by : (b : Bool) → is_refused w ≡ b → (b || has_refused ws) ≡ true → (has_refused ws ≡ true → (m : Option Which) (k : Given) → run_from m k ws ≡ None) → run_step waiting g w (λ o k. run_from o k ws) ≡ None
    by true d k ih = step_is waiting ∙ ap (λ (b : Bool). elim_step waiting g w (if b then stranger_word else text_word w) (λ o k. run_from o k ws)) d ∙ stranger_none waiting
    by false d k ih = step_is waiting ∙ step_none waiting g w (word_of w) (λ o k. run_from o k ws) (ih k)

-- nothing is given by a form's word with words after it
pub refused_none : (words : List Text) → has_refused words ≡ true → words_given words ≡ None
refused_none [] e = cc
refused_none (w ∷ rest) e = by (bytes_eq (codes "run") w) refl
  where
    in_rest : (name : Text) → is_refused name ≡ false → name ≡ w → has_refused rest ≡ true
    in_rest name plain same = go (is_refused w) (ap is_refused (sym same) ∙ plain) e
      where
        go : (b : Bool) → b ≡ false → (b || has_refused rest) ≡ true → has_refused rest ≡ true
        go true is h = let bad : true ≡ false = is in cc
        go false is h = h

    after_word : (form : Wordless) (ws : List Text) → has_refused ws ≡ true → alone_given (Some form) ws ≡ None
    after_word form [] h = cc
    after_word form (x ∷ xs) h = refl

    alone_none : (o : Option Wordless) → wordless_named w ≡ o → alone_given o rest ≡ None
    alone_none None none = refl
    alone_none (Some form) found = after_word form rest
        (in_rest (word_of_form form) (is_row form).sub.refused (named (word_of_form form) w (find-passes (λ (f : Wordless). bytes_eq (word_of_form f) w) ALL_WORDLESS form found)))

    refused_value : (a : Bool) → a ≡ true → (p : Bool) → (p && not a) ≡ false
    refused_value true h true = refl
    refused_value true h false = refl
    refused_value false h p = cc

    after_soak : (ws : List Text) → has_refused ws ≡ true → soak_given ws ≡ None
    after_soak [] h = refl
    after_soak (x ∷ []) h = refl
    after_soak (x ∷ y ∷ z ∷ zs) h = refl
    after_soak (x ∷ y ∷ []) h = go (is_refused x) refl h
      where
        last : (v : Bool) → (if v && false then Some (soaking x y) else None) ≡ None
        last true = refl
        last false = refl

        second : (v : Bool) → is_refused y ≡ v → (v || false) ≡ true → soak_given (x ∷ y ∷ []) ≡ None
        second true r k = rw (refused_value (is_refused y) r (is_plain y)) (last (is_value x))
        second false r k = cc

        go : (v : Bool) → is_refused x ≡ v → (v || (is_refused y || false)) ≡ true → soak_given (x ∷ y ∷ []) ≡ None
        go true r k = rw (refused_value (is_refused x) r (is_plain x)) refl
        go false r k = second (is_refused y) refl k

    soak_or_alone : (b : Bool) → bytes_eq (codes "soak") w ≡ b → (if b then soak_given rest else alone_given (wordless_named w) rest) ≡ None
    soak_or_alone true same = after_soak rest (in_rest (codes "soak") refl (named (codes "soak") w same))
    soak_or_alone false same = alone_none (wordless_named w) refl

    by : (b : Bool) → bytes_eq (codes "run") w ≡ b → given_after b (bytes_eq (codes "soak") w) w rest ≡ None
    by true same = ap (option_map options) (run_refused rest (in_rest (codes "run") refl (named (codes "run") w same)) None nothing_given)
    by false same = soak_or_alone (bytes_eq (codes "soak") w) refl

are_clean : (words : List Text) → has_refused words ≡ false → AreClean words
are_clean [] e = tt
are_clean (w ∷ rest) e = by (is_refused w) refl e (are_clean rest)
  where
    by : (b : Bool) → is_refused w ≡ b → (b || has_refused rest) ≡ false → (has_refused rest ≡ false → AreClean rest) → AreClean (w ∷ rest)
    by true t h ih = cc
    by false t h ih = let clean = clean_from w t in ((clean.0, clean.1, t), ih h)

-- ---- the two ends of the parse

-- no fault of the words' command means that the walk gives what the code reads
pub taken_given : (app : App) (words : List Text) → app ≡ netd_app → has_refused words ≡ false → fault_of app words ≡ [] → read_found (subcommand_of app words) ≡ words_given words
taken_given app words same clean fits =
    ap (λ (a : App). read_found (subcommand_of a words)) same
    ∙ sym (ap (λ (l : Kinds). outcome l (subcommand_of netd_app words)) (ap (λ (a : App). fault_of a words) (sym same) ∙ fits))
    ∙ clean_agrees words (are_clean words clean)

-- a fault means that it gives nothing
pub refused_given : (app : App) (words : List Text) (k : ErrorKind) → app ≡ netd_app → has_refused words ≡ false → IsAmong k (fault_of app words) → words_given words ≡ None
refused_given app words k same clean among =
    sym (clean_agrees words (are_clean words clean)) ∙ refused words (is_some_fault (fault_of netd_app words) (subst (IsAmong k) (ap (λ (a : App). fault_of a words) same) among))
  where
    is_some_fault : (ks : Kinds) → IsAmong k ks → is_fault ks ≡ true
    is_some_fault [] h = absurd h
    is_some_fault (x ∷ xs) h = refl
