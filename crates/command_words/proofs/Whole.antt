-- The forms, and what the walk over the words gives.
use Rattle.std.proofs.Common.{◌≡◌, ◌∙◌, ◌++◌, ◌&&◌, ◌<◌, ◌≤◌, ◌^◌, ℕ, Bool, true, false, List, [], ◌∷◌, Option, Some, None, codes, refl, sym, ap, ap₂, arith, subst, if◌then◌else◌, inl, inr, option_map}
use Rattle.std.specs.Fmt.{decimal}
use Rattle.std.proofs.lemmas.Slice.Eq.{bytes_eq-Decides}
use Rattle.std.specs.Str.{bytes_eq}
use Rattle.command_words.specs.Forms.{Text, IsRun, IsSoak, IsForm, FormView, name_of as word_of_form, run, soak, wordless, MayGiveOption}
use Rattle.command_words.specs.Read.{Given, Reading, Says, SaysSome, SaysSoak, IsListOrNone, alone, alone_given, is_value, options, soak_given, soaking, wordless_named}
use Rattle.command_words.specs.declared.form.TheConstants.{ALL_WORDLESS}
use Rattle.command_words.specs.declared.form.Wordless.{Wordless}
use Rattle.command_words.proofs.Accepted.{is_row, name_of}
use Rattle.command_words.proofs.Walk.{Which, refuse, broken, find-passes, words_given, run_given}
use Rattle.command_words.proofs.Turns.{MayGiveText, AreGiven, IsPlainOrNone, walk_gives, given_walks}
use Rattle.command_words.proofs.Lists.{list_plain, list_one}
use Rattle.command_words.proofs.Numbers.{number_is_value, soak_one}

option_from_text : (o : Which) (ws : List Text) (x : Option Text) (ns : List ℕ) → MayGiveText o ws x → IsListOrNone x ns → MayGiveOption (name_of o) ws ns
option_from_text o ws None ns a h = inr (a, h)
option_from_text o ws (Some t) ns a h = inl (t, h, a)

text_from_option : (o : Which) (ws : List Text) (ns : List ℕ) → MayGiveOption (name_of o) ws ns → (x : Option Text) × MayGiveText o ws x × IsListOrNone x ns
text_from_option o ws ns (inl g) = (Some g.0, g.2, g.1)
text_from_option o ws ns (inr n) = (None, n.0, n.1)

plain_or_none : (x : Option Text) (ns : List ℕ) → IsListOrNone x ns → IsPlainOrNone x
plain_or_none None ns h = tt
plain_or_none (Some t) ns h = list_plain t ns h

run_from_given : (w : Text) (rest : List Text) (g : Given) (refuses breaks : List ℕ) → codes "run" ≡ w → AreGiven rest g → Says g (run refuses breaks) → IsRun (w ∷ rest) refuses breaks
run_from_given w rest g refuses breaks same given says = record {
  first = given.first;
  second = given.second;
  whole = ap (λ (v : Text). v ∷ rest) (sym same) ∙ ap (λ (l : List Text). codes "run" ∷ l) given.whole;
  options = elim given.options [
    | inl o ↦ inl (option_from_text refuse given.first g.refuses refuses o.0 says.0, option_from_text broken given.second g.breaks breaks o.1 says.1)
    | inr o ↦ inr (option_from_text broken given.first g.breaks breaks o.0 says.1, option_from_text refuse given.second g.refuses refuses o.1 says.0)
  ];
}

-- what a form's word alone gives
alone_says : (w : Text) (rest : List Text) (form : FormView) → SaysSome (alone_given (wordless_named w) rest) form → IsForm (w ∷ rest) form
alone_says w rest form h = by (wordless_named w) refl rest h
  where
    word_is : (only : Wordless) → wordless_named w ≡ Some only → word_of_form only ≡ w
    word_is only found = (bytes_eq-Decides (word_of_form only) w).0 (find-passes (λ (f : Wordless). bytes_eq (word_of_form f) w) ALL_WORDLESS only found)

    by : (o : Option Wordless) → wordless_named w ≡ o → (ws : List Text) → SaysSome (alone_given o ws) form → IsForm (w ∷ ws) form
    by None found ws k = absurd k
    by (Some only) found [] k = subst (IsForm (w ∷ [])) (sym k) (ap (λ (v : Text). v ∷ []) (sym (word_is only found)))
    by (Some only) found (x ∷ xs) k = absurd k

-- what the walk gives says a form of the words
pub form_from_given : (words : List Text) (form : FormView) → SaysSome (words_given words) form → IsForm words form
form_from_given [] form h = absurd h
form_from_given (w ∷ rest) form h = by (bytes_eq (codes "run") w) refl h
  where
    in_run : (o : Option Given) → run_given rest ≡ o → codes "run" ≡ w → (f : FormView) → SaysSome (option_map options o) f → IsForm (w ∷ rest) f
    in_run None e same f k = absurd k
    in_run (Some g) e same (run refuses breaks) k = run_from_given w rest g refuses breaks same (walk_gives rest g e) k
    in_run (Some g) e same (wordless only) k = absurd k
    in_run (Some g) e same (soak seed count) k = absurd k

    in_soak : (ws : List Text) → codes "soak" ≡ w → SaysSome (soak_given ws) form → IsForm (w ∷ ws) form
    in_soak [] same k = absurd k
    in_soak (x ∷ []) same k = absurd k
    in_soak (x ∷ y ∷ z ∷ zs) same k = absurd k
    in_soak (x ∷ y ∷ []) same k = two (is_value x && is_value y) k
      where
        said : (f : FormView) → SaysSoak x y f → IsForm (w ∷ x ∷ y ∷ []) f
        said (run refuses breaks) s = absurd s
        said (wordless only) s = absurd s
        said (soak seed count) s = subst (λ (v : Text). IsSoak (v ∷ x ∷ y ∷ []) seed count) same s

        two : (v : Bool) → SaysSome (if v then Some (soaking x y) else None) form → IsForm (w ∷ x ∷ y ∷ []) form
        two true s = said form s
        two false s = absurd s

    no_run : (s : Bool) → bytes_eq (codes "soak") w ≡ s → SaysSome (if s then soak_given rest else alone_given (wordless_named w) rest) form → IsForm (w ∷ rest) form
    no_run true e k = in_soak rest ((bytes_eq-Decides (codes "soak") w).0 e) k
    no_run false e k = alone_says w rest form k

    by : (b : Bool) → bytes_eq (codes "run") w ≡ b
        → SaysSome (if b then option_map options (run_given rest) else (if bytes_eq (codes "soak") w then soak_given rest else alone_given (wordless_named w) rest)) form
        → IsForm (w ∷ rest) form
    by true e k = in_run (run_given rest) refl ((bytes_eq-Decides (codes "run") w).0 e) form k
    by false e k = no_run (bytes_eq (codes "soak") w) refl k

given_from_parts : (words first second : List Text) (refuses breaks : List ℕ) (x y : Option Text) → words ≡ codes "run" ∷ (first ++ second) → AreGiven (first ++ second) (record { refuses = x; breaks = y }) → IsListOrNone x refuses → IsListOrNone y breaks
    → SaysSome (words_given words) (run refuses breaks)
given_from_parts words first second refuses breaks x y whole given one two =
    let walks : words_given words ≡ Some (options (record { refuses = x; breaks = y })) =
    ap words_given whole ∙ ap (option_map options) (given_walks (first ++ second) x y given (plain_or_none x refuses one) (plain_or_none y breaks two)) in
    subst (λ (o : Option Reading). SaysSome o (run refuses breaks)) (sym walks) (one, two)

-- a form's word alone
given_from_word : (only : Wordless) → words_given (word_of_form only ∷ []) ≡ Some (alone only)
given_from_word only = let row = is_row only in
    ap₂ (λ (b s : Bool). if b then option_map options (run_given []) else (if s then soak_given [] else alone_given (wordless_named (word_of_form only)) [])) row.apart row.no_soak
    ∙ ap (λ (o : Option Wordless). alone_given o []) row.found

-- two numbers after `soak`
given_from_numbers : (seed count : ℕ) → seed < 2 ^ 64 → count ≤ 100000 → words_given (codes "soak" ∷ decimal seed ∷ decimal count ∷ []) ≡ Some (soaking (decimal seed) (decimal count))
given_from_numbers seed count fits few =
    ap₂ (λ (a b : Bool). if a && b then Some (soaking (decimal seed) (decimal count)) else None) (number_is_value seed fits) (number_is_value count (omega (arith, few)))

-- every form of the words is said by what the walk gives
pub given_from_form : (words : List Text) (form : FormView) → IsForm words form → SaysSome (words_given words) form
given_from_form words (wordless only) h = subst (λ (o : Option Reading). SaysSome o (wordless only)) (sym (ap words_given h ∙ given_from_word only)) refl
given_from_form words (soak seed count) h =
    subst (λ (o : Option Reading). SaysSome o (soak seed count)) (sym (ap words_given h.whole ∙ given_from_numbers seed count h.fits h.few))
    (record { whole = refl; fits = h.fits; few = h.few })
given_from_form words (run refuses breaks) h = elim h.options [
  | inl o ↦
      let x = text_from_option refuse h.first refuses o.0 in
      let y = text_from_option broken h.second breaks o.1 in
      given_from_parts words h.first h.second refuses breaks x.0 y.0 h.whole (record { first = h.first; second = h.second; whole = refl; options = inl (x.1, y.1) }) x.2 y.2
  | inr o ↦
      let y = text_from_option broken h.first breaks o.0 in
      let x = text_from_option refuse h.second refuses o.1 in
      given_from_parts words h.first h.second refuses breaks x.0 y.0 h.whole (record { first = h.first; second = h.second; whole = refl; options = inr (y.1, x.1) }) x.2 y.2
]

-- ---- no words have two forms

list_or_none_one : (x : Option Text) (ns ms : List ℕ) → IsListOrNone x ns → IsListOrNone x ms → ns ≡ ms
list_or_none_one None ns ms a b = a ∙ sym b
list_or_none_one (Some t) ns ms a b = list_one t ns ms a b

says_one : (o : Option Reading) (form other : FormView) → SaysSome o form → SaysSome o other → form ≡ other
says_one None form other a b = absurd a
says_one (Some (alone only)) form other a b = a ∙ sym b
says_one (Some (soaking x y)) (run r b) other a c = absurd a
says_one (Some (soaking x y)) (wordless only) other a c = absurd a
says_one (Some (soaking x y)) (soak s n) (run r b) a c = absurd c
says_one (Some (soaking x y)) (soak s n) (wordless only) a c = absurd c
says_one (Some (soaking x y)) (soak s n) (soak s' n') a c = let same = soak_one (codes "soak" ∷ x ∷ y ∷ []) s n s' n' a c in ap₂ soak same.0 same.1
says_one (Some (options g)) (wordless only) other a b = absurd a
says_one (Some (options g)) (soak s n) other a b = absurd a
says_one (Some (options g)) (run r b) (wordless only) a c = absurd c
says_one (Some (options g)) (run r b) (soak s n) a c = absurd c
says_one (Some (options g)) (run r b) (run r' b') a c =
    ap (λ (l : List ℕ). run l b) (list_or_none_one g.refuses r r' a.0 c.0) ∙ ap (λ (l : List ℕ). run r' l) (list_or_none_one g.breaks b b' a.1 c.1)

pub form_one : (words : List Text) (form other : FormView) → IsForm words form → IsForm words other → form ≡ other
form_one words form other a b = says_one (words_given words) form other (given_from_form words form a) (given_from_form words other b)
