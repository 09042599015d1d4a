-- Where words that are no line go wrong, for any language.
use Rattle.std.proofs.Common.{◌≡◌, ◌⊎◌, ℕ, ◌+◌, ◌<◌, ◌≤◌, ◌&&◌, Bool, true, false, zero, suc, List, [], ◌∷◌, ◌++◌, length, slice_get, None, Some, refl, sym, ap, ◌∙◌, subst, inl, inr, arith}
use Rattle.std.proofs.lemmas.List.{append-nil}
use Rattle.std.specs.List.{AllByRecursion, list_all}
use Rattle.script_reader.specs.BadLines.{Begins, GoesWrong, HasBadWord, IsLine, IsUnfinished}
use Rattle.script_reader.specs.Cursor.{Stops, end_of, words_left}
use Rattle.script_reader.specs.Finds.{FitsFarthest, StopsBy}
use Rattle.script_reader.specs.Languages.{AreOfSome, Language}
use Rattle.script_reader.specs.Lines.{IsBlank, IsText, is_printable, script}
use Rattle.script_reader.specs.Rows.{line_with}
use Rattle.script_reader.specs.Words.{Word, texts, words_of}
use Rattle.script_reader.specs.declared.words.Words.{Words}
use Rattle.script_reader.proofs.Places.{at_place, place_of}
use Rattle.script_reader.proofs.Fronts.{Fronts, IsColumnOf, IsCut, IsRising, continued, cut_where, fronts_of, rising, stops_behind, stops_no_line}

-- the lines are the words of some form, and blank ones; each form stands in the list
pub record IsSpoken (l : Language) (IsLine : List (List ℕ) → Type 0) : Type 0 where
  pub place : (form : l.Form) → (place : ℕ) × (slice_get l.forms place ≡ Some form)
  pub line : (words : List (List ℕ)) → AreOfSome l words → IsLine words
  pub form : (words : List (List ℕ)) → IsLine words → IsBlank words ⊎ AreOfSome l words

all_at : {X : Type 0} (P : X → Type 0) (xs : List X) (place : ℕ) (x : X) → AllByRecursion P xs → slice_get xs place ≡ Some x → P x
all_at P [] place x all is = absurd (let none : None ≡ Some x = is in cc)
all_at P (y ∷ xs) zero x all is = let same : y ≡ x = cc in subst P same all.0
all_at P (y ∷ xs) (suc place) x all is = all_at P xs place x all.1 is

blank_front : (before : List Word) (word : Word) (behind : List Word) (others : List (List ℕ)) →
    IsBlank (texts (before ++ word ∷ []) ++ others) → IsBlank (texts (before ++ word ∷ behind))
blank_front [] word behind others blank = blank
blank_front (first ∷ before) word behind others blank = blank

module _ (l : Language) (IsLine : List (List ℕ) → Type 0) (spoken : IsSpoken l IsLine) (cursor : Words) (column : ℕ) (farthest : FitsFarthest l cursor column)
    (filled : IsBlank (texts (words_left cursor)) → ⊥) where
  -- where the words stop being of a form
  stops_of : (form : l.Form) → StopsBy l cursor column form
  stops_of form = let here = spoken.place form in all_at (StopsBy l cursor column) l.forms here.0 form farthest.each here.1

  -- the first words of a form begin a line
  front_begins : (form : l.Form) (words : List (List ℕ)) → Fronts (l.kinds_of form) words → Begins IsLine words
  front_begins form words fronts =
      let rest = continued (l.kinds_of form) words fronts in (rest.1, spoken.line (words ++ rest.1) (form, (rest.0, rest.2)))

  -- no line has all of the words
  none_says : IsLine (texts (words_left cursor)) → ⊥
  none_says is = elim (spoken.form (texts (words_left cursor)) is) [
    | inl blank ↦ filled blank
    | inr of ↦ let stop = stops_of of.0 in stops_no_line (l.kinds_of of.0) of.1.0 (words_left cursor) (end_of cursor) stop.0 stop.1 of.1.1
  ]

  -- the word after those that fit farthest can't continue
  cannot_continue : (low : ℕ) (before : List Word) (word : Word) (behind : List Word) → IsRising low (words_left cursor) (end_of cursor) →
      words_left cursor ≡ before ++ word ∷ behind → column ≡ word.column → Begins IsLine (texts (before ++ word ∷ [])) → ⊥
  cannot_continue low before word behind up cut place begins = elim (spoken.form (texts (before ++ word ∷ []) ++ begins.0) begins.1) [
    | inl blank ↦ filled (subst (λ (ws : List Word). IsBlank (texts ws)) (sym cut) (blank_front before word behind begins.0 blank))
    | inr of ↦
        let stop = stops_of of.0 in
        let fronts = fronts_of (l.kinds_of of.0) of.1.0 (texts (before ++ word ∷ [])) begins.0 of.1.1 in
        let later : word.column < stop.0 = stops_behind (l.kinds_of of.0) before word behind low (end_of cursor) stop.0
        (subst (λ (ws : List Word). IsRising low ws (end_of cursor)) cut up) fronts
        (subst (λ (ws : List Word). Stops (l.kinds_of of.0) ws (end_of cursor) stop.0) cut stop.1) in
        let before_it : stop.0 ≤ column = stop.2 in
        omega arith
  ]

  -- where the form that fits farthest stops, the line goes wrong
  pub goes_wrong : (text : List ℕ) → IsText text → words_left cursor ≡ words_of text → end_of cursor ≡ length text + 1 →
      HasBadWord IsLine text column ⊎ IsUnfinished IsLine text column
  goes_wrong text is_text words_are end_is = by cut.behind refl
    where
      cut : IsCut (l.kinds_of farthest.form) (words_left cursor) (end_of cursor) column
      cut = cut_where (l.kinds_of farthest.form) (words_left cursor) (end_of cursor) column farthest.stops

      up : IsRising 1 (words_left cursor) (end_of cursor)
      up = subst (λ (ws : List Word). IsRising 1 ws (end_of cursor)) (sym words_are)
          (subst (IsRising 1 (words_of text)) (omega arith) (rising 1 1 false text (omega arith)))

      by : (behind : List Word) → cut.behind ≡ behind → HasBadWord IsLine text column ⊎ IsUnfinished IsLine text column
      by [] e =
          let all : words_left cursor ≡ cut.before = cut.cut ∙ ap (λ (ws : List Word). cut.before ++ ws) e ∙ append-nil cut.before in
          let at : column ≡ end_of cursor = subst (λ (ws : List Word). IsColumnOf ws (end_of cursor) column) e cut.place in
          let fronts = subst (λ (ws : List Word). Fronts (l.kinds_of farthest.form) (texts ws)) (sym all ∙ words_are) cut.fronts in
          inr (record {
            is_text = is_text;
            begins = front_begins farthest.form (texts (words_of text)) fronts;
            no_line = λ is. none_says (subst (λ (ws : List Word). IsLine (texts ws)) (sym words_are) is);
            place = at ∙ end_is;
          })
      by (word ∷ behind) e =
          let all : words_left cursor ≡ cut.before ++ word ∷ behind = cut.cut ∙ ap (λ (ws : List Word). cut.before ++ ws) e in
          let at : column ≡ word.column = subst (λ (ws : List Word). IsColumnOf ws (end_of cursor) column) e cut.place in
          inl (record {
            is_text = is_text;
            before = cut.before;
            word = word;
            behind = behind;
            cut = sym words_are ∙ all;
            begins = front_begins farthest.form (texts cut.before) cut.fronts;
            ends = cannot_continue 1 cut.before word behind up all at;
            place = at;
          })

pub not_all : (before : List ℕ) (byte : ℕ) (behind : List ℕ) → is_printable byte ≡ false → list_all is_printable (before ++ byte ∷ behind) ≡ true → ⊥
not_all [] byte behind bad all = by (is_printable byte) bad all
  where
    by : (b : Bool) → b ≡ false → (b && list_all is_printable behind) ≡ true → ⊥
    by true is_false e = cc
    by false is_false e = cc
not_all (first ∷ before) byte behind bad all = by (is_printable first) (not_all before byte behind bad) all
  where
    by : (b : Bool) → (list_all is_printable (before ++ byte ∷ behind) ≡ true → ⊥) → (b && list_all is_printable (before ++ byte ∷ behind)) ≡ true → ⊥
    by true rest e = rest e
    by false rest e = cc

pub texts_cut : (before : List Word) (word : Word) (behind : List Word) → texts (before ++ word ∷ behind) ≡ texts (before ++ word ∷ []) ++ texts behind
texts_cut [] word behind = refl
texts_cut (first ∷ before) word behind = ap (λ (ts : List (List ℕ)). first.text ∷ ts) (texts_cut before word behind)

-- a text that goes wrong is no line's
pub bad_is_no_line : (IsLine : List (List ℕ) → Type 0) (text : List ℕ) (column : ℕ) → GoesWrong IsLine text column → IsText text → IsLine (texts (words_of text)) → ⊥
bad_is_no_line IsLine text column (inl long) is_text is = let short : length text ≤ 512 = is_text.short in let over : 512 < length text = long.0 in omega arith
bad_is_no_line IsLine text column (inr (inl byte)) is_text is =
    let all : list_all is_printable (byte.before ++ byte.byte ∷ byte.behind) ≡ true = ap (list_all is_printable) (sym byte.cut) ∙ is_text.printable in
    not_all byte.before byte.byte byte.behind byte.bad all
bad_is_no_line IsLine text column (inr (inr (inl word))) is_text is =
    word.ends (texts word.behind, subst IsLine (ap texts word.cut ∙ texts_cut word.before word.word word.behind) is)
bad_is_no_line IsLine text column (inr (inr (inr short))) is_text is = short.no_line is

-- the language of a script
said : (words : List (List ℕ)) → IsLine words → IsBlank words ⊎ AreOfSome script words
said words (line, inl blank) = inl blank.1
said words (line, inr so) = inr (so.form, (so.values, so.spelled))

pub script_lines : IsSpoken script IsLine
script_lines = record {
  place = λ form. (place_of form, at_place form);
  line = λ words of. (line_with of.0 of.1.0, inr (record { form = of.0; values = of.1.0; spelled = of.1.1; same = refl }));
  form = said;
}
