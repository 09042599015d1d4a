-- Words that begin a line of a form.
use Rattle.std.proofs.Common.{◌≡◌, ℕ, ◌+◌, ◌<◌, ◌≤◌, ◌||◌, Bool, true, false, suc, cond, List, [], ◌∷◌, ◌++◌, length, refl, ap, subst, inl, inr, arith}
use Rattle.word_text.proofs.Samples.{sample}
use Rattle.word_text.specs.Grammar.{Kind, ValueOf, Values, AreSpelled, IsSpelled}
use Rattle.script_reader.specs.Cursor.{Stops}
use Rattle.script_reader.specs.Words.{Word, texts, word_at, words_from, is_space, is_no_space}

-- the words are the first ones of these kinds
abbrev pub Fronts : List Kind → List (List ℕ) → Type 0
Fronts kinds [] = Unit {0}
Fronts [] (text ∷ others) = ⊥
Fronts (kind ∷ kinds) (text ∷ others) = ((value : ValueOf kind) × IsSpelled kind value text) × Fronts kinds others

samples : (kinds : List Kind) → (values : Values kinds) × (words : List (List ℕ)) × AreSpelled kinds values words
samples [] = (tt, [], tt)
samples (kind ∷ kinds) =
    let one = sample kind in
    let others = samples kinds in
    ((one.0, others.0), one.1 ∷ others.1, (one.2, others.2))

-- the first words can be continued
pub continued : (kinds : List Kind) (words : List (List ℕ)) → Fronts kinds words →
    (values : Values kinds) × (others : List (List ℕ)) × AreSpelled kinds values (words ++ others)
continued kinds [] fronts = samples kinds
continued [] (text ∷ words) fronts = absurd fronts
continued (kind ∷ kinds) (text ∷ words) fronts =
    let others = continued kinds words fronts.1 in
    ((fronts.0.0, others.0), others.1, (fronts.0.1, others.2))

-- what says a line begins with its first words
pub fronts_of : (kinds : List Kind) (values : Values kinds) (words others : List (List ℕ)) → AreSpelled kinds values (words ++ others) → Fronts kinds words
fronts_of kinds values [] others spelled = tt
fronts_of [] values (text ∷ words) others spelled = absurd spelled
fronts_of (kind ∷ kinds) values (text ∷ words) others spelled = ((values.0, spelled.0), fronts_of kinds values.1 words others spelled.1)

-- the first of these words, or the end
abbrev pub IsColumnOf : List Word → ℕ → ℕ → Type 0
IsColumnOf [] end column = column ≡ end
IsColumnOf (word ∷ words) end column = column ≡ word.column

-- words that stop being of these kinds, cut where they do
pub record IsCut (kinds : List Kind) (words : List Word) (end column : ℕ) : Type 0 where
  pub before : List Word
  pub behind : List Word
  pub cut : words ≡ before ++ behind
  pub fronts : Fronts kinds (texts before)
  pub place : IsColumnOf behind end column

pub cut_where : (kinds : List Kind) (words : List Word) (end column : ℕ) → Stops kinds words end column → IsCut kinds words end column
cut_where [] [] end column stops = absurd stops
cut_where [] (word ∷ words) end column stops = record { before = []; behind = word ∷ words; cut = refl; fronts = tt; place = stops }
cut_where (kind ∷ kinds) [] end column stops = record { before = []; behind = []; cut = refl; fronts = tt; place = stops }
cut_where (kind ∷ kinds) (word ∷ words) end column (inl stops) = record { before = []; behind = word ∷ words; cut = refl; fronts = tt; place = stops.1 }
cut_where (kind ∷ kinds) (word ∷ words) end column (inr stops) =
    let rest = cut_where kinds words end column stops.2 in record {
      before = word ∷ rest.before;
      behind = rest.behind;
      cut = ap (λ (ws : List Word). word ∷ ws) rest.cut;
      fronts = ((stops.0, stops.1), rest.fronts);
      place = rest.place;
    }

-- words that stop being of these kinds aren't of them
pub stops_no_line : (kinds : List Kind) (values : Values kinds) (words : List Word) (end column : ℕ) → Stops kinds words end column → AreSpelled kinds values (texts words) → ⊥
stops_no_line [] values [] end column stops spelled = stops
stops_no_line [] values (word ∷ words) end column stops spelled = spelled
stops_no_line (kind ∷ kinds) values [] end column stops spelled = spelled
stops_no_line (kind ∷ kinds) values (word ∷ words) end column (inl stops) spelled = stops.0 values.0 spelled.0
stops_no_line (kind ∷ kinds) values (word ∷ words) end column (inr stops) spelled = stops_no_line kinds values.1 words end column stops.2 spelled.1

-- the columns rise from this one on, up to the end
abbrev pub IsRising : ℕ → List Word → ℕ → Type 0
IsRising low [] end = low ≤ end
IsRising low (word ∷ words) end = (low ≤ word.column) × IsRising (suc word.column) words end

pub rising : (low column : ℕ) (in_word : Bool) (bytes : List ℕ) → low ≤ column → IsRising low (words_from column in_word bytes) (column + length bytes)
rising low column in_word [] below = omega arith
rising low column in_word (byte ∷ bytes) below =
    let whole : suc column + length bytes ≡ column + length (byte ∷ bytes) = omega arith in
    subst (λ (end : ℕ). IsRising low (words_from column in_word (byte ∷ bytes)) end) whole
    (by (is_space byte || in_word) (λ (l : ℕ) (h : l ≤ suc column). rising l (suc column) (is_no_space byte) bytes h))
  where
    by : (b : Bool) → ((l : ℕ) → l ≤ suc column → IsRising l (words_from (suc column) (is_no_space byte) bytes) (suc column + length bytes)) →
        IsRising low (cond b (words_from (suc column) (is_no_space byte) bytes) (record { column = column; text = word_at (byte ∷ bytes) } ∷ words_from (suc column) (is_no_space byte) bytes)) (suc column + length bytes)
    by true rest = rest low (omega arith)
    by false rest = (below, rest (suc column) (omega arith))

-- words that are after a low column stop after it
stops_above : (kinds : List Kind) (words : List Word) (low end column : ℕ) → IsRising low words end → Stops kinds words end column → low ≤ column
stops_above [] [] low end column up stops = absurd stops
stops_above [] (word ∷ words) low end column up stops = let at : low ≤ word.column = up.0 in omega arith
stops_above (kind ∷ kinds) [] low end column up stops = omega arith
stops_above (kind ∷ kinds) (word ∷ words) low end column up (inl stops) = let at : low ≤ word.column = up.0 in omega (arith, stops.1)
stops_above (kind ∷ kinds) (word ∷ words) low end column up (inr stops) =
    let at : low ≤ word.column = up.0 in
    let behind : suc word.column ≤ column = stops_above kinds words (suc word.column) end column up.1 stops.2 in omega arith

-- where the words up to one are the first of these kinds, they stop after it
pub stops_behind : (kinds : List Kind) (before : List Word) (word : Word) (behind : List Word) (low end column : ℕ) →
    IsRising low (before ++ word ∷ behind) end → Fronts kinds (texts (before ++ word ∷ [])) → Stops kinds (before ++ word ∷ behind) end column → word.column < column
stops_behind [] [] word behind low end column up fronts stops = absurd fronts
stops_behind [] (first ∷ before) word behind low end column up fronts stops = absurd fronts
stops_behind (kind ∷ kinds) [] word behind low end column up fronts (inl stops) = absurd (stops.0 fronts.0.0 fronts.0.1)
stops_behind (kind ∷ kinds) [] word behind low end column up fronts (inr stops) = stops_above kinds behind (suc word.column) end column up.1 stops.2
stops_behind (kind ∷ kinds) (first ∷ before) word behind low end column up fronts (inl stops) = absurd (stops.0 fronts.0.0 fronts.0.1)
stops_behind (kind ∷ kinds) (first ∷ before) word behind low end column up fronts (inr stops) =
    stops_behind kinds before word behind (suc first.column) end column up.1 fronts.1 stops.2
