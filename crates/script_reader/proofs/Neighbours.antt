-- Forms that have their first words in common.
use Rattle.std.proofs.Common.{◌≡◌, ℕ, ◌+◌, ◌<◌, ◌≤◌, ◌==◌, ◌&&◌, Bool, true, false, cond, max, zero, suc, List, [], ◌∷◌, length, take, drop, get_or, refl, sym, ap, ◌∙◌, subst, inl, inr, arith, drop-cons}
use Rattle.std.proofs.Math.ListN.{get_or-map}
use Rattle.std.proofs.lemmas.Bool.Decides.{eqb_tells}
use Rattle.std.proofs.lemmas.List.{drop-drop, length-map}
use Rattle.std.proofs.lemmas.Slice.Eq.{bytes_eq-Decides}
use Rattle.std.specs.List.{AllByRecursion}
use Rattle.std.specs.Str.{bytes_eq}
use Rattle.script_reader.specs.Cursor.{Fit, IsAfter, IsAtEnd, IsNext, Leads, Stops, StopsHere, end_of, words_left}
use Rattle.script_reader.specs.Finds.{StopsAt, StopsBy}
use Rattle.script_reader.specs.Lines.{script}
use Rattle.script_reader.specs.Rows.{forms, kinds_of}
use Rattle.script_reader.specs.Words.{Word, texts}
use Rattle.script_reader.specs.declared.find.Reached.{Reached}
use Rattle.script_reader.specs.declared.form.Entry.{Entry}
use Rattle.script_reader.specs.declared.form.Form.{Form}
use Rattle.script_reader.specs.declared.form.Form.TheVariants as form
use Rattle.script_reader.specs.declared.form.TheConstants.{FORMS}
use Rattle.script_reader.specs.declared.words.Words.{Words}
use Rattle.script_reader.proofs.Farthest.{IsFarthest, one_more}
use Rattle.word_text.proofs.Tests.{both_true}
use Rattle.word_text.specs.Grammar.{Kind, AreOf, Count, Fits, What, addr, count, index, link, literal, mark, named, net, other, permission, prefix, range, ranges, rank, table, uid, valued}
use Rattle.word_text.specs.Kinds.{kind_of, kinds_in}
use Rattle.word_text.specs.declared.kind.Kind.{Kind as Coded}

-- so many of the first kinds are the same
abbrev pub Agree : ℕ → List Kind → List Kind → Type 0
Agree zero kinds others = Unit {0}
Agree (suc shared) [] others = ⊥
Agree (suc shared) (kind ∷ kinds) [] = ⊥
Agree (suc shared) (kind ∷ kinds) (next ∷ others) = (kind ≡ next) × Agree shared kinds others

-- words that are of some first kinds are of the same kinds of another form
pub fit_other : (few many shared : ℕ) (kinds others : List Kind) (words : List Word) → few ≤ many → few ≤ shared → Agree shared kinds others → Fit many kinds words → Fit few others words
fit_other zero many shared kinds others words fewer within agree fit = tt
fit_other (suc few) zero shared kinds others words fewer within agree fit = absurd (omega arith)
fit_other (suc few) (suc many) zero kinds others words fewer within agree fit = absurd (omega arith)
fit_other (suc few) (suc many) (suc shared) [] others words fewer within agree fit = absurd fit
fit_other (suc few) (suc many) (suc shared) (kind ∷ kinds) [] words fewer within agree fit = absurd agree
fit_other (suc few) (suc many) (suc shared) (kind ∷ kinds) (next ∷ others) [] fewer within agree fit = absurd fit
fit_other (suc few) (suc many) (suc shared) (kind ∷ kinds) (next ∷ others) (word ∷ words) fewer within agree fit =
    (subst (λ (k : Kind). Fits k word.text) agree.0 fit.0, fit_other few many shared kinds others words (omega arith) (omega arith) agree.1 fit.1)

-- a form that has more in common stops in the same place
pub stops_alike : (stopped shared : ℕ) (kinds others : List Kind) (words : List Word) (end column : ℕ) → stopped < shared → Agree shared kinds others →
    StopsHere (drop stopped kinds) words end column → StopsHere (drop stopped others) words end column
stops_alike stopped zero kinds others words end column more agree stops = absurd (omega arith)
stops_alike stopped (suc shared) [] others words end column more agree stops = absurd agree
stops_alike stopped (suc shared) (kind ∷ kinds) [] words end column more agree stops = absurd agree
stops_alike zero (suc shared) (kind ∷ kinds) (next ∷ others) [] end column more agree stops = stops
stops_alike zero (suc shared) (kind ∷ kinds) (next ∷ others) (word ∷ words) end column more agree stops = (subst (λ (k : Kind). Fits k word.text → ⊥) agree.0 stops.0, stops.1)
stops_alike (suc stopped) (suc shared) (kind ∷ kinds) (next ∷ others) words end column more agree stops = stops_alike stopped shared kinds others words end column (omega arith) agree.1 stops

pub stops_there : (stopped : ℕ) (kinds : List Kind) (words : List Word) (end column : ℕ) → Fit stopped kinds words → StopsHere (drop stopped kinds) (drop stopped words) end column →
    Stops kinds words end column
stops_there zero [] [] end column fit stops = stops
stops_there zero [] (word ∷ words) end column fit stops = stops
stops_there zero (kind ∷ kinds) [] end column fit stops = stops
stops_there zero (kind ∷ kinds) (word ∷ words) end column fit stops = inl (λ value spelled. stops.0 (value, spelled), stops.1)
stops_there (suc stopped) [] words end column fit stops = absurd fit
stops_there (suc stopped) (kind ∷ kinds) [] end column fit stops = absurd fit
stops_there (suc stopped) (kind ∷ kinds) (word ∷ words) end column fit stops = inr (fit.0.0, fit.0.1, stops_there stopped kinds words end column fit.1 stops)

fit_within : (fitting : ℕ) (kinds : List Kind) (words : List Word) → Fit fitting kinds words → fitting ≤ length kinds
fit_within zero kinds words fit = omega arith
fit_within (suc fitting) [] words fit = absurd fit
fit_within (suc fitting) (kind ∷ kinds) [] fit = absurd fit
fit_within (suc fitting) (kind ∷ kinds) (word ∷ words) fit = omega (arith, fit_within fitting kinds words fit.1)

-- one word more
fit_more : (fitting : ℕ) (kinds rest : List Kind) (words behind : List Word) (kind : Kind) (word : Word) → Fit fitting kinds words → drop fitting kinds ≡ kind ∷ rest →
    drop fitting words ≡ word ∷ behind → Fits kind word.text → Fit (suc fitting) kinds words
fit_more zero [] rest words behind kind word fit kinds_are words_are fits = absurd (cc)
fit_more zero (first ∷ kinds) rest [] behind kind word fit kinds_are words_are fits = absurd (cc)
fit_more zero (first ∷ kinds) rest (here ∷ words) behind kind word fit kinds_are words_are fits =
    let same : kind ≡ first = cc in
    let same_word : word ≡ here = cc in
    (subst (λ (k : Kind). Fits k here.text) same (subst (λ (w : Word). Fits kind w.text) same_word fits), tt)
fit_more (suc fitting) [] rest words behind kind word fit kinds_are words_are fits = absurd fit
fit_more (suc fitting) (first ∷ kinds) rest [] behind kind word fit kinds_are words_are fits = absurd fit
fit_more (suc fitting) (first ∷ kinds) rest (here ∷ words) behind kind word fit kinds_are words_are fits =
    (fit.0, fit_more fitting kinds rest words behind kind word fit.1 kinds_are words_are fits)

fit_whole : (fitting : ℕ) (kinds : List Kind) (words : List Word) → Fit fitting kinds words → drop fitting kinds ≡ [] → drop fitting words ≡ [] → AreOf kinds (texts words)
fit_whole zero [] [] fit kinds_end words_end = (tt, tt)
fit_whole zero [] (word ∷ words) fit kinds_end words_end = absurd (cc)
fit_whole zero (kind ∷ kinds) words fit kinds_end words_end = absurd (cc)
fit_whole (suc fitting) [] words fit kinds_end words_end = absurd fit
fit_whole (suc fitting) (kind ∷ kinds) [] fit kinds_end words_end = absurd fit
fit_whole (suc fitting) (kind ∷ kinds) (word ∷ words) fit kinds_end words_end =
    let rest = fit_whole fitting kinds words fit.1 kinds_end words_end in ((fit.0.0, rest.0), (fit.0.1, rest.1))

-- The first words are of the code's kinds, and the cursor is after them.
pub record Reaches (kinds : List Coded) (from : Words) (reached : ℕ) (after : Words) : Type 0 where
  pub fit : Fit reached (kinds_in kinds) (words_left from)
  pub is_after : IsAfter reached from after

pub next_after : (gone : ℕ) (from after next : Words) → IsAfter gone from after → IsNext after next → IsAfter (gone + 1) from next
next_after gone from after next is_after step = record {
  words = step.words ∙ ap (drop 1) is_after.words ∙ drop-drop 1 gone (words_left from);
  end = step.end ∙ is_after.end;
}

kinds_at : (kinds : List Coded) (place : ℕ) (d : Coded) → place < length kinds → drop place (kinds_in kinds) ≡ kind_of (get_or kinds place d) ∷ drop (suc place) (kinds_in kinds)
kinds_at kinds place d within =
    drop-cons (kinds_in kinds) place (kind_of d) (omega (arith, length-map kinds kind_of))
    ∙ ap (λ (k : Kind). k ∷ drop (suc place) (kinds_in kinds)) (get_or-map kind_of kinds place d)

kinds_end : (kinds : List Coded) (place : ℕ) → length kinds ≤ place → drop place (kinds_in kinds) ≡ []
kinds_end [] zero all = refl
kinds_end [] (suc place) all = refl
kinds_end (kind ∷ kinds) zero all = absurd (omega arith)
kinds_end (kind ∷ kinds) (suc place) all = kinds_end kinds place (omega arith)

pub reaches_next : (kinds : List Coded) (place : ℕ) (d : Coded) (from after next : Words) (text : List ℕ) → place < length kinds → Reaches kinds from place after →
    Leads text after → Fits (kind_of (get_or kinds place d)) text → IsNext after next → Reaches kinds from (place + 1) next
reaches_next kinds place d from after next text within reaches leads fits step = record {
  fit = subst (λ (n : ℕ). Fit n (kinds_in kinds) (words_left from)) {x = suc place} {y = place + 1} (omega arith)
      (fit_more place (kinds_in kinds) (drop (suc place) (kinds_in kinds)) (words_left from) (drop 1 (words_left after)) (kind_of (get_or kinds place d))
      (record { column = after.column; text = text }) reaches.fit (kinds_at kinds place d within) (sym reaches.is_after.words ∙ leads) fits);
  is_after = next_after place from after next reaches.is_after step;
}

-- a word is missing
pub stops_missing : (kinds : List Coded) (place : ℕ) (d : Coded) (from after : Words) → place < length kinds → Reaches kinds from place after → IsAtEnd after →
    StopsAt (kinds_in kinds) from (record { count = place; after = after })
stops_missing kinds place d from after within reaches ends = record {
  fit = reaches.fit;
  after = reaches.is_after;
  stops = subst (λ (ks : List Kind). StopsHere ks (words_left after) (end_of from) after.column) (sym (kinds_at kinds place d within))
      (subst (λ (ws : List Word). StopsHere (kind_of (get_or kinds place d) ∷ drop (suc place) (kinds_in kinds)) ws (end_of from) after.column) (sym ends.0) (ends.1 ∙ reaches.is_after.end));
}

-- a word is none of its kind
pub stops_other : (kinds : List Coded) (place : ℕ) (d : Coded) (from after : Words) (text : List ℕ) → place < length kinds → Reaches kinds from place after → Leads text after →
    (Fits (kind_of (get_or kinds place d)) text → ⊥) → StopsAt (kinds_in kinds) from (record { count = place; after = after })
stops_other kinds place d from after text within reaches leads never = record {
  fit = reaches.fit;
  after = reaches.is_after;
  stops = subst (λ (ks : List Kind). StopsHere ks (words_left after) (end_of from) after.column) (sym (kinds_at kinds place d within))
      (subst (λ (ws : List Word). StopsHere (kind_of (get_or kinds place d) ∷ drop (suc place) (kinds_in kinds)) ws (end_of from) after.column) (sym leads) (never, refl));
}

-- a word is one too many
pub stops_more : (kinds : List Coded) (place : ℕ) (from after : Words) (text : List ℕ) → length kinds ≤ place → Reaches kinds from place after → Leads text after →
    StopsAt (kinds_in kinds) from (record { count = length kinds; after = after })
stops_more kinds place from after text all reaches leads =
    let same : place ≡ length kinds = omega (arith, length-map kinds kind_of, fit_within place (kinds_in kinds) (words_left from) reaches.fit) in
    subst (λ (n : ℕ). StopsAt (kinds_in kinds) from (record { count = n; after = after })) same (record {
      fit = reaches.fit;
      after = reaches.is_after;
      stops = subst (λ (ks : List Kind). StopsHere ks (words_left after) (end_of from) after.column) (sym (kinds_end kinds place all))
          (subst (λ (ws : List Word). StopsHere [] ws (end_of from) after.column) (sym leads) refl);
    })

pub reaches_whole : (kinds : List Coded) (place : ℕ) (from after : Words) → length kinds ≤ place → Reaches kinds from place after → IsAtEnd after → AreOf (kinds_in kinds) (texts (words_left from))
reaches_whole kinds place from after all reaches ends =
    fit_whole place (kinds_in kinds) (words_left from) reaches.fit (kinds_end kinds place all) (sym reaches.is_after.words ∙ ends.0)

-- two kinds are the same
abbrev same_count : Count → Count → Bool
same_count index index = true
same_count net net = true
same_count rank rank = true
same_count table table = true
same_count _ _ = false

abbrev same_what : What → What → Bool
same_what (count one) (count next) = same_count one next
same_what (named link) (named link) = true
same_what (named other) (named other) = true
same_what permission permission = true
same_what uid uid = true
same_what mark mark = true
same_what range range = true
same_what ranges ranges = true
same_what addr addr = true
same_what prefix prefix = true
same_what _ _ = false

abbrev same_kind : Kind → Kind → Bool
same_kind (literal text) (literal next) = bytes_eq text next
same_kind (valued what) (valued next) = same_what what next
same_kind _ _ = false

are_same_count : (one next : Count) → same_count one next ≡ true → one ≡ next
are_same_count index index e = refl
are_same_count net net e = refl
are_same_count rank rank e = refl
are_same_count table table e = refl
are_same_count _ _ e = cc

are_same_what : (one next : What) → same_what one next ≡ true → one ≡ next
are_same_what (count one) (count next) e = ap count (are_same_count one next e)
are_same_what (named link) (named link) e = refl
are_same_what (named other) (named other) e = refl
are_same_what permission permission e = refl
are_same_what uid uid e = refl
are_same_what mark mark e = refl
are_same_what range range e = refl
are_same_what ranges ranges e = refl
are_same_what addr addr e = refl
are_same_what prefix prefix e = refl
are_same_what _ _ e = cc

are_same_kind : (one next : Kind) → same_kind one next ≡ true → one ≡ next
are_same_kind (literal text) (literal next) e = ap literal ((bytes_eq-Decides text next).0 e)
are_same_kind (valued what) (valued next) e = ap valued (are_same_what what next e)
are_same_kind _ _ e = cc

-- how many of the first kinds are the same
abbrev common : List Kind → List Kind → ℕ
common [] others = 0
common (kind ∷ kinds) [] = 0
common (kind ∷ kinds) (next ∷ others) = cond (same_kind kind next) (suc (common kinds others)) 0

common_agree : (kinds others : List Kind) → Agree (common kinds others) kinds others
common_agree [] others = tt
common_agree (kind ∷ kinds) [] = tt
common_agree (kind ∷ kinds) (next ∷ others) = by (same_kind kind next) (are_same_kind kind next) (common_agree kinds others)
  where
    by : (same : Bool) → (same ≡ true → kind ≡ next) → Agree (common kinds others) kinds others → Agree (cond same (suc (common kinds others)) 0) (kind ∷ kinds) (next ∷ others)
    by true is rest = (is refl, rest)
    by false is rest = tt

-- the number of each entry is how much its form has in common with the one before
abbrev are_shared : List Kind → List Entry → Bool
are_shared before [] = true
are_shared before (entry ∷ entries) = (common before (kinds_of entry.form) == entry.shared) && are_shared (kinds_of entry.form) entries

all_shared : are_shared [] FORMS ≡ true
all_shared = refl

abbrev first_entry : Entry
first_entry = record { form = form.Packet; shared = 0 }

shared_at : (before : List Kind) (entries : List Entry) (place : ℕ) → are_shared before entries ≡ true →
    Agree (get_or entries (suc place) first_entry).shared (kinds_of (get_or entries place first_entry).form) (kinds_of (get_or entries (suc place) first_entry).form)
shared_at before [] place all = tt
shared_at before (one ∷ []) place all = tt
shared_at before (one ∷ next ∷ entries) zero all =
    let rest = (both_true (common before (kinds_of one.form) == one.shared) (are_shared (kinds_of one.form) (next ∷ entries)) all).1 in
    let here = (both_true (common (kinds_of one.form) (kinds_of next.form) == next.shared) (are_shared (kinds_of next.form) entries) rest).0 in
    elim (eqb_tells (common (kinds_of one.form) (kinds_of next.form)) next.shared) [
      | inl told ↦ subst (λ (n : ℕ). Agree n (kinds_of one.form) (kinds_of next.form)) told.1 (common_agree (kinds_of one.form) (kinds_of next.form))
      | inr told ↦ absurd (let no : true ≡ false = sym here ∙ told.0 in cc)
    ]
shared_at before (one ∷ next ∷ entries) (suc place) all =
    shared_at (kinds_of one.form) (next ∷ entries) place (both_true (common before (kinds_of one.form) == one.shared) (are_shared (kinds_of one.form) (next ∷ entries)) all).1

abbrev pub entry_at : ℕ → Entry
entry_at place = get_or FORMS place first_entry

abbrev pub kinds_at_entry : ℕ → List Kind
kinds_at_entry place = kinds_of (entry_at place).form

-- None of the forms so far fits past the farthest column. The words that were reached are of kinds that the next form shares.
pub record Tried (cursor : Words) (place : ℕ) (reached : Reached) (farthest : ℕ) : Type 0 where
  pub each : AllByRecursion (StopsBy script cursor farthest) (take place forms)
  pub one : IsFarthest script cursor farthest
  pub after : IsAfter reached.count cursor reached.after
  pub kinds : List Kind
  pub fit : Fit reached.count kinds (words_left cursor)
  pub agree : Agree (entry_at place).shared kinds (kinds_at_entry place)
  pub stops : reached.count < (entry_at place).shared → StopsHere (drop reached.count kinds) (words_left reached.after) (end_of cursor) reached.after.column × (reached.after.column ≤ farthest)

pub tried_none : (cursor : Words) → Tried cursor 0 (record { count = 0; after = cursor }) 0
tried_none cursor = record {
  each = tt;
  one = inl refl;
  after = record { words = refl; end = refl };
  kinds = [];
  fit = tt;
  agree = tt;
  stops = λ less. absurd (omega arith);
}

-- the first words that are known to fit
pub known_fit : (cursor : Words) (place : ℕ) (reached : Reached) (farthest : ℕ) → Tried cursor place reached farthest → (entry_at place).shared ≤ reached.count →
    Fit (entry_at place).shared (kinds_at_entry place) (words_left cursor)
known_fit cursor place reached farthest tried fewer =
    fit_other (entry_at place).shared reached.count (entry_at place).shared tried.kinds (kinds_at_entry place) (words_left cursor) fewer (omega arith) tried.agree tried.fit

-- the form stops here
pub tried_more : (cursor : Words) (place : ℕ) (reached next : Reached) (farthest most : ℕ) → place < length FORMS → Tried cursor place reached farthest →
    most ≡ max farthest next.after.column → StopsAt (kinds_at_entry place) cursor next → Tried cursor (place + 1) next most
tried_more cursor place reached next farthest most within tried is stop =
    let at_form = get_or-map {A = Entry} {B = Form} (λ entry. entry.form) FORMS place first_entry in
    let there = stops_there next.count (kinds_at_entry place) (words_left cursor) (end_of cursor) next.after.column stop.fit
    (subst (λ (ws : List Word). StopsHere (drop next.count (kinds_at_entry place)) ws (end_of cursor) next.after.column) stop.after.words stop.stops) in
    let more = one_more script cursor place farthest next.after.column most form.Packet within is
    (subst (λ (f : Form). Stops (kinds_of f) (words_left cursor) (end_of cursor) next.after.column) (sym at_form) there) (tried.each, tried.one) in
    record {
      each = more.0;
      one = more.1;
      after = stop.after;
      kinds = kinds_at_entry place;
      fit = stop.fit;
      agree = subst (λ (n : ℕ). Agree (entry_at n).shared (kinds_at_entry place) (kinds_at_entry n)) {x = suc place} {y = place + 1} (omega arith) (shared_at [] FORMS place all_shared);
      stops = λ less. (stop.stops, omega arith);
    }

-- it stops where the one before does
pub tried_alike : (cursor : Words) (place : ℕ) (reached : Reached) (farthest : ℕ) → place < length FORMS → Tried cursor place reached farthest → reached.count < (entry_at place).shared →
    Tried cursor (place + 1) reached farthest
tried_alike cursor place reached farthest within tried less =
    let stop = tried.stops less in
    let below : reached.after.column ≤ farthest = stop.1 in
    tried_more cursor place reached reached farthest farthest within tried (omega arith) (record {
      fit = fit_other reached.count reached.count (entry_at place).shared tried.kinds (kinds_at_entry place) (words_left cursor) (omega arith) (omega arith) tried.agree tried.fit;
      after = tried.after;
      stops = stops_alike reached.count (entry_at place).shared tried.kinds (kinds_at_entry place) (words_left reached.after) (end_of cursor) reached.after.column less tried.agree stop.0;
    })
