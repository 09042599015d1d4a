-- From one word of a form to the next.
use Rattle.std.proofs.Common.{◌≡◌, ℕ, ◌+◌, ◌<◌, ◌≤◌, ◌||◌, zero, suc, Bool, true, false, List, [], ◌∷◌, ◌++◌, drop, length, get_or, Option, None, Some, Result, Ok, Err, IsErr, refl, sym, ap, ◌∙◌, subst, arith, drop-cons}
use Rattle.std.specs.declared.alloc.AllocError.{AllocError}
use Rattle.uid_ranges.specs.declared.range.UidRange.{UidRange}
use Rattle.word_text.specs.declared.kind.Kind.{Kind as Coded}
use Rattle.word_text.specs.declared.kind.Kind.TheVariants as coded
use Rattle.word_text.specs.declared.values.Values.{Values as Slots}
use Rattle.script_reader.specs.declared.words.Words.{Words}
use Rattle.script_reader.specs.Cursor.{IsAtEnd, IsNext, Leads, words_left}
use Rattle.script_reader.specs.Finds.{ReadsForm, TakesWord}
use Rattle.script_reader.specs.Lines.{SaysSo}
use Rattle.script_reader.specs.Rows.{kinds_of, says}
use Rattle.script_reader.specs.declared.form.Form.{Form}
use Rattle.script_reader.specs.declared.line.Line.{Line}
use Rattle.word_text.specs.Grammar.{Kind, ValueOf, Values, AreOf, AreSpelled, IsSpelled, SpellsRanges, has_list, is_list, ranges, valued}
use Rattle.word_text.specs.Kinds.{ReadsRanges, kind_of, kinds_in}
use Rattle.word_text.specs.Slots.{ReadsValue, filled, list_with, listed, nothing, put}
use Rattle.script_reader.specs.Words.{Word, texts}
use Rattle.word_text.proofs.OneValue.{one_value}

-- the kinds from a place on
abbrev pub kinds_from : List Coded → ℕ → List Kind
kinds_from kinds place = kinds_in (drop place kinds)

pub kinds_at : (kinds : List Coded) (place : ℕ) (d : Coded) → place < length kinds → kinds_from kinds place ≡ kind_of (get_or kinds place d) ∷ kinds_from kinds (place + 1)
kinds_at kinds place d within = ap kinds_in (drop-cons kinds place d within) ∙ ap (λ (n : ℕ). kind_of (get_or kinds place d) ∷ kinds_in (drop n kinds)) {x = suc place} {y = place + 1} (omega arith)

pub kinds_behind : (kinds : List Coded) (place : ℕ) → length kinds ≤ place → kinds_from kinds place ≡ []
kinds_behind [] place all = none place
  where
    none : (n : ℕ) → kinds_from [] n ≡ []
    none zero = refl
    none (suc n) = refl
kinds_behind (kind ∷ kinds) zero all = absurd (omega arith)
kinds_behind (kind ∷ kinds) (suc place) all = kinds_behind kinds place (omega arith)

-- these are the values and the ranges of the words
abbrev pub AreFilled : List Kind → List (List ℕ) → Slots → List UidRange → Type 0
AreFilled kinds words v list = (values : Values kinds) → AreSpelled kinds values words → (v ≡ filled kinds values nothing) × (list ≡ list_with kinds values [])

-- the values of the words so far were put, and their ranges appended
pub record Fills (kinds rest : List Kind) (from at : Words) (v : Slots) (list : List UidRange) : Type 0 where
  pub each : (values : Values kinds) → AreSpelled kinds values (texts (words_left from)) →
      (others : Values rest) × AreSpelled rest others (texts (words_left at)) × (filled rest others v ≡ filled kinds values nothing)
      × (list_with rest others list ≡ list_with kinds values [])

pub fills_from : (kinds : List Kind) (from : Words) → Fills kinds kinds from from nothing []
fills_from kinds from = record { each = λ values spelled. (values, spelled, refl, refl) }

-- the value of the first word
first_value : (rest : List Kind) (kind : Kind) (at : Words) (text : List ℕ) (values : Values (kind ∷ rest)) → Leads text at → AreSpelled (kind ∷ rest) values (texts (words_left at)) →
    IsSpelled kind values.0 text × AreSpelled rest values.1 (texts (drop 1 (words_left at)))
first_value rest kind at text values leads spelled = subst (λ (ws : List Word). AreSpelled (kind ∷ rest) values (texts ws)) leads spelled

no_first : (rest : List Kind) (kind : Kind) (at : Words) (values : Values (kind ∷ rest)) → IsAtEnd at → AreSpelled (kind ∷ rest) values (texts (words_left at)) → ⊥
no_first rest kind at values ends spelled = subst (λ (ws : List Word). AreSpelled (kind ∷ rest) values (texts ws)) ends.0 spelled

pub fills_on : {T : Type 0} (kinds rest : List Kind) (kind : Kind) (from at next : Words) (text : List ℕ) (old new : Slots) (list more : List UidRange) (done : T) →
    Fills kinds (kind ∷ rest) from at old list → Leads text at → TakesWord {T = T} kind text old new list more (Ok done) → IsNext at next → Fills kinds rest from next new more
fills_on kinds rest kind from at next text old new list more done fills leads takes step = record {
  each = λ values spelled.
      let others = fills.each values spelled in
      let parts = first_value rest kind at text others.0 leads others.1 in
      let took = takes others.0.0 parts.0 in (
        others.0.1,
        subst (λ (ws : List Word). AreSpelled rest others.0.1 (texts ws)) (sym step.words) parts.1,
        ap (filled rest others.0.1) took.0 ∙ others.2,
        ap (list_with rest others.0.1) took.1 ∙ others.3,
      );
}

-- a list among the kinds
pub has_list-at : (kinds : List Coded) (place : ℕ) (d : Coded) → place < length kinds → is_list (kind_of (get_or kinds place d)) ≡ true → has_list (kinds_in kinds) ≡ true
has_list-at [] place d within is = absurd (omega arith)
has_list-at (kind ∷ kinds) zero d within is = ap (λ (b : Bool). b || has_list (kinds_in kinds)) is
has_list-at (kind ∷ kinds) (suc place) d within is = by (is_list (kind_of kind)) (has_list-at kinds place d (omega arith) is)
  where
    by : (b : Bool) → has_list (kinds_in kinds) ≡ true → (b || has_list (kinds_in kinds)) ≡ true
    by true rest = refl
    by false rest = rest

-- the same over the code's kinds, by their places
pub fills_next : {T : Type 0} (kinds : List Coded) (place : ℕ) (d : Coded) (from at next : Words) (text : List ℕ) (old new : Slots) (list more : List UidRange) (done : T) → place < length kinds →
    Fills (kinds_in kinds) (kinds_from kinds place) from at old list → Leads text at → TakesWord {T = T} (kind_of (get_or kinds place d)) text old new list more (Ok done) → IsNext at next →
    Fills (kinds_in kinds) (kinds_from kinds (place + 1)) from next new more
fills_next kinds place d from at next text old new list more done within fills leads takes step =
    fills_on (kinds_in kinds) (kinds_from kinds (place + 1)) (kind_of (get_or kinds place d)) from at next text old new list more done
    (subst (λ (ks : List Kind). Fills (kinds_in kinds) ks from at old list) (kinds_at kinds place d within) fills) leads takes step

pub fills_more : (kinds : List Coded) (place : ℕ) (d : Coded) (from at : Words) (v : Slots) (list : List UidRange) → place < length kinds →
    Fills (kinds_in kinds) (kinds_from kinds place) from at v list → AreOf (kinds_in kinds) (texts (words_left from)) → IsAtEnd at → ⊥
fills_more kinds place d from at v list within fills of ends =
    let others = (subst (λ (ks : List Kind). Fills (kinds_in kinds) ks from at v list) (kinds_at kinds place d within) fills).each of.0 of.1 in
    no_first (kinds_from kinds (place + 1)) (kind_of (get_or kinds place d)) at others.0 ends others.1

pub fills_whole : (kinds : List Coded) (place : ℕ) (from at : Words) (v : Slots) (list : List UidRange) → length kinds ≤ place →
    Fills (kinds_in kinds) (kinds_from kinds place) from at v list → AreFilled (kinds_in kinds) (texts (words_left from)) v list
fills_whole kinds place from at v list all fills values spelled =
    let others = (subst (λ (ks : List Kind). Fills (kinds_in kinds) ks from at v list) (kinds_behind kinds place all) fills).each values spelled in (others.2, others.3)

-- reading a list
pub takes_ranges : (text : List ℕ) (old new : List UidRange) (read : Result Bool AllocError) (told : Bool) → ReadsRanges text old new read → read ≡ Ok told →
    (value : List UidRange) → SpellsRanges text value → new ≡ old ++ value
takes_ranges text old new (Ok true) told reads is value spelled = reads.2 ∙ ap (λ (xs : List UidRange). old ++ xs) (one_value (valued ranges) text reads.0 value reads.1 spelled)
takes_ranges text old new (Ok false) told reads is value spelled = absurd (reads value spelled)
takes_ranges text old new (Err fault) told reads is value spelled = absurd (cc)

-- one kind has a list: the whole form has
pub form_fault : (form : Form) (words : Words) (read : Result Line AllocError) → IsErr read → has_list (kinds_of form) ≡ true → ReadsForm form words read
form_fault form words (Ok line) failed has = absurd (let no : false ≡ true = failed in cc)
form_fault form words (Err fault) failed has = has

-- taking a value
no_list : (kind : Coded) (value : ValueOf (kind_of kind)) (list : List UidRange) → (kind ≡ coded.Ranges → ⊥) → list ≡ listed (kind_of kind) value list
no_list (coded.Word text) value list other = refl
no_list coded.Name value list other = refl
no_list coded.Other value list other = refl
no_list coded.Index value list other = refl
no_list coded.Net value list other = refl
no_list coded.Rank value list other = refl
no_list coded.Table value list other = refl
no_list coded.Permission value list other = refl
no_list coded.Uid value list other = refl
no_list coded.Mark value list other = refl
no_list coded.Range value list other = refl
no_list coded.Ranges value list other = absurd (other refl)
no_list coded.Addr value list other = refl
no_list coded.Prefix value list other = refl

pub takes_value : (kind : Coded) (text : List ℕ) (old new : Slots) (list : List UidRange) (read : Option (Unit {0})) → (kind ≡ coded.Ranges → ⊥) → ReadsValue (kind_of kind) text old new read →
    (value : ValueOf (kind_of kind)) → IsSpelled (kind_of kind) value text → (new ≡ put (kind_of kind) value old) × (list ≡ listed (kind_of kind) value list)
takes_value kind text old new list None other reads value spelled = absurd (reads value spelled)
takes_value kind text old new list (Some done) other reads value spelled =
    let same : reads.0 ≡ value = one_value (kind_of kind) text reads.0 value reads.1 spelled in
    (reads.2 ∙ ap (λ (x : ValueOf (kind_of kind)). put (kind_of kind) x old) same, no_list kind value list other)

-- the line that the values say
pub says_so : (form : Form) (words : List (List ℕ)) (kinds : List Kind) (v : Slots) (list : List UidRange) → kinds ≡ kinds_of form → AreOf (kinds_of form) words → AreFilled kinds words v list →
    SaysSo (says form v list) words
says_so form words kinds v list same of filled_so =
    let are : AreFilled (kinds_of form) words v list = subst (λ (ks : List Kind). AreFilled ks words v list) same filled_so in
    let got = are of.0 of.1 in record {
      form = form;
      values = of.0;
      spelled = of.1;
      same = ap (λ (x : Slots). says form x list) got.0 ∙ ap (λ (xs : List UidRange). says form (filled (kinds_of form) of.0 nothing) xs) got.1;
    }
