-- Words are of one form of a language, where each two of its forms are told apart by a word of their own.
use Rattle.std.proofs.Common.{◌≡◌, ℕ, ◌==◌, ◌||◌, Bool, true, false, not, zero, suc, List, [], ◌∷◌, slice_get, slice_index, Some, None, refl, sym, ap, ◌∙◌, subst, inl, inr, eq-eqb}
use Rattle.std.proofs.lemmas.Bool.Decides.{eqb_tells}
use Rattle.std.specs.Cmp.Lexicographic.{pointwise}
use Rattle.std.specs.List.{list_all}
use Rattle.word_text.proofs.Tests.{both_true}
use Rattle.word_text.specs.Grammar.{Kind, ValueOf, Values, AreSpelled, IsSpelled, literal, valued}
use Rattle.script_reader.specs.Languages.{Language}
use Rattle.script_reader.specs.Lines.{IsBlank}

-- what passes in a list passes at each place
pub passes_at : {X : Type 0} (p : X → Bool) (xs : List X) (place : ℕ) (x : X) → list_all p xs ≡ true → slice_get xs place ≡ Some x → p x ≡ true
passes_at p [] place x all is = absurd (let none : None ≡ Some x = is in cc)
passes_at p (y ∷ xs) zero x all is = let same : y ≡ x = cc in ap p (sym same) ∙ (both_true (p y) (list_all p xs) all).0
passes_at p (y ∷ xs) (suc place) x all is = passes_at p xs place x (both_true (p y) (list_all p xs) all).1 is

-- two words of their own that aren't the same
abbrev differ : Kind → Kind → Bool
differ (literal text) (literal other) = not (pointwise ◌==◌ text other)
differ (literal text) (valued what) = false
differ (valued what) other = false

-- forms of different lengths, or with different words of their own in one place
abbrev apart : List Kind → List Kind → Bool
apart [] [] = false
apart [] (kind ∷ kinds) = true
apart (kind ∷ kinds) [] = true
apart (kind ∷ kinds) (other ∷ others) = differ kind other || apart kinds others

alike : (text : List ℕ) → pointwise ◌==◌ text text ≡ true
alike [] = refl
alike (byte ∷ text) = rw (eq-eqb byte byte refl, alike text) refl

-- a word is one of its own alone
differ-never : (kind other : Kind) (a : ValueOf kind) (b : ValueOf other) (text : List ℕ) → IsSpelled kind a text → IsSpelled other b text → differ kind other ≡ true → ⊥
differ-never (literal word) (literal other) a b text one two e =
    let same : pointwise ◌==◌ word other ≡ true = subst (λ (t : List ℕ). pointwise ◌==◌ word t ≡ true) (sym one ∙ two) (alike word) in
    differs (pointwise ◌==◌ word other) same e
  where
    differs : (b : Bool) → b ≡ true → not b ≡ true → ⊥
    differs true is e' = cc
    differs false is e' = cc
differ-never (literal word) (valued what) a b text one two e = cc
differ-never (valued what) other a b text one two e = cc

-- no words are of two forms that are apart
apart-never : (kinds others : List Kind) (a : Values kinds) (b : Values others) (words : List (List ℕ)) →
    AreSpelled kinds a words → AreSpelled others b words → apart kinds others ≡ true → ⊥
apart-never [] [] a b words one two e = cc
apart-never [] (other ∷ others) a b [] one two e = absurd two
apart-never [] (other ∷ others) a b (text ∷ words) one two e = absurd one
apart-never (kind ∷ kinds) [] a b [] one two e = absurd one
apart-never (kind ∷ kinds) [] a b (text ∷ words) one two e = absurd two
apart-never (kind ∷ kinds) (other ∷ others) a b [] one two e = absurd one
apart-never (kind ∷ kinds) (other ∷ others) a b (text ∷ words) one two e =
    by (differ kind other) (differ-never kind other a.0 b.0 text one.0 two.0) (apart-never kinds others a.1 b.1 words one.1 two.1) e
  where
    by : (d : Bool) → (d ≡ true → ⊥) → (apart kinds others ≡ true → ⊥) → (d || apart kinds others) ≡ true → ⊥
    by true never rest e' = never refl
    by false never rest e' = rest e'

-- each two forms are apart, as their places tell
abbrev pub are_apart : (l : Language) → (l.Form → ℕ) → l.Form → l.Form → Bool
are_apart l place_of one other = (place_of one == place_of other) || apart (l.kinds_of one) (l.kinds_of other)

-- a form begins with a word of its own that begins no comment
abbrev pub begins_plainly : List Kind → Bool
begins_plainly [] = false
begins_plainly (literal text ∷ kinds) = not (slice_index text 0 == 35)
begins_plainly (valued what ∷ kinds) = false

-- the words of such a form are no comment
pub plain_not_blank : (kinds : List Kind) (values : Values kinds) (words : List (List ℕ)) → AreSpelled kinds values words → IsBlank words → begins_plainly kinds ≡ true → ⊥
plain_not_blank [] values words spelled blank plain = cc
plain_not_blank (literal text ∷ kinds) values [] spelled blank plain = spelled
plain_not_blank (literal text ∷ kinds) values (word ∷ words) spelled blank plain =
    let first : slice_index text 0 ≡ 35 = ap (λ (t : List ℕ). slice_index t 0) (sym spelled.0) ∙ blank in
    let test : (slice_index text 0 == 35) ≡ true = eq-eqb (slice_index text 0) 35 first in
    let told : false ≡ true = ap not (sym test) ∙ plain in cc
plain_not_blank (valued what ∷ kinds) values words spelled blank plain = cc

-- words of two forms: these are one
pub one_form : (l : Language) (place_of : l.Form → ℕ) → ((form : l.Form) → slice_get l.forms (place_of form) ≡ Some form) →
    list_all (λ one. list_all (λ other. are_apart l place_of one other) l.forms) l.forms ≡ true →
    (one other : l.Form) (a : Values (l.kinds_of one)) (b : Values (l.kinds_of other)) (words : List (List ℕ)) →
    AreSpelled (l.kinds_of one) a words → AreSpelled (l.kinds_of other) b words → one ≡ other
one_form l place_of at_place all_apart one other a b words p q = elim (eqb_tells (place_of one) (place_of other)) [
  | inl told ↦ let here : Some one ≡ Some other = sym (at_place one) ∙ ap (slice_get l.forms) told.1 ∙ at_place other in cc
  | inr told ↦ absurd (apart-never (l.kinds_of one) (l.kinds_of other) a b words p q (differs (place_of one == place_of other) told.0 tested))
]
  where
    tested : are_apart l place_of one other ≡ true
    tested = passes_at (λ form. are_apart l place_of one form) l.forms (place_of other) other
        (passes_at (λ form. list_all (λ second. are_apart l place_of form second) l.forms) l.forms (place_of one) one all_apart (at_place one)) (at_place other)

    differs : (same : Bool) → same ≡ false → (same || apart (l.kinds_of one) (l.kinds_of other)) ≡ true → apart (l.kinds_of one) (l.kinds_of other) ≡ true
    differs true is e = cc
    differs false is e = e
