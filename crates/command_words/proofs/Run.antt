-- The words after `run`, one at a time.
use Rattle.std.proofs.Common.{◌≡◌, ◌∙◌, ◌||◌, ◌++◌, Bool, true, false, cond, List, [], ◌∷◌, Option, Some, None, codes, refl, ap, find, if◌then◌else◌, is_some, append-nil, option_and_then, slice_get}
use Rattle.std.specs.Str.{bytes_eq}
use Rattle.std.specs.List.{list_any}
use Rattle.std.proofs.lemmas.List.Folds.{list_any-append}
use Rattle.std.proofs.lemmas.Bool.{or_right}
use Rattle.clap.specs.Lexer.{long_of}
use Rattle.clap.specs.Walk.{Row, walked, has_row, first_of, at_row, without, with_values, more_values, reading_by}
use Rattle.clap.specs.declared.builder.value_parser.Reading.{Reading}
use Rattle.clap.specs.declared.parser.matches.ValueSource.{ValueSource}
use Rattle.clap.specs.declared.parser.matches.ValueSource.TheVariants.{CommandLine}
use Rattle.clap.specs.Faults.{turn_fault}
use Rattle.clap.proofs.OnLiterals.{clap_on_literals}
use Rattle.command_words.specs.Forms.{Text}
use Rattle.command_words.specs.Read.{Given}
use Rattle.command_words.proofs.Walk.{Which, refuse, broken, given_of, with_given}
use Rattle.command_words.proofs.Accepted.{is_fault, IsClean, Kind, plain, stranger, bare, attached, name_of, run_leaf, idle_walk, open_walk, tail_fault, tail_rows, pending_fault, rows_with, after_use, option_rule}

pub idle_attached_turn : (rows : List Row) (p : Option (Text × List Text)) (x t : Text) (o : Which) → IsClean x → long_of x ≡ Some (name_of o, Some t) → pending_fault rows p ≡ []
    → has_row (name_of o) (rows_with rows p) ≡ false → turn_fault run_leaf [] (idle_walk rows p) x ≡ []
unfolding clap_on_literals
idle_attached_turn rows p x t refuse cx lx fits new = rw (cx.0, lx, fits, new) refl
idle_attached_turn rows p x t broken cx lx fits new = rw (cx.0, lx, fits, new) refl

pub idle_attached_goes : (rows : List Row) (p : Option (Text × List Text)) (x t : Text) (o : Which) → IsClean x → long_of x ≡ Some (name_of o, Some t)
    → walked run_leaf.rules [] (idle_walk rows p) x ≡ idle_walk (after_use o t (rows_with rows p)) None
unfolding clap_on_literals
idle_attached_goes rows p x t refuse cx lx = rw (cx.0, lx) refl
idle_attached_goes rows p x t broken cx lx = rw (cx.0, lx) refl

pub idle_attached_again : (rows : List Row) (p : Option (Text × List Text)) (x t : Text) (o : Which) (ws : List Text) → IsClean x → long_of x ≡ Some (name_of o, Some t) → pending_fault rows p ≡ []
    → has_row (name_of o) (rows_with rows p) ≡ true → is_fault (tail_fault (idle_walk rows p) (x ∷ ws)) ≡ true
unfolding clap_on_literals
idle_attached_again rows p x t refuse ws cx lx fits has = rw (cx.0, lx, fits, has) refl
idle_attached_again rows p x t broken ws cx lx fits has = rw (cx.0, lx, fits, has) refl

pub open_end : (o : Which) (rs : List Row) → is_fault (tail_fault (open_walk o rs) []) ≡ true
unfolding clap_on_literals
open_end refuse rs = refl
open_end broken rs = refl

pub open_flag : (o : Which) (rs : List Row) (y : Text) (ys : List Text) → IsClean y → Kind y → (long_of y ≡ None → ⊥) → is_fault (tail_fault (open_walk o rs) (y ∷ ys)) ≡ true
unfolding clap_on_literals
open_flag o rs y ys cy (plain l) flag = absurd (flag l)
open_flag refuse rs y ys cy (stranger n v l nr nb) flag = rw (cy.0, l, nr, nb) refl
open_flag broken rs y ys cy (stranger n v l nr nb) flag = rw (cy.0, l, nr, nb) refl
open_flag refuse rs y ys cy (bare refuse l) flag = rw (cy.0, l) refl
open_flag refuse rs y ys cy (bare broken l) flag = rw (cy.0, l) refl
open_flag broken rs y ys cy (bare refuse l) flag = rw (cy.0, l) refl
open_flag broken rs y ys cy (bare broken l) flag = rw (cy.0, l) refl
open_flag refuse rs y ys cy (attached refuse t l) flag = rw (cy.0, l) refl
open_flag refuse rs y ys cy (attached broken t l) flag = rw (cy.0, l) refl
open_flag broken rs y ys cy (attached refuse t l) flag = rw (cy.0, l) refl
open_flag broken rs y ys cy (attached broken t l) flag = rw (cy.0, l) refl

pub open_plain_turn : (o : Which) (rs : List Row) (y : Text) → IsClean y → long_of y ≡ None → turn_fault run_leaf [] (open_walk o rs) y ≡ []
unfolding clap_on_literals
open_plain_turn refuse rs y cy l = rw (cy.0, l, cy.1) refl
open_plain_turn broken rs y cy l = rw (cy.0, l, cy.1) refl

pub open_plain_goes : (o : Which) (rs : List Row) (y : Text) → IsClean y → long_of y ≡ None → walked run_leaf.rules [] (open_walk o rs) y ≡ idle_walk rs (Some (name_of o, y ∷ []))
unfolding clap_on_literals
open_plain_goes refuse rs y cy l = rw (cy.0, l, cy.1) refl
open_plain_goes broken rs y cy l = rw (cy.0, l, cy.1) refl

pub pending_new : (o : Which) (rs : List Row) (y : Text) → has_row (name_of o) rs ≡ false → pending_fault rs (Some (name_of o, y ∷ [])) ≡ []
unfolding clap_on_literals
pending_new refuse rs y new = rw new refl
pending_new broken rs y new = rw new refl

pub pending_rows : (o : Which) (rs : List Row) (y : Text) → rows_with rs (Some (name_of o, y ∷ [])) ≡ after_use o y rs
unfolding clap_on_literals
pending_rows refuse rs y = refl
pending_rows broken rs y = refl

pub pending_again : (o : Which) (rs : List Row) (y : Text) (ws : List Text) → has_row (name_of o) rs ≡ true → is_fault (tail_fault (idle_walk rs (Some (name_of o, y ∷ []))) []) ≡ true
unfolding clap_on_literals
pending_again refuse rs y ws has = rw has refl
pending_again broken rs y ws has = rw has refl

pub pending_again_more : (o : Which) (rs : List Row) (y z : Text) (ws : List Text) → has_row (name_of o) rs ≡ true → IsClean z → Kind z → is_fault (tail_fault (idle_walk rs (Some (name_of o, y ∷ []))) (z ∷ ws)) ≡ true
unfolding clap_on_literals
pending_again_more refuse rs y z ws has cz (plain l) = rw (cz.0, l, cz.1) refl
pending_again_more broken rs y z ws has cz (plain l) = rw (cz.0, l, cz.1) refl
pending_again_more refuse rs y z ws has cz (stranger n v l nr nb) = rw (cz.0, l, nr, nb) refl
pending_again_more broken rs y z ws has cz (stranger n v l nr nb) = rw (cz.0, l, nr, nb) refl
pending_again_more refuse rs y z ws has cz (bare refuse l) = rw (cz.0, l, has) refl
pending_again_more refuse rs y z ws has cz (bare broken l) = rw (cz.0, l, has) refl
pending_again_more broken rs y z ws has cz (bare refuse l) = rw (cz.0, l, has) refl
pending_again_more broken rs y z ws has cz (bare broken l) = rw (cz.0, l, has) refl
pending_again_more refuse rs y z ws has cz (attached refuse t l) = rw (cz.0, l, has) refl
pending_again_more refuse rs y z ws has cz (attached broken t l) = rw (cz.0, l, has) refl
pending_again_more broken rs y z ws has cz (attached refuse t l) = rw (cz.0, l, has) refl
pending_again_more broken rs y z ws has cz (attached broken t l) = rw (cz.0, l, has) refl

-- ---- the end of the words

pub idle_end : (rows : List Row) (p : Option (Text × List Text)) (a b : Bool) → pending_fault rows p ≡ [] → has_row (codes "refuse") (rows_with rows p) ≡ a → has_row (codes "break") (rows_with rows p) ≡ b
    → tail_fault (idle_walk rows p) [] ≡ []
unfolding clap_on_literals
idle_end rows p true true fits ha hb = rw (fits, ha, hb) refl
idle_end rows p true false fits ha hb = rw (fits, ha, hb) refl
idle_end rows p false true fits ha hb = rw (fits, ha, hb) refl
idle_end rows p false false fits ha hb = rw (fits, ha, hb) refl

pub idle_end_rows : (rows : List Row) (p : Option (Text × List Text)) (a b : Bool) → has_row (codes "refuse") (rows_with rows p) ≡ a → has_row (codes "break") (rows_with rows p) ≡ b
    → tail_rows (idle_walk rows p) [] ≡ rows_with rows p
unfolding clap_on_literals
idle_end_rows rows p true true ha hb = rw (ha, hb) refl
idle_end_rows rows p true false ha hb = rw (ha, hb) refl
idle_end_rows rows p false true ha hb = rw (ha, hb) refl
idle_end_rows rows p false false ha hb = rw (ha, hb) refl

-- ---- rows

find-append_left : (p : Row → Bool) (xs ys : List Row) → list_any p ys ≡ false → find p (xs ++ ys) ≡ find p xs
find-append_left p [] ys none = nothing ys none
  where
    nothing : (zs : List Row) → list_any p zs ≡ false → find p zs ≡ None
    nothing [] h = refl
    nothing (z ∷ zs) h = by (p z) h (nothing zs)
      where
        by : (b : Bool) → (b || list_any p zs) ≡ false → (list_any p zs ≡ false → find p zs ≡ None) → cond b (Some z) (find p zs) ≡ None
        by true k ih = cc
        by false k ih = ih k
find-append_left p (x ∷ xs) ys none = ap (λ (r : Option Row). cond (p x) (Some x) r) (find-append_left p xs ys none)

find-append_right : (p : Row → Bool) (xs ys : List Row) → list_any p xs ≡ false → find p (xs ++ ys) ≡ find p ys
find-append_right p [] ys none = refl
find-append_right p (x ∷ xs) ys none = by (p x) none (find-append_right p xs ys)
  where
    by : (b : Bool) → (b || list_any p xs) ≡ false → (list_any p xs ≡ false → find p (xs ++ ys) ≡ find p ys) → cond b (Some x) (find p (xs ++ ys)) ≡ find p ys
    by true k ih = cc
    by false k ih = ih k

absent-at_row : (id : Text) (change : Row → List Row) (missing rs : List Row) → has_row id rs ≡ false → at_row id change missing rs ≡ rs ++ missing
absent-at_row id change missing [] none = refl
absent-at_row id change missing (r ∷ rs) none = by (bytes_eq r.id id) none (absent-at_row id change missing rs)
  where
    by : (b : Bool) → (b || has_row id rs) ≡ false → (has_row id rs ≡ false → at_row id change missing rs ≡ rs ++ missing) → (if b then change r ++ rs else r ∷ at_row id change missing rs) ≡ r ∷ (rs ++ missing)
    by true k ih = cc
    by false k ih = ap (λ l. r ∷ l) (ih k)

without_absent : (id : Text) (rs : List Row) → has_row id rs ≡ false → at_row id (λ _. []) [] rs ≡ rs
without_absent id rs none = absent-at_row id (λ _. []) [] rs none ∙ append-nil rs

with_absent : (id : Text) (how : Reading) (source : ValueSource) (values : List Text) (rs : List Row) → has_row id rs ≡ false → with_values id how source values (without id rs) ≡ rs ++ with_values id how source values []
with_absent id how source values rs none = ap (with_values id how source values) (without_absent id rs none) ∙ absent-at_row id (more_values source values) (with_values id how source values []) rs none

use_new : (o : Which) (t : Text) (rs : List Row) → has_row (name_of o) rs ≡ false → after_use o t rs ≡ rs ++ after_use o t []
use_new refuse t rs none = with_absent (codes "refuse") (reading_by (option_rule refuse)) CommandLine (t ∷ []) rs none
use_new broken t rs none = with_absent (codes "break") (reading_by (option_rule broken)) CommandLine (t ∷ []) rs none

-- the rows hold what was given
pub record Holds (rs : List Row) (g : Given) : Type 0 where
  pub has : (o : Which) → has_row (name_of o) rs ≡ is_some (given_of g o)
  pub first : (o : Which) → first_of (name_of o) rs ≡ given_of g o

pub holds_nothing : Holds [] (record { refuses = None; breaks = None })
holds_nothing = record { has = λ o. has o; first = λ o. first o }
  where
    has : (o : Which) → has_row (name_of o) [] ≡ is_some (given_of (record { refuses = None; breaks = None }) o)
    has refuse = refl
    has broken = refl

    first : (o : Which) → first_of (name_of o) [] ≡ given_of (record { refuses = None; breaks = None }) o
    first refuse = refl
    first broken = refl

or_false : (b : Bool) → (b || false) ≡ b
or_false true = refl
or_false false = refl

is_named : Text → Row → Bool
is_named id r = bytes_eq r.id id

first_in : Option Row → Option Text
first_in o = option_and_then (λ r. slice_get r.values 0) o

pub holds_use : (o : Which) (t : Text) (rs : List Row) (g : Given) → Holds rs g → given_of g o ≡ None → Holds (after_use o t rs) (with_given g o t)
unfolding is_named first_in
holds_use o t rs g h none =
    let new : has_row (name_of o) rs ≡ false = h.has o ∙ ap is_some none in
    let is : after_use o t rs ≡ rs ++ after_use o t [] = use_new o t rs new in
    record {
      has = λ q. ap (has_row (name_of q)) is ∙ list_any-append (is_named (name_of q)) rs (after_use o t []) ∙ has_either o q (has_row (name_of q) rs) (h.has q);
      first = λ q. ap (first_of (name_of q)) is ∙ first_either o q new;
    }
  where
    has_either : (a q : Which) (b : Bool) → b ≡ is_some (given_of g q) → (b || has_row (name_of q) (after_use a t [])) ≡ is_some (given_of (with_given g a t) q)
    has_either refuse refuse b e = or_right b true refl
    has_either refuse broken b e = or_false b ∙ e
    has_either broken refuse b e = or_false b ∙ e
    has_either broken broken b e = or_right b true refl

    first_either : (a q : Which) → has_row (name_of a) rs ≡ false → first_of (name_of q) (rs ++ after_use a t []) ≡ given_of (with_given g a t) q
    first_either refuse refuse e = ap first_in (find-append_right (is_named (codes "refuse")) rs (after_use refuse t []) e)
    first_either refuse broken e = ap first_in (find-append_left (is_named (codes "break")) rs (after_use refuse t []) refl) ∙ h.first broken
    first_either broken refuse e = ap first_in (find-append_left (is_named (codes "refuse")) rs (after_use broken t []) refl) ∙ h.first refuse
    first_either broken broken e = ap first_in (find-append_right (is_named (codes "break")) rs (after_use broken t []) e)
