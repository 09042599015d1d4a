-- What `clap` makes of the words after `run` is what the forms say.
use Rattle.std.proofs.Common.{◌≡◌, ◌∙◌, Bool, true, false, List, [], ◌∷◌, Option, Some, None, codes, refl, sym, ap, ap₂, subst, if◌then◌else◌, is_some}
use Rattle.std.proofs.lemmas.Slice.Eq.{bytes_eq-Decides}
use Rattle.std.specs.Str.{bytes_eq}
use Rattle.clap.specs.Lexer.{long_of}
use Rattle.clap.specs.Kinds.{Kinds}
use Rattle.clap.specs.Walk.{Row, Walk, walked, has_row}
use Rattle.command_words.specs.Forms.{Text}
use Rattle.command_words.specs.Read.{Given, given_in}
use Rattle.command_words.specs.Refused.{is_refused}
use Rattle.command_words.proofs.Walk.{Which, refuse, broken, given_of, with_given, given_once, run_from, word_of, Word, idle_step, value_step, text_word}
use Rattle.command_words.proofs.Walk.{plain as plain_word, stranger as stranger_word, bare as bare_word, attached as attached_word}
use Rattle.command_words.proofs.Accepted.{is_fault, IsClean, Long, Kind, plain, stranger, bare, attached, name_of, run_leaf, idle_walk, open_walk, tail_fault, tail_rows, pending_fault, rows_with, after_use, tail_step, idle_plain, idle_stranger, idle_bare_turn, idle_bare_goes}
use Rattle.command_words.proofs.Words.{text_plain, text_stranger, text_bare, text_attached}
use Rattle.command_words.proofs.Run.{Holds, holds_use, idle_attached_turn, idle_attached_goes, idle_attached_again, open_end, open_flag, open_plain_turn, open_plain_goes, pending_new, pending_rows, pending_again, pending_again_more, idle_end, idle_end_rows}

abbrev pub AreClean : List Text → Type 0
AreClean [] = Unit {0}
AreClean (w ∷ ws) = IsClean w × AreClean ws

pub kind_of_word : (x : Text) → Kind x
kind_of_word x = by (long_of x) refl
  where
    value : (o : Which) (n : Text) (v : Option Text) → long_of x ≡ Some (n, v) → name_of o ≡ n → Kind x
    value o n None l e = bare o (l ∙ ap (λ (t : Text). Some (t, None)) (sym e))
    value o n (Some t) l e = attached o t (l ∙ ap (λ (m : Text). Some (m, Some t)) (sym e))

    named : (a b : Bool) (n : Text) (v : Option Text) → long_of x ≡ Some (n, v) → bytes_eq (codes "refuse") n ≡ a → bytes_eq (codes "break") n ≡ b → Kind x
    named true b n v l ea eb = value refuse n v l ((bytes_eq-Decides (codes "refuse") n).0 ea)
    named false true n v l ea eb = value broken n v l ((bytes_eq-Decides (codes "break") n).0 eb)
    named false false n v l ea eb = stranger n v l ea eb

    by : (o : Long) → long_of x ≡ o → Kind x
    by None l = plain l
    by (Some p) l = named (bytes_eq (codes "refuse") p.0) (bytes_eq (codes "break") p.0) p.0 p.1 l refl refl

-- the word of the forms, from what `clap` sees
seen : (x : Text) (w : Word) → is_refused x ≡ false → text_word x ≡ w → word_of x ≡ w
seen x w d t = ap (λ (b : Bool). if b then stranger_word else text_word x) d ∙ t

word_plain : (x : Text) → IsClean x → long_of x ≡ None → word_of x ≡ plain_word
word_plain x cx l = seen x plain_word cx.2 (text_plain x l)

word_stranger : (x n : Text) (v : Option Text) → IsClean x → long_of x ≡ Some (n, v) → bytes_eq (codes "refuse") n ≡ false → bytes_eq (codes "break") n ≡ false → word_of x ≡ stranger_word
word_stranger x n v cx l nr nb = seen x stranger_word cx.2 (text_stranger x n v l nr nb)

word_bare : (x : Text) (o : Which) → IsClean x → long_of x ≡ Some (name_of o, None) → word_of x ≡ bare_word o
word_bare x o cx l = seen x (bare_word o) cx.2 (text_bare x o l)

word_attached : (x t : Text) (o : Which) → IsClean x → long_of x ≡ Some (name_of o, Some t) → word_of x ≡ attached_word o t
word_attached x t o cx l = seen x (attached_word o t) cx.2 (text_attached x t o l)

-- what the code answers, from the faults and the rows
abbrev pub answer : Kinds → List Row → Option Given
answer k rows = if is_fault k then None else Some (given_in rows)

abbrev from_walk : Walk → List Text → Option Given
from_walk w ws = answer (tail_fault w ws) (tail_rows w ws)

failed : (w : Walk) (ws : List Text) → is_fault (tail_fault w ws) ≡ true → from_walk w ws ≡ None
failed w ws fails = ap (λ b. if b then None else Some (given_in (tail_rows w ws))) fails

stepped : (w v : Walk) (x : Text) (ws : List Text) → tail_fault w (x ∷ ws) ≡ tail_fault v ws → walked run_leaf.rules [] w x ≡ v → from_walk w (x ∷ ws) ≡ from_walk v ws
stepped w v x ws faults goes = ap₂ answer faults (ap (λ (u : Walk). tail_rows u ws) goes)

abbrev IdleAgrees : List Text → Type 0
IdleAgrees ws = (rows : List Row) (p : Option (Text × List Text)) (g : Given) → pending_fault rows p ≡ [] → Holds (rows_with rows p) g → from_walk (idle_walk rows p) ws ≡ run_from None g ws

abbrev OpenAgrees : List Text → Type 0
OpenAgrees ws = (o : Which) (rs : List Row) (g : Given) → Holds rs g → from_walk (open_walk o rs) ws ≡ run_from (Some o) g ws

given_pair : Option Text → Option Text → Option Given
given_pair x y = Some (record { refuses = x; breaks = y })

idle_nil : IdleAgrees []
unfolding given_pair
idle_nil rows p g fits h =
    let none : tail_fault (idle_walk rows p) [] ≡ [] = idle_end rows p (is_some g.refuses) (is_some g.breaks) fits (h.has refuse) (h.has broken) in
    let same : tail_rows (idle_walk rows p) [] ≡ rows_with rows p = idle_end_rows rows p (is_some g.refuses) (is_some g.breaks) (h.has refuse) (h.has broken) in
    ap₂ answer none same ∙ ap₂ given_pair (h.first refuse) (h.first broken)

once_new : (g : Given) (o : Which) (t : Text) (next : Given → Option Given) → given_of g o ≡ None → given_once g o t next ≡ next (with_given g o t)
once_new g o t next e = ap (λ (v : Option Text). if is_some v then None else next (with_given g o t)) e

once_again : (g : Given) (o : Which) (t v : Text) (next : Given → Option Given) → given_of g o ≡ Some v → given_once g o t next ≡ None
once_again g o t v next e = ap (λ (u : Option Text). if is_some u then None else next (with_given g o t)) e

idle_more : (x : Text) (ws : List Text) → IsClean x → Kind x → IdleAgrees ws → OpenAgrees ws → IdleAgrees (x ∷ ws)
idle_more x ws cx (plain l) idle open_ rows p g fits h = failed (idle_walk rows p) (x ∷ ws) (idle_plain rows p x ws cx l)
    ∙ sym (ap (λ (w : Word). idle_step g w (λ o k. run_from o k ws)) (word_plain x cx l))
idle_more x ws cx (stranger n v l nr nb) idle open_ rows p g fits h = failed (idle_walk rows p) (x ∷ ws) (idle_stranger rows p x ws n v cx l nr nb)
    ∙ sym (ap (λ (w : Word). idle_step g w (λ o k. run_from o k ws)) (word_stranger x n v cx l nr nb))
idle_more x ws cx (bare o l) idle open_ rows p g fits h =
    let goes = idle_bare_goes rows p x o cx l in
    stepped (idle_walk rows p) (open_walk o (rows_with rows p)) x ws (tail_step run_leaf (idle_walk rows p) _ x ws (idle_bare_turn rows p x o cx l fits) goes) goes
    ∙ open_ o (rows_with rows p) g h ∙ sym (ap (λ (w : Word). idle_step g w (λ q k. run_from q k ws)) (word_bare x o cx l))
idle_more x ws cx (attached o t l) idle open_ rows p g fits h = by (given_of g o) refl
    ∙ sym (ap (λ (w : Word). idle_step g w (λ q k. run_from q k ws)) (word_attached x t o cx l))
  where
    by : (v : Option Text) → given_of g o ≡ v → from_walk (idle_walk rows p) (x ∷ ws) ≡ given_once g o t (λ k. run_from None k ws)
    by None e =
        let goes = idle_attached_goes rows p x t o cx l in
        stepped (idle_walk rows p) (idle_walk (after_use o t (rows_with rows p)) None) x ws
        (tail_step run_leaf (idle_walk rows p) _ x ws (idle_attached_turn rows p x t o cx l fits (h.has o ∙ ap is_some e)) goes) goes
        ∙ idle (after_use o t (rows_with rows p)) None (with_given g o t) refl (holds_use o t (rows_with rows p) g h e)
        ∙ sym (once_new g o t (λ k. run_from None k ws) e)
    by (Some v) e = failed (idle_walk rows p) (x ∷ ws) (idle_attached_again rows p x t o ws cx l fits (h.has o ∙ ap is_some e)) ∙ sym (once_again g o t v (λ k. run_from None k ws) e)

second_fails : (o : Which) (rs : List Row) (y : Text) (ws : List Text) → has_row (name_of o) rs ≡ true → AreClean ws → is_fault (tail_fault (idle_walk rs (Some (name_of o, y ∷ []))) ws) ≡ true
second_fails o rs y [] has clean = pending_again o rs y [] has
second_fails o rs y (z ∷ zs) has clean = pending_again_more o rs y z zs has clean.0 (kind_of_word z)

not_value : (y n : Text) (v : Option Text) → long_of y ≡ Some (n, v) → long_of y ≡ None → ⊥
not_value y n v l e = let bad : ◌≡◌ {A = Long} None (Some (n, v)) = sym e ∙ l in cc

open_more : (y : Text) (ws : List Text) → IsClean y → AreClean ws → Kind y → IdleAgrees ws → OpenAgrees (y ∷ ws)
open_more y ws cy clean (plain l) idle o rs g h = by (given_of g o) refl ∙ sym (ap (λ (w : Word). value_step o g w y (λ q k. run_from q k ws)) (word_plain y cy l))
  where
    next_walk : Walk
    next_walk = idle_walk rs (Some (name_of o, y ∷ []))

    goes : walked run_leaf.rules [] (open_walk o rs) y ≡ idle_walk rs (Some (name_of o, y ∷ []))
    goes = open_plain_goes o rs y cy l

    moved : from_walk (open_walk o rs) (y ∷ ws) ≡ from_walk (idle_walk rs (Some (name_of o, y ∷ []))) ws
    moved = stepped (open_walk o rs) (idle_walk rs (Some (name_of o, y ∷ []))) y ws (tail_step run_leaf (open_walk o rs) _ y ws (open_plain_turn o rs y cy l) goes) goes

    by : (v : Option Text) → given_of g o ≡ v → from_walk (open_walk o rs) (y ∷ ws) ≡ given_once g o y (λ k. run_from None k ws)
    by None e = moved
        ∙ idle rs (Some (name_of o, y ∷ [])) (with_given g o y) (pending_new o rs y (h.has o ∙ ap is_some e))
        (subst (λ (r : List Row). Holds r (with_given g o y)) (sym (pending_rows o rs y)) (holds_use o y rs g h e))
        ∙ sym (once_new g o y (λ k. run_from None k ws) e)
    by (Some v) e = moved ∙ failed (idle_walk rs (Some (name_of o, y ∷ []))) ws (second_fails o rs y ws (h.has o ∙ ap is_some e) clean) ∙ sym (once_again g o y v (λ k. run_from None k ws) e)
open_more y ws cy clean (stranger n v l nr nb) idle o rs g h = failed (open_walk o rs) (y ∷ ws) (open_flag o rs y ws cy (stranger n v l nr nb) (not_value y n v l))
    ∙ sym (ap (λ (w : Word). value_step o g w y (λ q k. run_from q k ws)) (word_stranger y n v cy l nr nb))
open_more y ws cy clean (bare q l) idle o rs g h = failed (open_walk o rs) (y ∷ ws) (open_flag o rs y ws cy (bare q l) (not_value y (name_of q) None l))
    ∙ sym (ap (λ (w : Word). value_step o g w y (λ q k. run_from q k ws)) (word_bare y q cy l))
open_more y ws cy clean (attached q t l) idle o rs g h = failed (open_walk o rs) (y ∷ ws) (open_flag o rs y ws cy (attached q t l) (not_value y (name_of q) (Some t) l))
    ∙ sym (ap (λ (w : Word). value_step o g w y (λ q k. run_from q k ws)) (word_attached y t q cy l))

both_agree : (ws : List Text) → AreClean ws → IdleAgrees ws × OpenAgrees ws
both_agree [] clean = (idle_nil, λ o rs g h. failed (open_walk o rs) [] (open_end o rs))
both_agree (x ∷ ws) clean =
    let rest = both_agree ws clean.1 in
    (idle_more x ws clean.0 (kind_of_word x) rest.0 rest.1, open_more x ws clean.0 clean.1 (kind_of_word x) rest.0)

pub idle_agrees : (ws : List Text) → AreClean ws → IdleAgrees ws
idle_agrees ws clean = (both_agree ws clean).0
