-- The forms of the words after `run` are what the walk over them takes.
use Rattle.std.proofs.Common.{◌≡◌, ◌∙◌, ◌⊎◌, ◌++◌, ◌||◌, Bool, true, false, List, [], ◌∷◌, Option, Some, None, codes, refl, sym, ap, subst, if◌then◌else◌, is_some, append-nil, inl, inr, ℕ, ◌==◌, length, arith}
use Rattle.std.proofs.lemmas.Bool.{eqb-true}
use Rattle.std.proofs.lemmas.Slice.Eq.{bytes_eq-Decides}
use Rattle.std.specs.Str.{bytes_eq}
use Rattle.command_words.specs.Forms.{Text}
use Rattle.command_words.specs.Read.{Given}
use Rattle.command_words.specs.Refused.{is_dashed, is_refused}
use Rattle.command_words.proofs.Accepted.{name_of}
use Rattle.command_words.proofs.Walk.{Which, refuse, broken, Word, plain, stranger, bare, attached, after_prefix, other_word, attached_word, text_word, word_of, given_of, with_given, nothing_given, given_once, idle_step, value_step, run_from, run_given}
use Rattle.command_words.proofs.Words.{prefix_text}

-- the words give the option this text
abbrev pub GivesText : Which → List Text → Text → Type 0
GivesText o ws t = (ws ≡ (codes "--" ++ name_of o) ∷ t ∷ []) ⊎ (ws ≡ (codes "--" ++ name_of o ++ codes "=" ++ t) ∷ [])

-- the same, or no words where there is no text
abbrev pub MayGiveText : Which → List Text → Option Text → Type 0
MayGiveText o ws None = ws ≡ []
MayGiveText o ws (Some t) = GivesText o ws t

-- the words give this, in either order
pub record AreGiven (ws : List Text) (given : Given) : Type 0 where
  pub first : List Text
  pub second : List Text
  pub whole : ws ≡ first ++ second
  pub options : (MayGiveText refuse first given.refuses × MayGiveText broken second given.breaks) ⊎ (MayGiveText broken first given.breaks × MayGiveText refuse second given.refuses)

-- ---- what a word is, from how it is read

text_from_word : (w : Text) (v : Word) → word_of w ≡ v → (v ≡ stranger → ⊥) → text_word w ≡ v
text_from_word w v e other = by (is_refused w) refl
  where
    by : (b : Bool) → is_refused w ≡ b → text_word w ≡ v
    by true r = absurd (other (sym (sym (ap (λ (c : Bool). if c then stranger else text_word w) r) ∙ e)))
    by false r = sym (ap (λ (c : Bool). if c then stranger else text_word w) r) ∙ e

bare_text : (w : Text) (o : Which) → text_word w ≡ bare o → w ≡ codes "--" ++ name_of o
bare_text w o e = by (bytes_eq (codes "--refuse") w) (bytes_eq (codes "--break") w) refl refl
  where
    attached_not : (x y : Option Text) → attached_word x y w ≡ bare o → ⊥
    attached_not (Some t) y h = cc
    attached_not None (Some t) h = cc
    attached_not None None h = other_not (after_prefix (codes "--") w) h
      where
        other_not : (r : Option Text) → other_word r ≡ bare o → ⊥
        other_not None k = cc
        other_not (Some []) k = cc
        other_not (Some (x ∷ xs)) k = cc

    same : (p : Which) → ◌≡◌ {A = Word} (bare p) (bare o) → codes "--" ++ name_of p ≡ codes "--" ++ name_of o
    same p h = let equal : p ≡ o = cc in ap (λ (q : Which). codes "--" ++ name_of q) equal

    by : (a b : Bool) → bytes_eq (codes "--refuse") w ≡ a → bytes_eq (codes "--break") w ≡ b → w ≡ codes "--" ++ name_of o
    by true b ea eb = sym ((bytes_eq-Decides (codes "--refuse") w).0 ea) ∙ same refuse (sym (ap (λ (c : Bool). if c then bare refuse else (if bytes_eq (codes "--break") w then bare broken else attached_word (after_prefix (codes "--refuse=") w) (after_prefix (codes "--break=") w) w)) ea) ∙ e)
    by false true ea eb = sym ((bytes_eq-Decides (codes "--break") w).0 eb) ∙ same broken (sym (rw (ea, eb) refl) ∙ e)
    by false false ea eb = absurd (attached_not (after_prefix (codes "--refuse=") w) (after_prefix (codes "--break=") w) (sym (rw (ea, eb) refl) ∙ e))

attached_text : (w t : Text) (o : Which) → text_word w ≡ attached o t → w ≡ codes "--" ++ name_of o ++ codes "=" ++ t
attached_text w t o e = by (bytes_eq (codes "--refuse") w) (bytes_eq (codes "--break") w) refl refl
  where
    other_not : (r : Option Text) → other_word r ≡ attached o t → ⊥
    other_not None k = cc
    other_not (Some []) k = cc
    other_not (Some (x ∷ xs)) k = cc

    same : (p : Which) (u : Text) → ◌≡◌ {A = Word} (attached p u) (attached o t) → codes "--" ++ name_of p ++ codes "=" ++ u ≡ codes "--" ++ name_of o ++ codes "=" ++ t
    same p u h = let one : p ≡ o = cc in let two : u ≡ t = cc in ap (λ (q : Which). codes "--" ++ name_of q ++ codes "=" ++ u) one ∙ ap (λ (v : Text). codes "--" ++ name_of o ++ codes "=" ++ v) two

    parts : (x y : Option Text) → after_prefix (codes "--refuse=") w ≡ x → after_prefix (codes "--break=") w ≡ y → attached_word x y w ≡ attached o t → w ≡ codes "--" ++ name_of o ++ codes "=" ++ t
    parts (Some u) y ex ey h = prefix_text (codes "--refuse=") w u ex ∙ same refuse u h
    parts None (Some u) ex ey h = prefix_text (codes "--break=") w u ey ∙ same broken u h
    parts None None ex ey h = absurd (other_not (after_prefix (codes "--") w) h)

    by : (a b : Bool) → bytes_eq (codes "--refuse") w ≡ a → bytes_eq (codes "--break") w ≡ b → w ≡ codes "--" ++ name_of o ++ codes "=" ++ t
    by true b ea eb = let bad : ◌≡◌ {A = Word} (bare refuse) (attached o t) = sym (rw ea refl) ∙ e in cc
    by false true ea eb = let bad : ◌≡◌ {A = Word} (bare broken) (attached o t) = sym (rw (ea, eb) refl) ∙ e in cc
    by false false ea eb = parts (after_prefix (codes "--refuse=") w) (after_prefix (codes "--break=") w) refl refl (sym (rw (ea, eb) refl) ∙ e)

-- ---- what the walk takes

-- the words begin with an option that wasn't given before, and the walk goes on after it
record Turn (g : Given) (ws : List Text) (h : Given) : Type 0 where
  which : Which
  text : Text
  front : List Text
  rest : List Text
  gives : GivesText which front text
  whole : ws ≡ front ++ rest
  new : given_of g which ≡ None
  goes : run_from None (with_given g which text) rest ≡ Some h

once : (g h : Given) (o : Which) (t : Text) (next : Given → Option Given) → given_once g o t next ≡ Some h → (given_of g o ≡ None) × (next (with_given g o t) ≡ Some h)
once g h o t next e = by (given_of g o) refl
  where
    by : (x : Option Text) → given_of g o ≡ x → (given_of g o ≡ None) × (next (with_given g o t) ≡ Some h)
    by None k = (k, sym (ap (λ (u : Option Text). if is_some u then None else next (with_given g o t)) k) ∙ e)
    by (Some u) k = let bad : ◌≡◌ {A = Option Given} None (Some h) = sym (ap (λ (v : Option Text). if is_some v then None else next (with_given g o t)) k) ∙ e in cc

turn : (g h : Given) (ws : List Text) → run_from None g ws ≡ Some h → ((ws ≡ []) × (g ≡ h)) ⊎ Turn g ws h
turn g h [] e = let same : g ≡ h = cc in inl (refl, same)
turn g h (w ∷ ws) e = by (word_of w) refl e
  where
    on : Option Which → Given → Option Given
    on o k = run_from o k ws

    waits : (o : Which) (ys : List Text) → ws ≡ ys → word_of w ≡ bare o → run_from (Some o) g ys ≡ Some h → Turn g (w ∷ ws) h
    waits o [] is b k = cc
    waits o (y ∷ ys) is b k = value (word_of y) refl k
      where
        value : (v : Word) → word_of y ≡ v → value_step o g v y (λ q r. run_from q r ys) ≡ Some h → Turn g (w ∷ ws) h
        value plain p m =
            let taken = once g h o y (λ r. run_from None r ys) m in
            record {
              which = o;
              text = y;
              front = w ∷ y ∷ [];
              rest = ys;
              gives = inl (ap (λ (x : Text). x ∷ y ∷ []) (bare_text w o (text_from_word w (bare o) b (λ f. cc))));
              whole = ap (λ (l : List Text). w ∷ l) is;
              new = taken.0;
              goes = taken.1;
            }
        value stranger p m = cc
        value (bare q) p m = cc
        value (attached q t) p m = cc

    by : (v : Word) → word_of w ≡ v → idle_step g v (λ o k. run_from o k ws) ≡ Some h → ((w ∷ ws ≡ []) × (g ≡ h)) ⊎ Turn g (w ∷ ws) h
    by plain v k = cc
    by stranger v k = cc
    by (bare o) v k = inr (waits o ws refl v k)
    by (attached o t) v k =
        let taken = once g h o t (λ r. run_from None r ws) k in
        inr (record {
          which = o;
          text = t;
          front = w ∷ [];
          rest = ws;
          gives = inr (ap (λ (x : Text). x ∷ []) (attached_text w t o (text_from_word w (attached o t) v (λ f. cc))));
          whole = refl;
          new = taken.0;
          goes = taken.1;
        })

-- ---- from the walk to the forms

pair : (ws front back : List Text) (o q : Which) (t u : Text) → GivesText o front t → GivesText q back u → ws ≡ front ++ back → given_of (with_given nothing_given o t) q ≡ None
    → AreGiven ws (with_given (with_given nothing_given o t) q u)
pair ws front back refuse refuse t u a b whole new = cc
pair ws front back refuse broken t u a b whole new = record { first = front; second = back; whole = whole; options = inl (a, b) }
pair ws front back broken refuse t u a b whole new = record { first = front; second = back; whole = whole; options = inr (a, b) }
pair ws front back broken broken t u a b whole new = cc

no_third : (o q r : Which) (t u : Text) → given_of (with_given nothing_given o t) q ≡ None → given_of (with_given (with_given nothing_given o t) q u) r ≡ None → ⊥
no_third refuse refuse r t u a b = cc
no_third broken broken r t u a b = cc
no_third refuse broken refuse t u a b = cc
no_third refuse broken broken t u a b = cc
no_third broken refuse refuse t u a b = cc
no_third broken refuse broken t u a b = cc

single : (ws front : List Text) (o : Which) (t : Text) → GivesText o front t → ws ≡ front ++ [] → AreGiven ws (with_given nothing_given o t)
single ws front refuse t a whole = record { first = front; second = []; whole = whole; options = inl (a, refl) }
single ws front broken t a whole = record { first = front; second = []; whole = whole; options = inr (a, refl) }

pub walk_gives : (ws : List Text) (h : Given) → run_given ws ≡ Some h → AreGiven ws h
walk_gives ws h e = elim (turn nothing_given h ws e) [ inl end ↦ nothing end.0 end.1 | inr t ↦ one t (turn (with_given nothing_given t.which t.text) h t.rest t.goes) ]
  where
    nothing : ws ≡ [] → nothing_given ≡ h → AreGiven ws h
    nothing empty same = subst (AreGiven ws) same (record { first = []; second = []; whole = empty; options = inl (refl, refl) })

    two : (t : Turn nothing_given ws h) (u : Turn (with_given nothing_given t.which t.text) t.rest h) → let g = with_given (with_given nothing_given t.which t.text) u.which u.text in ((u.rest ≡ []) × (g ≡ h)) ⊎ Turn g u.rest h → AreGiven ws h
    two t u (inl end) = subst (AreGiven ws) end.1
        (pair ws t.front u.front t.which u.which t.text u.text t.gives u.gives (t.whole ∙ ap (λ (l : List Text). t.front ++ l) (u.whole ∙ ap (λ (l : List Text). u.front ++ l) end.0 ∙ append-nil u.front)) u.new)
    two t u (inr v) = absurd (no_third t.which u.which v.which t.text u.text u.new v.new)

    one : (t : Turn nothing_given ws h) → let g = with_given nothing_given t.which t.text in ((t.rest ≡ []) × (g ≡ h)) ⊎ Turn g t.rest h → AreGiven ws h
    one t (inl end) = subst (AreGiven ws) end.1 (single ws t.front t.which t.text t.gives (t.whole ∙ ap (λ (l : List Text). t.front ++ l) end.0))
    one t (inr u) = two t u (turn (with_given (with_given nothing_given t.which t.text) u.which u.text) h u.rest u.goes)

-- ---- from the forms to the walk

abbrev pub IsPlainOrNone : Option Text → Type 0
IsPlainOrNone None = Unit {0}
IsPlainOrNone (Some t) = word_of t ≡ plain

abbrev with_option : Given → Which → Option Text → Given
with_option g o None = g
with_option g o (Some t) = with_given g o t

once_new : (g : Given) (o : Which) (t : Text) (next : Given → Option Given) → given_of g o ≡ None → given_once g o t next ≡ next (with_given g o t)
once_new g o t next e = ap (λ (v : Option Text). if is_some v then None else next (with_given g o t)) e

-- a word that begins with two hyphens and more is none of the dashed words
not_dashed : (x : ℕ) (xs : Text) → is_dashed (45 ∷ 45 ∷ x ∷ xs) ≡ false
not_dashed x xs = by (length (x ∷ xs) == 0) refl
  where
    by : (b : Bool) → (length (x ∷ xs) == 0) ≡ b → b ≡ false
    by true e = let none : length (x ∷ xs) ≡ 0 = eqb-true (length (x ∷ xs)) 0 e in absurd (omega arith)
    by false e = refl

attached_is : (o : Which) (t : Text) → word_of (codes "--" ++ name_of o ++ codes "=" ++ t) ≡ attached o t
attached_is refuse t = ap (λ (b : Bool). if b || false then stranger else attached refuse t) (not_dashed 114 (codes "efuse=" ++ t))
attached_is broken t = ap (λ (b : Bool). if b || false then stranger else attached broken t) (not_dashed 98 (codes "reak=" ++ t))

bare_is : (o : Which) → word_of (codes "--" ++ name_of o) ≡ bare o
bare_is refuse = refl
bare_is broken = refl

gives_step : (g : Given) (o : Which) (front rest : List Text) (t : Text) → GivesText o front t → word_of t ≡ plain → given_of g o ≡ None → run_from None g (front ++ rest) ≡ run_from None (with_given g o t) rest
gives_step g o front rest t (inl e) p new =
    ap (λ (l : List Text). run_from None g (l ++ rest)) e
    ∙ ap (λ (v : Word). idle_step g v (λ q r. run_from q r (t ∷ rest))) (bare_is o)
    ∙ ap (λ (v : Word). value_step o g v t (λ q r. run_from q r rest)) p
    ∙ once_new g o t (λ r. run_from None r rest) new
gives_step g o front rest t (inr e) p new =
    ap (λ (l : List Text). run_from None g (l ++ rest)) e
    ∙ ap (λ (v : Word). idle_step g v (λ q r. run_from q r rest)) (attached_is o t)
    ∙ once_new g o t (λ r. run_from None r rest) new

may_step : (g : Given) (o : Which) (front rest : List Text) (x : Option Text) → MayGiveText o front x → IsPlainOrNone x → given_of g o ≡ None → run_from None g (front ++ rest) ≡ run_from None (with_option g o x) rest
may_step g o front rest None a p new = ap (λ (l : List Text). run_from None g (l ++ rest)) a
may_step g o front rest (Some t) a p new = gives_step g o front rest t a p new

-- one option, and then the other, which the first didn't give
both_first : (o other : Which) (first second : List Text) (x y : Option Text) → MayGiveText o first x → MayGiveText other second y → IsPlainOrNone x → IsPlainOrNone y
    → given_of nothing_given o ≡ None → given_of (with_option nothing_given o x) other ≡ None
    → run_given (first ++ second) ≡ run_from None (with_option (with_option nothing_given o x) other y) []
both_first o other first second x y a b px py new_first new_second =
    may_step nothing_given o first second x a px new_first
    ∙ ap (λ (l : List Text). run_from None (with_option nothing_given o x) l) (sym (append-nil second))
    ∙ may_step (with_option nothing_given o x) other second [] y b py new_second

refuse_first : (first second : List Text) (x y : Option Text) → MayGiveText refuse first x → MayGiveText broken second y → IsPlainOrNone x → IsPlainOrNone y → run_given (first ++ second) ≡ Some (record { refuses = x; breaks = y })
refuse_first first second x y a b px py = both_first refuse broken first second x y a b px py refl (new x) ∙ same x y
  where
    new : (v : Option Text) → given_of (with_option nothing_given refuse v) broken ≡ None
    new None = refl
    new (Some t) = refl

    same : (v w : Option Text) → run_from None (with_option (with_option nothing_given refuse v) broken w) [] ≡ Some (record { refuses = v; breaks = w })
    same None None = refl
    same None (Some t) = refl
    same (Some t) None = refl
    same (Some t) (Some u) = refl

break_first : (first second : List Text) (x y : Option Text) → MayGiveText broken first y → MayGiveText refuse second x → IsPlainOrNone x → IsPlainOrNone y → run_given (first ++ second) ≡ Some (record { refuses = x; breaks = y })
break_first first second x y a b px py = both_first broken refuse first second y x a b py px refl (new y) ∙ same x y
  where
    new : (v : Option Text) → given_of (with_option nothing_given broken v) refuse ≡ None
    new None = refl
    new (Some t) = refl

    same : (v w : Option Text) → run_from None (with_option (with_option nothing_given broken w) refuse v) [] ≡ Some (record { refuses = v; breaks = w })
    same None None = refl
    same None (Some t) = refl
    same (Some t) None = refl
    same (Some t) (Some u) = refl

pub given_walks : (ws : List Text) (x y : Option Text) → AreGiven ws (record { refuses = x; breaks = y }) → IsPlainOrNone x → IsPlainOrNone y → run_given ws ≡ Some (record { refuses = x; breaks = y })
given_walks ws x y h px py = ap run_given h.whole ∙ elim h.options [
  | inl o ↦ refuse_first h.first h.second x y o.0 o.1 px py
  | inr o ↦ break_first h.first h.second x y o.0 o.1 px py
]
