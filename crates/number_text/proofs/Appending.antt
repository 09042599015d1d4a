-- Texts that are written one after the other.
use Rattle.std.proofs.Common.{◌≡◌, ℕ, ◌+◌, ◌<◌, List, [], ◌∷◌, ◌++◌, length, take, drop, get_or, Result, Ok, Err, IsErr, true, false, ◌∙◌, sym, ap, append_assoc, length-append, subst, arith}
use Rattle.std.specs.List.{flat_map}
use Rattle.std.proofs.lemmas.List.{append-nil, take_more, take-append-drop}
use Rattle.std.proofs.lemmas.List.Concat.{flat_map-append}
use Rattle.std.specs.declared.vec.Vec.{Vec}
use Rattle.std.specs.declared.alloc.Global.{Global}
use Rattle.number_text.specs.Appends.{Appends, BeginsWith}

-- the first call failed: so did the whole
pub first_failed : {T T' E E' : Type 0} {old new : Vec ℕ Global} {error : E} (r : Result T' E') {xs : List ℕ} (ys : List ℕ) →
    IsErr r → Appends {T = T} old new (Err error) xs → Appends old new r (xs ++ ys)
first_failed (Ok u) ys is_err first = absurd (let no : false ≡ true = is_err in cc)
first_failed (Err e) {xs} ys is_err first = record {
  written = tt;
  front = first.front;
  full = let most = first.full in omega (arith, length-append xs ys);
  capacity = first.capacity;
}

-- what begins with the longer begins with the shorter
BeginsWith-trans : (old mid new : List ℕ) → BeginsWith mid old → BeginsWith new mid → BeginsWith new old
BeginsWith-trans old mid new first second =
    (first.0 ++ second.0, second.1 ∙ ap (λ (ws : List ℕ). ws ++ second.0) first.1 ∙ append_assoc old first.0 second.0)

-- two calls in a row write both texts
pub both : {T T' E E' : Type 0} {old mid new : Vec ℕ Global} {done : T} (r : Result T' E') {xs ys : List ℕ} →
    Appends {E = E} old mid (Ok done) xs → Appends mid new r ys → Appends old new r (xs ++ ys)
both {old} {mid} {new} (Ok u) {xs} {ys} first second = record {
  written = second.written ∙ ap (λ (ws : List ℕ). ws ++ ys) first.written ∙ append_assoc old.items xs ys;
  front = BeginsWith-trans old.items mid.items new.items first.front second.front;
  full = tt;
  capacity = let a = first.capacity in let b = second.capacity in omega arith;
}
both {old} {mid} {new} (Err e) {xs} {ys} first second = record {
  written = tt;
  front = BeginsWith-trans old.items mid.items new.items first.front second.front;
  full =
      let grown : length mid.items ≡ length old.items + length xs = ap length first.written ∙ length-append old.items xs in
      let a = first.capacity in let b = second.full in omega (arith, length-append xs ys, grown, old.ok.0, mid.ok.0);
  capacity = let a = first.capacity in let b = second.capacity in omega arith;
}

-- the same text, spelled in another way
pub rewritten : {T E : Type 0} {old new : Vec ℕ Global} {r : Result T E} {xs ys : List ℕ} → xs ≡ ys → Appends old new r xs → Appends old new r ys
rewritten {old} {new} {r} e first = subst (λ (ws : List ℕ). Appends old new r ws) e first

-- a call that did succeed, with another value
succeeded : {T T' E E' : Type 0} {old new : Vec ℕ Global} {done : T} {done' : T'} {text : List ℕ} →
    Appends {E = E} old new (Ok done) text → Appends {E = E'} old new (Ok done') text
succeeded call = record { written = call.written; front = call.front; full = tt; capacity = call.capacity }

flat_map-more : {X : Type 0} (text_of : X → List ℕ) (xs : List X) (i : ℕ) (x : X) → i < length xs →
    flat_map text_of (take (i + 1) xs) ≡ flat_map text_of (take i xs) ++ text_of (get_or xs i x)
flat_map-more text_of xs i x below =
    ap (flat_map text_of) (take_more xs i x below)
    ∙ flat_map-append text_of (take i xs) (get_or xs i x ∷ [])
    ∙ ap (λ (ws : List ℕ). flat_map text_of (take i xs) ++ ws) (append-nil (text_of (get_or xs i x)))

flat_map-rest : {X : Type 0} (text_of : X → List ℕ) (xs : List X) (i : ℕ) → flat_map text_of (take i xs) ++ flat_map text_of (drop i xs) ≡ flat_map text_of xs
flat_map-rest text_of xs i = sym (flat_map-append text_of (take i xs) (drop i xs)) ∙ ap (flat_map text_of) (take-append-drop i xs)

-- before the first of some texts
pub nothing_written : {T E : Type 0} (v : Vec ℕ Global) (done : T) → Appends {E = E} v v (Ok done) []
nothing_written v done = record {
  written = sym (append-nil v.items);
  front = ([], sym (append-nil v.items));
  full = tt;
  capacity = omega arith;
}

-- one more of some texts in a row
pub more_written : {X T T' T'' E E' E'' : Type 0} (text_of : X → List ℕ) (xs : List X) (i : ℕ) (x : X) {old mid new : Vec ℕ Global} {done : T} {done' : T'} (done'' : T'') → i < length xs →
    Appends {E = E} old mid (Ok done) (flat_map text_of (take i xs)) → Appends {E = E'} mid new (Ok done') (text_of (get_or xs i x)) →
    Appends {E = E''} old new (Ok done'') (flat_map text_of (take (i + 1) xs))
more_written text_of xs i x done'' below before one =
    let joined = both (Ok done'') before (succeeded one) in
    rewritten (sym (flat_map-more text_of xs i x below)) joined

-- one of some texts failed: so did the whole
pub one_failed : {X T T' T'' E E' E'' : Type 0} (text_of : X → List ℕ) (xs : List X) (i : ℕ) (x : X) {old mid new : Vec ℕ Global} {done : T} {error : E'} (r : Result T'' E'') → i < length xs → IsErr r →
    Appends {E = E} old mid (Ok done) (flat_map text_of (take i xs)) → Appends {T = T'} mid new (Err error) (text_of (get_or xs i x)) →
    Appends old new r (flat_map text_of xs)
one_failed text_of xs i x {error = error} r below is_err before one =
    rewritten {r = r} (ap (λ (ws : List ℕ). ws ++ flat_map text_of (drop (i + 1) xs)) (sym (flat_map-more text_of xs i x below)) ∙ flat_map-rest text_of xs (i + 1)) (first_failed r (flat_map text_of (drop (i + 1) xs)) is_err (both (Err error) before one))
