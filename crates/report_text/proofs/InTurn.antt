-- The texts of a list's elements, which are written in turn.
use Rattle.std.proofs.Common.{◌≡◌, ℕ, ◌+◌, List, take, slice_get, Some, Result, Ok, Err, IsErr, sym, ap}
use Rattle.std.proofs.lemmas.Option.{get_or_from_slice_get, slice_get_within}
use Rattle.std.specs.List.{flat_map}
use Rattle.std.specs.declared.alloc.Global.{Global}
use Rattle.std.specs.declared.vec.Vec.{Vec}
use Rattle.number_text.specs.Appends.{Appends}
use Rattle.number_text.proofs.Appending.{more_written, one_failed, rewritten}

pub one_more : {X E E' E'' : Type 0} (text_of : X → List ℕ) (xs : List X) (i : ℕ) (x : X) {old mid new : Vec ℕ Global} →
    slice_get xs i ≡ Some x → Appends {T = Unit {0}} {E = E} old mid (Ok tt) (flat_map text_of (take i xs)) →
    Appends {T = Unit {0}} {E = E'} mid new (Ok tt) (text_of x) →
    Appends {T = Unit {0}} {E = E''} old new (Ok tt) (flat_map text_of (take (i + 1) xs))
one_more text_of xs i x at before one =
    more_written text_of xs i x tt (slice_get_within xs i x at) before (rewritten (ap text_of (sym (get_or_from_slice_get xs i x x at))) one)

pub one_fails : {X E E' E'' : Type 0} (text_of : X → List ℕ) (xs : List X) (i : ℕ) (x : X) {old mid new : Vec ℕ Global} {error : E'} (r : Result (Unit {0}) E'') →
    slice_get xs i ≡ Some x → IsErr r → Appends {T = Unit {0}} {E = E} old mid (Ok tt) (flat_map text_of (take i xs)) →
    Appends {T = Unit {0}} mid new (Err error) (text_of x) → Appends old new r (flat_map text_of xs)
one_fails text_of xs i x r at is_err before one =
    one_failed text_of xs i x r (slice_get_within xs i x at) is_err before (rewritten (ap text_of (sym (get_or_from_slice_get xs i x x at))) one)
