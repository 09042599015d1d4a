-- How long the written texts are.
use Rattle.std.proofs.Common.{◌≡◌, ℕ, ◌+◌, ◌*◌, ◌/◌, ◌%◌, ◌<◌, ◌≤◌, Bool, true, false, cond, ltb, List, [], ◌∷◌, length, take, drop, zero, suc, Result, Ok, Err, IsOk, ap, ◌∙◌, refl, length-append, length-drop, arith}
use Rattle.std.proofs.Math.Nat.{mod-lt}
use Rattle.std.specs.Int.Digits.{AllBelowBase}
use Rattle.std.specs.List.{flat_map}
use Rattle.std.specs.Vec.{vec_len, vec_capacity}
use Rattle.std.specs.declared.vec.Vec.{Vec}
use Rattle.std.specs.declared.alloc.Global.{Global}
use Rattle.std.proofs.lemmas.List.{length-take-le}
use borrow.Author.Tests.{ltb-false}
use Rattle.number_text.specs.Appends.{Appends}
use Rattle.number_text.specs.Numbers.{hexadecimal}
use Rattle.number_text.proofs.Spelled.{length-digits-le}
use Rattle.addr_text.specs.Canonical.{canonical, groups_of, groups_text, longest_run, octets_of, parts_of, row_text, shortened_by}
use Rattle.addr_text.specs.Forms.{base_of, part_text, parts_text, separator_of}
use Rattle.addr_text.specs.declared.form.Form.{Form}
use Rattle.addr_text.specs.declared.form.Form.TheVariants as form
use Rattle.addr_text.specs.declared.run.Run.{Run}
use Rattle.prefixes.specs.declared.addr.Addr.{Addr}
use Rattle.prefixes.specs.declared.addr.Addr.TheVariants as addr
use Rattle.addr_text.proofs.Parts.{row_text-first}
use Rattle.addr_text.proofs.Runs.{longest_run-within}
use Rattle.addr_text.proofs.Values.{below-append}

pub parts_of-below : (base count n : ℕ) → 0 < base → AllBelowBase base (parts_of base count n)
parts_of-below base zero n some = tt
parts_of-below base (suc count) n some = below-append base (parts_of base count (n / base)) (n % base ∷ []) (parts_of-below base count (n / base) some) (mod-lt n some, tt)

pub parts_of-length : (base count n : ℕ) → length (parts_of base count n) ≡ count
parts_of-length base zero n = refl
parts_of-length base (suc count) n =
    length-append (parts_of base count (n / base)) (n % base ∷ []) ∙ ap (λ (k : ℕ). k + 1) (parts_of-length base count (n / base)) ∙ omega arith

part_short : (f : Form) (x : ℕ) → x < base_of f → length (part_text f x) ≤ 4
part_short form.Octets x below = length-digits-le 10 4 x (omega arith) (omega arith) (omega arith) (omega arith)
part_short form.Groups x below = length-digits-le 16 4 x (omega arith) (omega arith) (omega arith) (omega arith)

behind_short : (f : Form) (xs : List ℕ) → AllBelowBase (base_of f) xs → length (flat_map (λ (v : ℕ). separator_of f ∷ part_text f v) xs) ≤ 5 * length xs
behind_short f [] below = omega arith
behind_short f (x ∷ xs) below =
    let first : length (part_text f x) ≤ 4 = part_short f x below.0 in
    let rest : length (flat_map (λ (v : ℕ). separator_of f ∷ part_text f v) xs) ≤ 5 * length xs = behind_short f xs below.1 in
    let both : length (flat_map (λ (v : ℕ). separator_of f ∷ part_text f v) (x ∷ xs)) ≡ length (separator_of f ∷ part_text f x) + length (flat_map (λ (v : ℕ). separator_of f ∷ part_text f v) xs) =
    length-append (separator_of f ∷ part_text f x) (flat_map (λ (v : ℕ). separator_of f ∷ part_text f v) xs) in
    omega arith

-- at most four bytes a part, and one between each two
parts_text-length : (f : Form) (x : ℕ) (xs : List ℕ) → AllBelowBase (base_of f) (x ∷ xs) → length (parts_text f (x ∷ xs)) + 1 ≤ 5 * length (x ∷ xs)
parts_text-length f x xs below =
    let first : length (part_text f x) ≤ 4 = part_short f x below.0 in
    let rest : length (flat_map (λ (v : ℕ). separator_of f ∷ part_text f v) xs) ≤ 5 * length xs = behind_short f xs below.1 in
    let both : length (parts_text f (x ∷ xs)) ≡ length (part_text f x) + length (flat_map (λ (v : ℕ). separator_of f ∷ part_text f v) xs) =
    ap length (row_text-first (part_text f) (separator_of f) x xs) ∙ length-append (part_text f x) (flat_map (λ (v : ℕ). separator_of f ∷ part_text f v) xs) in
    omega arith

parts_text-short : (f : Form) (xs : List ℕ) → AllBelowBase (base_of f) xs → length (parts_text f xs) ≤ 5 * length xs
parts_text-short f [] below = omega arith
parts_text-short f (x ∷ xs) below = let few : length (parts_text f (x ∷ xs)) + 1 ≤ 5 * length (x ∷ xs) = parts_text-length f x xs below in omega arith

pub below-take : (base k : ℕ) (xs : List ℕ) → AllBelowBase base xs → AllBelowBase base (take k xs)
below-take base zero xs below = tt
below-take base (suc k) [] below = tt
below-take base (suc k) (x ∷ xs) below = (below.0, below-take base k xs below.1)

pub below-drop : (base k : ℕ) (xs : List ℕ) → AllBelowBase base xs → AllBelowBase base (drop k xs)
below-drop base zero xs below = below
below-drop base (suc k) [] below = tt
below-drop base (suc k) (x ∷ xs) below = below-drop base k xs below.1

shortened_short : (run : Run) (groups : List ℕ) → length groups ≡ 8 → AllBelowBase 65536 groups → run.start + run.len ≤ length groups → 2 ≤ run.len → length (shortened_by run groups) ≤ 39
shortened_short run groups eight below within long =
    let left : length (row_text hexadecimal 58 (take run.start groups)) ≤ 5 * length (take run.start groups) = parts_text-short form.Groups (take run.start groups) (below-take 65536 run.start groups below) in
    let right : length (row_text hexadecimal 58 (drop (run.start + run.len) groups)) ≤ 5 * length (drop (run.start + run.len) groups) = parts_text-short form.Groups (drop (run.start + run.len) groups) (below-drop 65536 (run.start + run.len) groups below) in
    let whole : length (shortened_by run groups) ≡ length (row_text hexadecimal 58 (take run.start groups)) + length (58 ∷ 58 ∷ row_text hexadecimal 58 (drop (run.start + run.len) groups)) =
    length-append (row_text hexadecimal 58 (take run.start groups)) (58 ∷ 58 ∷ row_text hexadecimal 58 (drop (run.start + run.len) groups)) in
    let front : length (take run.start groups) ≡ run.start = length-take-le run.start groups (omega arith) in
    omega (arith, length-drop (run.start + run.len) groups)

full_short : (groups : List ℕ) → length groups ≡ 8 → AllBelowBase 65536 groups → length (row_text hexadecimal 58 groups) ≤ 39
full_short [] eight below = absurd (omega arith)
full_short (x ∷ xs) eight below =
    let few : length (row_text hexadecimal 58 (x ∷ xs)) + 1 ≤ 5 * length (x ∷ xs) = parts_text-length form.Groups x xs below in omega arith

groups_text-length : (groups : List ℕ) → length groups ≡ 8 → AllBelowBase 65536 groups → length (groups_text groups) ≤ 39
groups_text-length groups eight below = by (ltb (longest_run groups).len 2) refl
  where
    by : (b : Bool) → ltb (longest_run groups).len 2 ≡ b → length (cond b (row_text hexadecimal 58 groups) (shortened_by (longest_run groups) groups)) ≤ 39
    by true e = full_short groups eight below
    by false e = shortened_short (longest_run groups) groups eight below (longest_run-within groups) (ltb-false (longest_run groups).len 2 e)

-- no canonical text has more than 39 bytes
pub canonical-length : (a : Addr) → length (canonical a) ≤ 39
canonical-length (addr.V4 value) =
    let few : length (parts_text form.Octets (octets_of value)) ≤ 5 * length (octets_of value) = parts_text-short form.Octets (octets_of value) (parts_of-below 256 4 value (omega arith)) in
    omega (arith, few)
canonical-length (addr.V6 value) = groups_text-length (groups_of value) (parts_of-length 65536 8 value) (parts_of-below 65536 8 value (omega arith))

-- a text of at most 39 bytes is written where there is room for them
pub room_for : {T E : Type 0} (old new : Vec ℕ Global) (r : Result T E) (text : List ℕ) → Appends old new r text → length text ≤ 39 → vec_len old + 39 ≤ vec_capacity old → IsOk r
room_for old new (Ok u) text call short room = refl
room_for old new (Err e) text call short room = absurd (let full = call.full in omega arith)
