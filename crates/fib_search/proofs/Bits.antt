-- Addresses that begin alike.
use Rattle.std.proofs.Common.{◌≡◌, ℕ, ◌+◌, ◌-◌, ◌*◌, ◌/◌, ◌%◌, ◌^◌, ◌<◌, ◌≤◌, ◌==◌, true, inl, inr, refl, sym, ◌∙◌, ap, subst, arith}
use Rattle.std.specs.Bool.{IsTrue}
use Rattle.std.proofs.Math.Nat.{div-div-eq-div-mul, mul-div_left, mul-mod_left}
use Rattle.std.proofs.lemmas.Nat.{pow-add, pow_pos}
use Rattle.std.proofs.lemmas.Bool.{cases_Bool, and_parts, and_from, eqb-true, eqb-false, eq-eqb}
use Rattle.prefixes.specs.Addr.{family_of, width_of, value_of, first_bits, same_family}
use Rattle.prefixes.specs.Prefix.{covers}
use Rattle.prefixes.proofs.Sames.{same_family-true, same_family-refl}
use Rattle.prefixes.specs.declared.addr.Family.{Family}
use Rattle.prefixes.specs.declared.addr.Family.TheVariants as family
use Rattle.prefixes.specs.declared.addr.Addr.{Addr}
use Rattle.prefixes.specs.declared.addr.Addr.TheVariants as addr
use Rattle.prefixes.specs.declared.prefix.Prefix.{Prefix}
use Rattle.fib_search.specs.Node.{bit_at}
use Rattle.fib_search.specs.Alike.{IsAlike as Alike}

abbrev family_width : Family → ℕ
family_width family.V4 = 32
family_width family.V6 = 128

width_is : (a : Addr) → width_of a ≡ family_width (family_of a)
width_is (addr.V4 v) = refl
width_is (addr.V6 v) = refl

pub width-family : (a b : Addr) → family_of a ≡ family_of b → width_of a ≡ width_of b
width-family a b same = width_is a ∙ ap family_width same ∙ sym (width_is b)

pub Alike-sym : (a b : Addr) (n : ℕ) → Alike a b n → Alike b a n
Alike-sym a b n h = record { family = sym h.family; bits = sym h.bits }

pub Alike-trans : (a b c : Addr) (n : ℕ) → Alike a b n → Alike b c n → Alike a c n
Alike-trans a b c n h k = record { family = h.family ∙ k.family; bits = h.bits ∙ k.bits }

-- the first bits of the first bits
shift_more : (v w n m : ℕ) → m ≤ n → n ≤ w → v / 2 ^ (w - n) / 2 ^ (n - m) ≡ v / 2 ^ (w - m)
shift_more v w n m less within =
    let e : (w - n) + (n - m) ≡ w - m = omega arith in
    div-div-eq-div-mul v (2 ^ (w - n)) (2 ^ (n - m)) ∙ ap (λ x. v / x) (sym (pow-add 2 (w - n) (n - m))) ∙ ap (λ x. v / 2 ^ x) e

fewer : (v u w n m : ℕ) → m ≤ n → n ≤ w → v / 2 ^ (w - n) ≡ u / 2 ^ (w - n) → v / 2 ^ (w - m) ≡ u / 2 ^ (w - m)
fewer v u w n m less within same = sym (shift_more v w n m less within) ∙ ap (λ x. x / 2 ^ (n - m)) same ∙ shift_more u w n m less within

pub Alike-fewer : (a b : Addr) (n m : ℕ) → m ≤ n → n ≤ width_of b → Alike a b n → Alike a b m
Alike-fewer a b n m less within h =
    let w : width_of a ≡ width_of b = width-family a b h.family in
    let bits : value_of a / 2 ^ (width_of b - n) ≡ value_of b / 2 ^ (width_of b - n) = ap (λ x. value_of a / 2 ^ (x - n)) (sym w) ∙ h.bits in
    record { family = h.family; bits = ap (λ x. value_of a / 2 ^ (x - m)) w ∙ fewer (value_of a) (value_of b) (width_of b) n m less within bits }

pub Alike-bit : (a b : Addr) (n m : ℕ) → m < n → n ≤ width_of b → Alike a b n → bit_at a m ≡ bit_at b m
Alike-bit a b n m less within h = ap (λ x. x % 2 == 1) (Alike-fewer a b n (m + 1) (omega arith) within h).bits

pub covers-Alike : (p : Prefix) (a : Addr) → IsTrue (covers p a) → Alike p.base a p.len
covers-Alike p a h =
    let parts = and_parts (same_family (family_of p.base) (family_of a)) (first_bits a p.len == first_bits p.base p.len) h in
    record { family = same_family-true _ _ parts.0; bits = sym (eqb-true _ _ parts.1) }

pub Alike-covers : (p : Prefix) (a : Addr) → Alike p.base a p.len → IsTrue (covers p a)
Alike-covers p a h =
    and_from _ _ (subst (λ f. same_family (family_of p.base) f ≡ true) h.family (same_family-refl (family_of p.base))) (eq-eqb _ _ (sym h.bits))

-- the length of a prefix is within the width of what it covers
pub len-within : (p : Prefix) (a : Addr) → IsTrue (covers p a) → p.len ≤ width_of a
len-within p a h =
    let within = p.is_prefix.0 in
    omega (arith, within, width-family p.base a (covers-Alike p a h).family)

pub covers-trans : (p q : Prefix) (a : Addr) → p.len ≤ q.len → IsTrue (covers p q.base) → IsTrue (covers q a) → IsTrue (covers p a)
covers-trans p q a less first second =
    Alike-covers p a (Alike-trans p.base q.base a p.len (covers-Alike p q.base first) (Alike-fewer q.base a q.len p.len less (len-within q a second) (covers-Alike q a second)))

pub covers-bit : (q : Prefix) (a : Addr) (m : ℕ) → m < q.len → IsTrue (covers q a) → bit_at q.base m ≡ bit_at a m
covers-bit q a m less h = Alike-bit q.base a q.len m less (len-within q a h) (covers-Alike q a h)

-- two prefixes of one address: the shorter one covers the longer one
pub covers-both : (p q : Prefix) (a : Addr) → p.len ≤ q.len → IsTrue (covers p a) → IsTrue (covers q a) → IsTrue (covers p q.base)
covers-both p q a less first second =
    Alike-covers p q.base (Alike-trans p.base a q.base p.len (covers-Alike p a first) (Alike-sym q.base a p.len (Alike-fewer q.base a q.len p.len less (len-within q a second) (covers-Alike q a second))))

pub width-most : (a : Addr) → width_of a ≤ 128
width-most (addr.V4 v) = omega arith
width-most (addr.V6 v) = omega arith

last_bit : (x y : ℕ) → (x % 2 == 1) ≡ (y % 2 == 1) → x % 2 ≡ y % 2
last_bit x y same = elim (cases_Bool (x % 2 == 1)) as (λ _. x % 2 ≡ y % 2) [
  | inl one ↦ eqb-true (x % 2) 1 one ∙ sym (eqb-true (y % 2) 1 (sym same ∙ one))
  | inr none ↦
      let a = eqb-false (x % 2) 1 none in
      let b = eqb-false (y % 2) 1 (sym same ∙ none) in
      omega (arith, a, b)
]

halves : (x y : ℕ) → x / 2 ≡ y / 2 → x % 2 ≡ y % 2 → x ≡ y
halves x y most last = omega (arith, most, last)

one_more : (v u w n : ℕ) → n < w → v / 2 ^ (w - n) ≡ u / 2 ^ (w - n) → (v / 2 ^ (w - (n + 1)) % 2 == 1) ≡ (u / 2 ^ (w - (n + 1)) % 2 == 1) → v / 2 ^ (w - (n + 1)) ≡ u / 2 ^ (w - (n + 1))
one_more v u w n within same bit =
    let one : (n + 1) - n ≡ 1 = omega arith in
    let half : (x : ℕ) → x / 2 ^ (w - (n + 1)) / 2 ≡ x / 2 ^ (w - n) = λ x. ap (λ k. x / 2 ^ (w - (n + 1)) / 2 ^ k) (sym one) ∙ shift_more x w (n + 1) n (omega arith) (omega (arith, within)) in
    halves (v / 2 ^ (w - (n + 1))) (u / 2 ^ (w - (n + 1))) (half v ∙ same ∙ sym (half u)) (last_bit (v / 2 ^ (w - (n + 1))) (u / 2 ^ (w - (n + 1))) bit)

-- one bit more
pub Alike-more : (a b : Addr) (n : ℕ) → n < width_of a → Alike a b n → bit_at a n ≡ bit_at b n → Alike a b (n + 1)
Alike-more a b n within h bit =
    let w : width_of b ≡ width_of a = sym (width-family a b h.family) in
    let bits : value_of a / 2 ^ (width_of a - n) ≡ value_of b / 2 ^ (width_of a - n) = h.bits ∙ ap (λ x. value_of b / 2 ^ (x - n)) w in
    let last : (value_of a / 2 ^ (width_of a - (n + 1)) % 2 == 1) ≡ (value_of b / 2 ^ (width_of a - (n + 1)) % 2 == 1) = bit ∙ ap (λ x. value_of b / 2 ^ (x - (n + 1)) % 2 == 1) w in
    record { family = h.family; bits = one_more (value_of a) (value_of b) (width_of a) n within bits last ∙ ap (λ x. value_of b / 2 ^ (x - (n + 1))) (sym w) }

pub cut_again : (v d : ℕ) → v / 2 ^ d * 2 ^ d / 2 ^ d ≡ v / 2 ^ d
cut_again v d = mul-div_left (v / 2 ^ d) (pow_pos d)

pub cut_rest : (v d : ℕ) → v / 2 ^ d * 2 ^ d % 2 ^ d ≡ 0
cut_rest v d = mul-mod_left (v / 2 ^ d) (2 ^ d)
