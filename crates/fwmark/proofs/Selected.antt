-- A value and a mask select a mark exactly where its fields are as the selection states.
use Rattle.std.proofs.Common.{◌≡◌, ◌∙◌, ℕ, ◌+◌, ◌*◌, ◌/◌, ◌%◌, ◌==◌, ◌&&◌, ◌<◌, zero, suc, Bool, true, false, Option, None, Some, refl, sym, ap, arith, bit_and}
use Rattle.std.proofs.lemmas.Bool.Decides.{nat_tests}
use Rattle.std.proofs.lemmas.Nat.{and_block, and_mask, and_le_l, and_le_r}
use Rattle.fwmark.specs.declared.permission.Permission.{Permission}
use Rattle.fwmark.specs.declared.permission.Permission.TheVariants.{Nothing, Network, System}
use Rattle.fwmark.specs.Permission.{bits_of, suffices}
use Rattle.fwmark.specs.Mark.{net_of, is_explicit, is_protected, permission_of_mark}
use Rattle.fwmark.specs.Selection.{Selection, is_stated, is_net, selects, flag_mask, flag_value, net_mask, net_value, mask_of, value_of}

pub suffices-mask : (have : ℕ) (need : Permission) → have < 4 → (bit_and have (bits_of need) == bits_of need) ≡ suffices have need
suffices-mask zero Nothing below = refl
suffices-mask (suc zero) Nothing below = refl
suffices-mask (suc (suc zero)) Nothing below = refl
suffices-mask (suc (suc (suc zero))) Nothing below = refl
suffices-mask zero Network below = refl
suffices-mask (suc zero) Network below = refl
suffices-mask (suc (suc zero)) Network below = refl
suffices-mask (suc (suc (suc zero))) Network below = refl
suffices-mask zero System below = refl
suffices-mask (suc zero) System below = refl
suffices-mask (suc (suc zero)) System below = refl
suffices-mask (suc (suc (suc zero))) System below = refl
suffices-mask (suc (suc (suc (suc n)))) need below = absurd (omega arith)

flag-mask : (stated : Option Bool) (digit : ℕ) → digit < 2 → (bit_and digit (flag_mask stated) == flag_value stated) ≡ is_stated stated (digit == 1)
flag-mask None zero below = refl
flag-mask None (suc zero) below = refl
flag-mask (Some true) zero below = refl
flag-mask (Some true) (suc zero) below = refl
flag-mask (Some false) zero below = refl
flag-mask (Some false) (suc zero) below = refl
flag-mask stated (suc (suc digit)) below = absurd (omega arith)

and-zero : (n : ℕ) → bit_and n 0 ≡ 0
and-zero n = omega (arith, and_le_r n 0)

net-mask : (stated : Option ℕ) (net : ℕ) → net < 0x10000 → (bit_and net (net_mask stated) == net_value stated) ≡ is_net stated net
net-mask None net below = ap (λ n. n == 0) (and-zero net)
net-mask (Some n) net below =
    let whole : bit_and net 0xffff ≡ net = and_mask net 16 ∙ omega arith in
    ap (λ m. m == n) whole

-- two numbers of a high part and one digit are equal exactly where both parts are
pairs-65536 : (a b r s : ℕ) → r < 0x10000 → s < 0x10000 → (a * 0x10000 + r == b * 0x10000 + s) ≡ ((a == b) && (r == s))
pairs-65536 a b r s hr hs = grind (arith, nat_tests)

pairs-2 : (a b r s : ℕ) → r < 2 → s < 2 → (a * 2 + r == b * 2 + s) ≡ ((a == b) && (r == s))
pairs-2 a b r s hr hs = grind (arith, nat_tests)

-- the mask taken field by field
and-fields : (u p g e n q h f m : ℕ) → p < 4 → q < 4 → g < 2 → h < 2 → e < 2 → f < 2 → n < 0x10000 → m < 0x10000
    → bit_and ((((u * 4 + p) * 2 + g) * 2 + e) * 0x10000 + n) (((q * 2 + h) * 2 + f) * 0x10000 + m)
    ≡ ((bit_and p q * 2 + bit_and g h) * 2 + bit_and e f) * 0x10000 + bit_and n m
and-fields u p g e n q h f m hp hq hg hh he hf hn hm =
    and_block 16 (((u * 4 + p) * 2 + g) * 2 + e) ((q * 2 + h) * 2 + f) n m hn hm
    ∙ ap (λ x. x * 0x10000 + bit_and n m) (and_block 1 ((u * 4 + p) * 2 + g) (q * 2 + h) e f he hf)
    ∙ ap (λ x. (x * 2 + bit_and e f) * 0x10000 + bit_and n m) (and_block 1 (u * 4 + p) q g h hg hh)
    ∙ ap (λ x. ((x * 2 + bit_and g h) * 2 + bit_and e f) * 0x10000 + bit_and n m) top
  where
    top : bit_and (u * 4 + p) q ≡ bit_and p q
    top =
        let split : bit_and (u * 4 + p) (0 * 4 + q) ≡ bit_and u 0 * 4 + bit_and p q = and_block 2 u 0 p q hp hq in
        let none : bit_and u 0 ≡ 0 = and-zero u in
        let same : 0 * 4 + q ≡ q = omega arith in
        ap (bit_and (u * 4 + p)) (sym same) ∙ split ∙ omega arith

bits_of-below : (p : Permission) → bits_of p < 4
bits_of-below Nothing = omega arith
bits_of-below Network = omega arith
bits_of-below System = omega arith

flag_mask-below : (f : Option Bool) → flag_mask f < 2
flag_mask-below None = omega arith
flag_mask-below (Some b) = omega arith

flag_value-below : (f : Option Bool) → flag_value f < 2
flag_value-below None = omega arith
flag_value-below (Some true) = omega arith
flag_value-below (Some false) = omega arith

net_mask-below : (n : Option ℕ) → net_mask n < 0x10000
net_mask-below None = omega arith
net_mask-below (Some n) = omega arith

pub value_and_mask-select : (rule : Selection) (word : ℕ) → net_value rule.net < 0x10000 → (bit_and word (mask_of rule) == value_of rule) ≡ selects rule word
value_and_mask-select rule word fits =
    let n = word % 0x10000 in
    let e = word / 0x10000 % 2 in
    let g = word / 0x20000 % 2 in
    let p = word / 0x40000 % 4 in
    let q = bits_of rule.permission in
    let h = flag_mask rule.guarded in
    let f = flag_mask rule.explicit in
    let m = net_mask rule.net in
    let word_is : word ≡ (((word / 0x100000 * 4 + p) * 2 + g) * 2 + e) * 0x10000 + n = omega arith in
    let mask_is : mask_of rule ≡ ((q * 2 + h) * 2 + f) * 0x10000 + m = omega arith in
    let value_is : value_of rule ≡ ((q * 2 + flag_value rule.guarded) * 2 + flag_value rule.explicit) * 0x10000 + net_value rule.net = omega arith in
    let read : bit_and word (mask_of rule) ≡ ((bit_and p q * 2 + bit_and g h) * 2 + bit_and e f) * 0x10000 + bit_and n m =
    ap (λ w. bit_and w (mask_of rule)) word_is
    ∙ ap (bit_and ((((word / 0x100000 * 4 + p) * 2 + g) * 2 + e) * 0x10000 + n)) mask_is
    ∙ and-fields (word / 0x100000) p g e n q h f m (omega arith) (bits_of-below rule.permission) (omega arith) (flag_mask-below rule.guarded) (omega arith) (flag_mask-below rule.explicit) (omega arith) (net_mask-below rule.net) in
    ap (λ x. x == value_of rule) read
    ∙ ap (λ v. ((bit_and p q * 2 + bit_and g h) * 2 + bit_and e f) * 0x10000 + bit_and n m == v) value_is
    ∙ pairs-65536 ((bit_and p q * 2 + bit_and g h) * 2 + bit_and e f) ((q * 2 + flag_value rule.guarded) * 2 + flag_value rule.explicit) (bit_and n m) (net_value rule.net) (omega (arith, and_le_l n m)) fits
    ∙ ap (λ t. t && (bit_and n m == net_value rule.net))
    (pairs-2 (bit_and p q * 2 + bit_and g h) (q * 2 + flag_value rule.guarded) (bit_and e f) (flag_value rule.explicit) (omega (arith, and_le_l e f)) (flag_value-below rule.explicit)
    ∙ ap (λ t. t && (bit_and e f == flag_value rule.explicit))
    (pairs-2 (bit_and p q) q (bit_and g h) (flag_value rule.guarded) (omega (arith, and_le_l g h)) (flag_value-below rule.guarded)))
    ∙ tests
  where
    tests : ((((bit_and (word / 0x40000 % 4) (bits_of rule.permission) == bits_of rule.permission)
        && (bit_and (word / 0x20000 % 2) (flag_mask rule.guarded) == flag_value rule.guarded))
        && (bit_and (word / 0x10000 % 2) (flag_mask rule.explicit) == flag_value rule.explicit))
        && (bit_and (word % 0x10000) (net_mask rule.net) == net_value rule.net)) ≡ selects rule word
    tests =
        let p' : (bit_and (word / 0x40000 % 4) (bits_of rule.permission) == bits_of rule.permission) ≡ suffices (permission_of_mark word) rule.permission = suffices-mask (word / 0x40000 % 4) rule.permission (omega arith) in
        let g' : (bit_and (word / 0x20000 % 2) (flag_mask rule.guarded) == flag_value rule.guarded) ≡ is_stated rule.guarded (is_protected word) = flag-mask rule.guarded (word / 0x20000 % 2) (omega arith) in
        let e' : (bit_and (word / 0x10000 % 2) (flag_mask rule.explicit) == flag_value rule.explicit) ≡ is_stated rule.explicit (is_explicit word) = flag-mask rule.explicit (word / 0x10000 % 2) (omega arith) in
        let n' : (bit_and (word % 0x10000) (net_mask rule.net) == net_value rule.net) ≡ is_net rule.net (net_of word) = net-mask rule.net (word % 0x10000) (omega arith) in
        rw (p', g', e', n') refl
