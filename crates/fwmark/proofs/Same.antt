-- A mark is known by its fields, and by its word.
use Rattle.std.proofs.Common.{◌≡◌, ℕ, ◌+◌, ◌*◌, ◌/◌, ◌%◌, ◌^◌, ◌==◌, ◌<◌, ◌∙◌, Bool, true, false, sym, ap, subst, arith, refl}
use Rattle.std.proofs.Math.Bridge.{le_prop}
use Rattle.fwmark.specs.declared.mark.Mark.{Mark}
use Rattle.fwmark.specs.Mark.{HasFieldsOf, word_of, bit_of}

abbrev mark : ℕ → Bool → Bool → (permission : ℕ) → permission < 4 → (upper : ℕ) → upper < 4096 → Mark
mark net explicit guarded permission two upper twelve =
    record { net = net; explicit = explicit; guarded = guarded; permission = permission; upper = upper; two_bits = two; twelve_bits = twelve }

pub same_fields : (one other : Mark) → one.net ≡ other.net → one.explicit ≡ other.explicit → one.guarded ≡ other.guarded
    → one.permission ≡ other.permission → one.upper ≡ other.upper → one ≡ other
same_fields one other net explicit guarded permission upper =
    let P : ℕ → Type 0 = λ p. (q : p < 4) → one ≡ mark one.net one.explicit one.guarded p q one.upper one.twelve_bits in
    let U : ℕ → Type 0 = λ u. (q : u < 4096) → one ≡ mark one.net one.explicit one.guarded other.permission other.two_bits u q in
    let by_permission = subst P permission (λ q. ap (λ p. mark one.net one.explicit one.guarded one.permission p one.upper one.twelve_bits) (le_prop one.two_bits q)) other.two_bits in
    let by_upper = subst U upper (λ q. by_permission ∙ ap (λ p. mark one.net one.explicit one.guarded other.permission other.two_bits one.upper p) (le_prop one.twelve_bits q)) other.twelve_bits in
    by_upper
    ∙ ap (λ n. mark n one.explicit one.guarded other.permission other.two_bits other.upper other.twelve_bits) net
    ∙ ap (λ e. mark other.net e one.guarded other.permission other.two_bits other.upper other.twelve_bits) explicit
    ∙ ap (λ g. mark other.net other.explicit g other.permission other.two_bits other.upper other.twelve_bits) guarded

-- two marks with the fields of one word are equal
pub same_of : (word : ℕ) (one other : Mark) → HasFieldsOf word one → HasFieldsOf word other → one ≡ other
same_of word one other h k =
    same_fields one other (h.net ∙ sym k.net) (h.explicit ∙ sym k.explicit) (h.guarded ∙ sym k.guarded) (h.permission ∙ sym k.permission) (h.upper ∙ sym k.upper)

-- the fields of a sum of fields by their weights
fields_of_sum : (n e g p u : ℕ) → n < 2 ^ 16 → e < 2 → g < 2 → p < 4
    → (n ≡ (n + 2 ^ 16 * e + 2 ^ 17 * g + 2 ^ 18 * p + 2 ^ 20 * u) % 2 ^ 16)
    × (e ≡ (n + 2 ^ 16 * e + 2 ^ 17 * g + 2 ^ 18 * p + 2 ^ 20 * u) / 2 ^ 16 % 2)
    × (g ≡ (n + 2 ^ 16 * e + 2 ^ 17 * g + 2 ^ 18 * p + 2 ^ 20 * u) / 2 ^ 17 % 2)
    × (p ≡ (n + 2 ^ 16 * e + 2 ^ 17 * g + 2 ^ 18 * p + 2 ^ 20 * u) / 2 ^ 18 % 4)
    × (u ≡ (n + 2 ^ 16 * e + 2 ^ 17 * g + 2 ^ 18 * p + 2 ^ 20 * u) / 2 ^ 20)
fields_of_sum n e g p u hn he hg hp = (omega arith, omega arith, omega arith, omega arith, omega arith)

bit_of-below : (b : Bool) → bit_of b < 2
bit_of-below true = omega arith
bit_of-below false = omega arith

bit-test : (b : Bool) (d : ℕ) → bit_of b ≡ d → b ≡ (d == 1)
bit-test true d h = rw (← h) refl
bit-test false d h = rw (← h) refl

-- a mark has the fields of its own word
pub fields_of-word_of : (mark : Mark) → mark.net < 2 ^ 16 → HasFieldsOf (word_of mark) mark
fields_of-word_of mark fits =
    let all = fields_of_sum mark.net (bit_of mark.explicit) (bit_of mark.guarded) mark.permission mark.upper fits (bit_of-below mark.explicit) (bit_of-below mark.guarded) mark.two_bits in
    record {
      net = all.0;
      explicit = bit-test mark.explicit _ all.1;
      guarded = bit-test mark.guarded _ all.2;
      permission = all.3;
      upper = all.4;
    }

pub same_by_word : (one other : Mark) → one.net < 2 ^ 16 → other.net < 2 ^ 16 → word_of one ≡ word_of other → one ≡ other
same_by_word one other fits fits' same =
    let P : ℕ → Type 0 = λ word. HasFieldsOf word one in
    same_of (word_of other) one other (subst P same (fields_of-word_of one fits)) (fields_of-word_of other fits')
