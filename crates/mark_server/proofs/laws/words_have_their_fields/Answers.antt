use Rattle.std.proofs.Common.{◌≡◌, ◌∙◌, ◌/◌, ◌%◌, ◌^◌, ◌==◌, ℕ, Bool, cond, sym, ap, arith}
use Rattle.fwmark.proofs.Bits.{digit-test, fields-sum}
use Rattle.fwmark.proofs.Same.{fields_of-word_of}
use Rattle.fwmark.specs.declared.mark.Mark.{Mark}
use Rattle.mark_server.specs.Fields.{Fields, fields_of, word_of}
use Rattle.std.proofs.lemmas.Nat.Bits.{bit_at-lt}
use Rattle.mark_server.proofs.laws.words_have_their_fields.Goals as goal

fields : ℕ → Bool → Bool → ℕ → ℕ → Fields
fields net explicit guarded permission upper = record { net = net; explicit = explicit; guarded = guarded; permission = permission; upper = upper }

same_fields : (a b : Fields) → a.net ≡ b.net → a.explicit ≡ b.explicit → a.guarded ≡ b.guarded → a.permission ≡ b.permission → a.upper ≡ b.upper → a ≡ b
unfolding fields
same_fields a b net explicit guarded permission upper =
    ap (λ n. fields n a.explicit a.guarded a.permission a.upper) net
    ∙ ap (λ e. fields b.net e a.guarded a.permission a.upper) explicit
    ∙ ap (λ g. fields b.net b.explicit g a.permission a.upper) guarded
    ∙ ap (λ p. fields b.net b.explicit b.guarded p a.upper) permission
    ∙ ap (λ u. fields b.net b.explicit b.guarded b.permission u) upper

pub returns-clause-fields : goal.returns-clause-fields
returns-clause-fields c = λ f net permission upper.
    let mark : Mark = record { net = f.net; explicit = f.explicit; guarded = f.guarded; permission = f.permission; upper = f.upper; two_bits = permission; twelve_bits = upper } in
    let h = fields_of-word_of mark net in
    same_fields (fields_of (word_of f)) f (sym h.net) (sym h.explicit) (sym h.guarded) (sym h.permission) (sym h.upper)

pub returns-clause-word : goal.returns-clause-word
returns-clause-word c = λ word.
    let d1 : cond (word / 2 ^ 16 % 2 == 1) 1 0 ≡ word / 2 ^ 16 % 2 = digit-test _ (bit_at-lt word 16) in
    let d2 : cond (word / 2 ^ 17 % 2 == 1) 1 0 ≡ word / 2 ^ 17 % 2 = digit-test _ (bit_at-lt word 17) in
    omega (arith, d1, d2, fields-sum word)
