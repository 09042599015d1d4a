use Rattle.std.proofs.Common.{◌∷◌, [], ap, sym, ◌∙◌, arith, ℕ}
use Rattle.number_text.proofs.Appending.{both, first_failed, rewritten}
use Rattle.number_text.proofs.Written.{digits_one, digits_last}
use Rattle.number_text.proofs.write.+write_digits.Goals as goal

pub returns-then-n-base : goal.returns-then-n-base
returns-then-n-base t c =
    rewritten (ap (λ (b : ℕ). b ∷ []) c.digit_byte.ensures ∙ sym (digits_one c.args.base c.args.n (omega arith))) c.append_byte.ensures

pub returns-in_err-write_digits : goal.returns-in_err-write_digits
returns-in_err-write_digits t c =
    rewritten (sym (digits_last c.args.base c.args.n (omega arith) (omega arith) (omega arith)))
    (first_failed c.from_residual.result _ c.from_residual.ensures.0 c.in_err-write_digits.ensures)

pub returns : goal.returns
returns t c =
    rewritten (sym (digits_last c.args.base c.args.n (omega arith) (omega arith) (omega arith)))
    (both c.append_byte-2.result c.in_ok-write_digits.ensures
    (rewritten (ap (λ (b : ℕ). b ∷ []) c.digit_byte-2.ensures) c.append_byte-2.ensures))
