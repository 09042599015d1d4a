use Rattle.std.proofs.Common.{◌*◌, ◌^◌, ◌<◌, ◌≤◌, get_or, arith, sym, ◌∙◌}
use Rattle.std.specs.Char.{digit_value}
use Rattle.std.proofs.lemmas.Int.Digits.{digits_more, digits_value_more}
use Rattle.number_text.proofs.Numerals.{no_digit, too_large}
use Rattle.number_text.proofs.read.read_digits.Goals as goal

pub returns-in_err-digit : goal.returns-in_err-digit
returns-in_err-digit c = rw c.from_residual.ensures
    (no_digit c.args.base c.args.text.now c.loop-byte.byte-index c.args.max (omega arith)
    (rw c.from.ensures at c.in_err-digit.ensures.value))

pub returns-in_err-shifted : goal.returns-in_err-shifted
returns-in_err-shifted c = rw c.from_residual-in_err-shifted.ensures
    (too_large c.args.base c.args.text.now c.loop-byte.byte-index c.loop-byte.number c.args.max (omega arith) (omega arith) c.loop-byte.invariant.1
    (let large : 2 ^ 64 ≤ c.loop-byte.number * c.args.base = grind (arith, c.in_err-shifted.ensures) in omega arith))

pub returns-in_err-number : goal.returns-in_err-number
returns-in_err-number c = rw c.from_residual-in_err-number.ensures
    (too_large c.args.base c.args.text.now c.loop-byte.byte-index c.loop-byte.number c.args.max (omega arith) (omega arith) c.loop-byte.invariant.1
    (grind (arith, c.in_err-number.ensures, c.in_ok-shifted.ensures, c.in_ok-digit.ensures.value)))

pub returns-then-number-max : goal.returns-then-number-max
returns-then-number-max c =
    too_large c.args.base c.args.text.now c.loop-byte.byte-index c.loop-byte.number c.args.max (omega arith) (omega arith) c.loop-byte.invariant.1
    (grind (arith, c.in_ok-number.ensures, c.in_ok-shifted.ensures, c.in_ok-digit.ensures.value))

pub loop-byte-preserved : goal.loop-byte-preserved
loop-byte-preserved c =
    let digit : digit_value (get_or c.args.text.now c.loop-byte.byte-index 0) < c.args.base = grind (arith, c.in_ok-digit.ensures.value) in (
      digits_more c.args.base c.args.text.now c.loop-byte.byte-index (omega arith) c.loop-byte.invariant.0 digit,
      sym (digits_value_more c.args.base c.args.text.now c.loop-byte.byte-index (omega arith)
          ∙ grind (arith, c.in_ok-number.ensures, c.in_ok-shifted.ensures, c.in_ok-digit.ensures.value, c.loop-byte.invariant.1)),
      omega arith,
    )
