use Rattle.std.proofs.Common.{◌≡◌, ◌/◌, ◌%◌, ◌^◌, ◌==◌, ◌∙◌, arith, rules, bit_and, ap, cond}
use Rattle.std.proofs.lemmas.Nat.{and_mask}
use Rattle.std.proofs.lemmas.Nat.Bits.{bit_at-lt}
use Rattle.fwmark.proofs.Bits.{flag-read, digit-test, fields-sum}
use Rattle.fwmark.proofs.mark.Mark.of_bits.Goals as goal

pub returns-clause-fields : goal.returns-clause-fields
returns-clause-fields c =
    let m = c.args.word in
    let word_is : c.from_bits_retain-flags.result.0 ≡ m = search rules in
    let one : c.contains.result ≡ (bit_and c.from_bits_retain-flags.result.0 65536 == 65536) = search rules in
    let two : c.contains-2.result ≡ (bit_and c.from_bits_retain-flags.result.0 131072 == 131072) = search rules in
    record {
      net = and_mask m 16;
      explicit = one ∙ ap (λ x. bit_and x 65536 == 65536) word_is ∙ flag-read m 16 (omega arith);
      guarded = two ∙ ap (λ x. bit_and x 131072 == 131072) word_is ∙ flag-read m 17 (omega arith);
      permission = and_mask (m / 2 ^ 18) 2;
      upper = search rules;
    }

pub returns-clause-inverse : goal.returns-clause-inverse
returns-clause-inverse c =
    let m = c.args.word in
    let word_is : c.from_bits_retain-flags.result.0 ≡ m = search rules in
    let one : c.contains.result ≡ (bit_and c.from_bits_retain-flags.result.0 65536 == 65536) = search rules in
    let two : c.contains-2.result ≡ (bit_and c.from_bits_retain-flags.result.0 131072 == 131072) = search rules in
    let explicit : c.contains.result ≡ (m / 2 ^ 16 % 2 == 1) = one ∙ ap (λ x. bit_and x 65536 == 65536) word_is ∙ flag-read m 16 (omega arith) in
    let guarded : c.contains-2.result ≡ (m / 2 ^ 17 % 2 == 1) = two ∙ ap (λ x. bit_and x 131072 == 131072) word_is ∙ flag-read m 17 (omega arith) in
    let d1 : cond c.contains.result 1 0 ≡ m / 2 ^ 16 % 2 = ap (λ b. cond b 1 0) explicit ∙ digit-test _ (bit_at-lt m 16) in
    let d2 : cond c.contains-2.result 1 0 ≡ m / 2 ^ 17 % 2 = ap (λ b. cond b 1 0) guarded ∙ digit-test _ (bit_at-lt m 17) in
    omega (arith, d1, d2, and_mask m 16, and_mask (m / 2 ^ 18) 2, fields-sum m)
