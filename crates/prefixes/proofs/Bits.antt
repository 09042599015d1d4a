-- Numbers of a width, past the width.
use Rattle.std.proofs.Common.{◌≡◌, ℕ, ◌/◌, ◌%◌, ◌^◌, ◌<◌, ◌≤◌, arith}
use Rattle.std.proofs.Math.Nat.{div-eq_of_lt, mod-eq_of_lt, pow-le-pow_right}

below_power : (value width count : ℕ) → value < 2 ^ width → width ≤ count → value < 2 ^ count
below_power value width count small past = let power = pow-le-pow_right {n = 2} (omega arith) past in omega (arith, power)

-- no bit is left after a whole value, and all are in it
pub shift-past : (value width count : ℕ) → value < 2 ^ width → width ≤ count → value / 2 ^ count ≡ 0
shift-past value width count small past = div-eq_of_lt (below_power value width count small past)

pub low-past : (value width count : ℕ) → value < 2 ^ width → width ≤ count → value % 2 ^ count ≡ value
low-past value width count small past = mod-eq_of_lt (below_power value width count small past)
