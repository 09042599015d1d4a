-- Codes are equal exactly where their numbers are.
use Rattle.std.proofs.Common.{◌≡◌, true, arith}
use Rattle.std.proofs.lemmas.Bool.Decides.{nat_tests}
use Rattle.net_names.specs.declared.code.Code.{Code}
use Rattle.net_names.specs.Code.{same_code}

pub same_code-true : (one other : Code) → same_code one other ≡ true → one ≡ other
same_code-true one other h = grind (arith, nat_tests)

pub same_code-self : (code : Code) → same_code code code ≡ true
same_code-self code = grind (arith, nat_tests)
