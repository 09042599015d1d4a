-- How long the texts of a link and of a verdict are.
use Rattle.std.proofs.Common.{ℕ, ◌+◌, ◌<◌, ◌≤◌, ◌^◌, List, ◌++◌, codes, length, Option, None, Some, Result, Ok, Err, IsOk, vec_len, vec_capacity, refl, arith, length-append}
use Rattle.std.specs.Fmt.{decimal}
use Rattle.std.specs.declared.alloc.Global.{Global}
use Rattle.std.specs.declared.vec.Vec.{Vec}
use Rattle.addr_text.proofs.Lengths.{canonical-length}
use Rattle.addr_text.specs.Canonical.{canonical}
use Rattle.number_text.proofs.Spelled.{length-digits-le}
use Rattle.number_text.specs.Appends.{Appends}
use Rattle.policy_state.specs.View.{StateView}
use Rattle.prefixes.specs.declared.addr.Addr.{Addr}
use Rattle.rule_match.specs.declared.verdict.Verdict.TheVariants as verdict
use Rattle.report_text.specs.Links.{link_text}
use Rattle.report_text.specs.Verdicts.{gateway_text, verdict_text}

-- the index of a link that is gone
pub index-length : (link : ℕ) → link < 2 ^ 16 → length (codes "#" ++ decimal link) ≤ 15
index-length link fits =
    let digits : length (decimal link) ≤ 5 = length-digits-le 10 5 link (omega arith) (omega arith) (omega arith) (omega arith) in omega arith

gateway-length : (gateway : Option Addr) → length (gateway_text gateway) ≤ 44
gateway-length None = omega arith
gateway-length (Some gateway) = let short : length (canonical gateway) ≤ 39 = canonical-length gateway in omega (arith, length-append (codes " via ") (canonical gateway))

pub verdict-length : (state : StateView) (link : ℕ) (gateway : Option Addr) → length (link_text state link) ≤ 15 → length (verdict_text state (verdict.Out link gateway)) ≤ 64
verdict-length state link gateway short =
    let by_way : length (gateway_text gateway) ≤ 44 = gateway-length gateway in
    omega (arith, length-append (codes "out " ++ link_text state link) (gateway_text gateway), length-append (codes "out ") (link_text state link))

-- a text of at most 64 bytes fits where there is room for as many
pub room_for : {T E : Type 0} (old new : Vec ℕ Global) (r : Result T E) (text : List ℕ) → Appends old new r text → length text ≤ 64 → vec_len old + 64 ≤ vec_capacity old → IsOk r
room_for old new (Ok done) text call short room = refl
room_for old new (Err error) text call short room = absurd (let full : vec_capacity old < vec_len old + length text = call.full in omega arith)
