use Rattle.std.proofs.Common.{sym, ◌∙◌, arith, rules, ◌≡◌}
use Rattle.fib_search.proofs.Bits.{Alike-more}
use Rattle.fib_trie.proofs.common.common.Goals as goal

pub loop-len-preserved : goal.loop-len-preserved
loop-len-preserved c =
    let same : c.bit_at.result ≡ c.bit_at-in-loop-len.result = search rules in
    record {
      alike = Alike-more c.args.one c.args.other c.loop-len.len (omega arith) c.loop-len.invariant.alike (sym c.bit_at.ensures ∙ same ∙ c.bit_at-in-loop-len.ensures);
      from = omega arith;
      within = omega arith;
    }
