use Rattle.network_store.specs.Stored.{net_of}
use Rattle.rule_compile.proofs.change_parts.gone_part.Goals as goal

pub returns : goal.returns
returns c = λ i. record (c.new_part.ensures (net_of c.args.network.now) c.of.ensures i) { others = c.others_of.ensures i; pairs = c.requires i }
