use Rattle.std.proofs.Common.{Option, false, ◌∙◌, ap}
use Rattle.std.specs.Option.{option_map_or}
use Rattle.prefixes.specs.Prefix.{same_prefix}
use Rattle.fib_trie.specs.declared.branch.Branch.{Branch}
use Rattle.fib_trie.proofs.place.is_prefix_at.Goals as goal

pub returns-in-Some : goal.returns-in-Some
returns-in-Some c = c.same_prefix.ensures.value ∙ ap (λ (o : Option Branch). option_map_or (λ (b : Branch). same_prefix b.prefix c.args.prefix.now) o false) c.in-Some.ensures

pub returns-in-None : goal.returns-in-None
returns-in-None c = ap (λ (o : Option Branch). option_map_or (λ (b : Branch). same_prefix b.prefix c.args.prefix.now) o false) c.in-None.ensures
