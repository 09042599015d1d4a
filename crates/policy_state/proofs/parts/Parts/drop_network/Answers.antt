use Rattle.std.proofs.Common.{◌∙◌}
use Rattle.policy_state.specs.Parts.{view_of}
use Rattle.policy_state.proofs.Turns.{dropped}
use Rattle.policy_state.proofs.parts.Parts.drop_network.Goals as goal

pub returns : goal.returns
returns c = λ i. record (view_of c.args.self.now) {
  networks = (c.destroy.ensures ∙ dropped (view_of c.args.self.now) c.requires c.args.net) i;
  pairs = c.take_pairs_of.ensures i;
  default = c.default_without-self.ensures i;
}
