use Rattle.std.proofs.Common.{◌≡◌, ◌∙◌, ◌==◌, not, filter, sym, ap, if◌then◌else◌}
use Rattle.policy_state.specs.Parts.{view_of}
use Rattle.policy_state.specs.Step.{without_interface, without_link, with_net}
use Rattle.policy_state.specs.View.{StateView}
use Rattle.policy_state.proofs.Turns.{is-in, nets-alike}
use Rattle.policy_state.proofs.parts.Parts.drop_interface.Goals as goal

pub returns : goal.returns
returns c =
    let s = view_of c.args.self.now in
    let net = c.args.net in
    let link = c.args.link in
    let left : StateView = record (with_net net (without_link link) s) { pairs = filter (λ p. not (p.out == link)) s.pairs } in
    let gives : without_interface net link s ≡ left = ap (λ b. if b then left else s) (is-in s c.requires.formed net link c.requires.owner) in
    (λ i. record s {
      networks = (c.remove_interface.ensures ∙ nets-alike s c.requires.formed net (without_link link)) i;
      pairs = c.take_pairs_by.ensures i;
    })
    ∙ sym gives
