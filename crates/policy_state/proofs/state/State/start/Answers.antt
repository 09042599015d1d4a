use Rattle.std.proofs.Common.{◌≡◌, ◌∙◌, ap, sym, subst, rules, None}
use Rattle.policy_state.specs.Good.{IsGood}
use Rattle.policy_state.specs.Parts.{view_of}
use Rattle.policy_state.specs.Tallies.{tallies_of}
use Rattle.policy_state.specs.View.{start}
use Rattle.policy_state.proofs.FirstState.{good-start}
use Rattle.policy_state.proofs.state.State.start.Goals as goal

pub invariant_of-result : goal.invariant_of-result
invariant_of-result c =
    let is : view_of (record {
      alloc = c.args.alloc;
      links = c.in_ok-start.field-0;
      networks = c.in_ok-start-2.field-0;
      permissions = c.empty.result;
      protectable = c.empty-2.result;
      lockdown = c.new.result;
      pairs = c.new-2.result;
      default = None;
      tallies = c.at_start.result;
    }) ≡ start = search rules in
    (subst IsGood (sym is) good-start, c.at_start.ensures ∙ sym (ap tallies_of c.in_ok-start-2.ensures))
