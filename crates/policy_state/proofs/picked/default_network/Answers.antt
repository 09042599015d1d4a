use Rattle.std.proofs.Common.{◌≡◌, ◌∙◌, refl, sym, ap, Some}
use Rattle.std.specs.Prelude.{option_and_then}
use Rattle.network_store.specs.Store.{nets_of}
use Rattle.networks.specs.Lists.{find_id}
use Rattle.policy_state.specs.Rows.{default_among}
use Rattle.policy_state.proofs.NetworkChanges.{default-found, default-none, if_physical}
use Rattle.policy_state.proofs.picked.default_network.Goals as goal

pub returns-in_default : goal.returns-in_default
returns-in_default c = sym (ap (default_among (nets_of c.args.networks.now)) c.in_default.is ∙ default-none (nets_of c.args.networks.now))

pub returns-in_default-get : goal.returns-in_default-get
returns-in_default-get c =
    let found : default_among (nets_of c.args.networks.now) (Some c.in-Some.id) ≡ option_and_then if_physical (find_id c.in-Some.id (nets_of c.args.networks.now)) = default-found (nets_of c.args.networks.now) c.in-Some.id c.requires.differ in
    sym (ap (default_among (nets_of c.args.networks.now)) c.in-Some.is ∙ (found ∙ ap (option_and_then if_physical) (sym c.in_default-get.ensures)))

pub returns-then-is_physical : goal.returns-then-is_physical
returns-then-is_physical c =
    let found : default_among (nets_of c.args.networks.now) (Some c.in-Some.id) ≡ option_and_then if_physical (find_id c.in-Some.id (nets_of c.args.networks.now)) = default-found (nets_of c.args.networks.now) c.in-Some.id c.requires.differ in
    sym (ap (default_among (nets_of c.args.networks.now)) c.in-Some.is ∙ (found ∙ (ap (option_and_then if_physical) (sym c.in-Some-get.ensures) ∙ rw (sym c.is_physical.ensures ∙ c.if-is_physical.true) refl)))

pub returns-else-is_physical : goal.returns-else-is_physical
returns-else-is_physical c =
    let found : default_among (nets_of c.args.networks.now) (Some c.in-Some.id) ≡ option_and_then if_physical (find_id c.in-Some.id (nets_of c.args.networks.now)) = default-found (nets_of c.args.networks.now) c.in-Some.id c.requires.differ in
    sym (ap (default_among (nets_of c.args.networks.now)) c.in-Some.is ∙ (found ∙ (ap (option_and_then if_physical) (sym c.in-Some-get.ensures) ∙ rw (sym c.is_physical.ensures ∙ c.if-is_physical.false) refl)))
