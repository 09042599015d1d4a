use Rattle.std.proofs.Common.{◌≡◌, ◌∙◌, ap, sym, Option, Some, None, true, false}
use Rattle.std.specs.Option.{option_and_then}
use Rattle.networks.specs.declared.network.Network.{Network}
use Rattle.network_store.specs.Stored.{net_of}
use Rattle.policy_meaning.specs.Asking.{holder_at, is_meant}
use Rattle.policy_meaning.specs.Policy.{only_if, asks}
use Rattle.policy_meaning.proofs.OneHolder.{holder-says}
use Rattle.policy_meaning.proofs.holders.ask_at_rank.Goals as goal
use Rattle.rule_match.specs.declared.packet.Packet.{Packet}
use Rattle.rule_match.specs.declared.verdict.Verdict.{Verdict}
use Rattle.policy_meaning.specs.declared.holders.Holder.{Holder}

-- what a network says that holds the user
abbrev says : Holder → Packet → Network → Option Verdict
says h p n = only_if (asks n p) (is_meant h p n.kind)

pub returns-in_err-network : goal.returns-in_err-network
returns-in_err-network c =
    let s = c.args.state.now in
    let p = c.args.packet.now in
    let there : None ≡ holder_at c.args.holder p.uid.number c.args.rank s.networks = c.in_err-network.ensures ∙ ap (holder_at c.args.holder p.uid.number c.args.rank) c.networks.ensures.value in
    c.from_residual.ensures ∙ sym (holder-says s c.networks.ensures.good c.args.holder p c.args.rank ∙ ap (option_and_then (says c.args.holder p)) (sym there))

pub returns-then-is_meant : goal.returns-then-is_meant
returns-then-is_meant c =
    let s = c.args.state.now in
    let p = c.args.packet.now in
    let n = net_of c.in_ok-network.network.now in
    let there : Some n ≡ holder_at c.args.holder p.uid.number c.args.rank s.networks = c.in_ok-network.ensures ∙ ap (holder_at c.args.holder p.uid.number c.args.rank) c.networks.ensures.value in
    let meant : is_meant c.args.holder p n.kind ≡ true = cc in
    c.ask.ensures
    ∙ sym (holder-says s c.networks.ensures.good c.args.holder p c.args.rank ∙ (ap (option_and_then (says c.args.holder p)) (sym there) ∙ ap (only_if (asks n p)) meant))

pub returns-else-is_meant : goal.returns-else-is_meant
returns-else-is_meant c =
    let s = c.args.state.now in
    let p = c.args.packet.now in
    let n = net_of c.in_ok-network.network.now in
    let there : Some n ≡ holder_at c.args.holder p.uid.number c.args.rank s.networks = c.in_ok-network.ensures ∙ ap (holder_at c.args.holder p.uid.number c.args.rank) c.networks.ensures.value in
    let meant : is_meant c.args.holder p n.kind ≡ false = cc in
    sym (holder-says s c.networks.ensures.good c.args.holder p c.args.rank ∙ (ap (option_and_then (says c.args.holder p)) (sym there) ∙ ap (only_if (asks n p)) meant))
