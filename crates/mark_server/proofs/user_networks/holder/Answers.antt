use Rattle.std.proofs.Common.{◌≡◌, None, Some, sym, ap, subst, arith}
use Rattle.mark_server.proofs.Ranks.{id-lowest, no-id-lowest, none-next}
use Rattle.mark_server.specs.Users.{id_of, at_lowest}
use Rattle.network_store.specs.Holders.{holder_at}
use Rattle.network_store.specs.Store.{nets_of}
use Rattle.mark_server.proofs.user_networks.holder.Goals as goal

pub loop-rank-init : goal.loop-rank-init
loop-rank-init c = λ lower below. absurd (omega (arith, below))

pub returns-in-Some-clause-network : goal.returns-in-Some-clause-network
returns-in-Some-clause-network c =
    let id = c.in-Some.network.now.id in
    let found : id_of (at_lowest (λ rank. holder_at c.args.secure rank c.args.uid.number (nets_of c.networks-networks.result.now))) ≡ Some id =
    id-lowest (λ rank. holder_at c.args.secure rank c.args.uid.number (nets_of c.networks-networks.result.now)) c.loop-rank.rank id c.loop-rank-test.true c.loop-rank.invariant (ap id_of (sym c.in-Some.ensures)) in
    sym (subst (λ ns. id_of (at_lowest (λ rank. holder_at c.args.secure rank c.args.uid.number ns)) ≡ Some id) c.networks-networks.ensures.value found)

pub loop-rank-preserved : goal.loop-rank-preserved
loop-rank-preserved c = none-next (λ rank. holder_at c.args.secure rank c.args.uid.number (nets_of c.networks-networks.result.now)) c.loop-rank.rank c.loop-rank.invariant (ap id_of (sym c.in_default.ensures))

pub returns-clause-network : goal.returns-clause-network
returns-clause-network c =
    let none : id_of (at_lowest (λ rank. holder_at c.args.secure rank c.args.uid.number (nets_of c.networks-networks.result.now))) ≡ None =
    no-id-lowest (λ rank. holder_at c.args.secure rank c.args.uid.number (nets_of c.networks-networks.result.now)) (λ rank below. c.loop-rank.invariant rank (omega (arith, below, c.loop-rank-test.false))) in
    sym (subst (λ ns. id_of (at_lowest (λ rank. holder_at c.args.secure rank c.args.uid.number ns)) ≡ None) c.networks-networks.ensures.value none)
