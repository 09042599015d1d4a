use Rattle.std.proofs.Common.{◌≡◌, ◌∙◌, None, Some, refl, sym, ap}
use Rattle.mark_server.proofs.Preferred.{free-preferred}
use Rattle.mark_server.specs.Users.{id_of}
use Rattle.network_store.proofs.Holders.{kept_if}
use Rattle.network_store.specs.Store.{nets_of}
use Rattle.network_store.specs.Stored.{net_of}
use Rattle.networks.specs.Kinds.{is_free}
use Rattle.networks.specs.declared.network.Network.{Network}
use Rattle.mark_server.proofs.user_networks.preferred_at.Goals as goal

-- none is preferred
pub returns-in_default : goal.returns-in_default
returns-in_default c =
    let free = free-preferred c.args.rank c.args.uid.number (nets_of c.args.networks.now) c.requires.differ in
    sym (ap id_of (free ∙ ap (kept_if (λ (n : Network). is_free n.kind)) (sym c.in_default.ensures)))

-- the one that is asks for a permission
pub returns-then-not-is_free : goal.returns-then-not-is_free
returns-then-not-is_free c =
    let n = net_of c.in-Some.network.now in
    let free = free-preferred c.args.rank c.args.uid.number (nets_of c.args.networks.now) c.requires.differ in
    let other : kept_if (λ (n : Network). is_free n.kind) (Some n) ≡ None = rw (sym c.is_free.ensures ∙ c.if-not-is_free.true) refl in
    sym (ap id_of (free ∙ ap (kept_if (λ (n : Network). is_free n.kind)) (sym c.in-Some.ensures) ∙ other))

pub returns : goal.returns
returns c =
    let n = net_of c.in-Some.network.now in
    let free = free-preferred c.args.rank c.args.uid.number (nets_of c.args.networks.now) c.requires.differ in
    let same : kept_if (λ (n : Network). is_free n.kind) (Some n) ≡ Some n = rw (sym c.is_free.ensures ∙ c.if-not-is_free.false) refl in
    sym (ap id_of (free ∙ ap (kept_if (λ (n : Network). is_free n.kind)) (sym c.in-Some.ensures) ∙ same))
