-- Whether a user may use a network, after checkUserNetworkAccess of netd's NetworkController.
use Rattle.std.specs.Prelude.{ℕ, ◌&&◌, not, Some, None, Result, Ok, Err, if◌then◌else◌}
use Rattle.fwmark.specs.Permission.{bits_of, suffices}
use Rattle.mark_server.specs.Users.{user_permission, has_system, is_held}
use Rattle.net_names.specs.declared.code.Code.{Code}
use Rattle.net_names.specs.declared.code.Code.TheVariants as code
use Rattle.networks.specs.Kinds.{permission_of, ranges_of, is_virtual}
use Rattle.networks.specs.Lists.{find_id}
use Rattle.networks.specs.declared.network.Network.{Network}
use Rattle.policy_state.specs.Step.{is_protectable}
use Rattle.policy_state.specs.View.{StateView}
use Rattle.uid_ranges.specs.Ranks.{holds_user}
use Rattle.uid_ranges.specs.declared.range.Uid.{Uid}

-- Whether the user may use the network, or the code with which it may not. Who has the system's permission may use each one. A VPN
-- is for those whom it holds. Whom a secure VPN holds may use no other network, but for those who may protect; and then the
-- permission has to suffice.
abbrev pub access_to : StateView → Uid → Network → Result (Unit {0}) Code
access_to s uid n =
    if has_system s uid then Ok tt
    else if is_virtual n.kind then (if holds_user (ranges_of n.kind) uid.number then Ok tt else Err code.NotPermitted)
    else if is_held s uid && not (is_protectable s uid) then Err code.NotPermitted
    else if suffices (bits_of (user_permission s uid)) (permission_of n.kind) then Ok tt
    else Err code.AccessDenied

-- the same of the network of this id
abbrev pub access : StateView → Uid → ℕ → Result (Unit {0}) Code
access s uid net = elim (find_id net s.networks) [ Some n ↦ access_to s uid n | None ↦ Err code.NoNetwork ]
