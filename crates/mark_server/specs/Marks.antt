-- What the calls make of the fields of a mark, after netd's FwmarkServer. Fields that aren't named stay as they are.
use Rattle.std.specs.Prelude.{ℕ, ◌&&◌, true, false, not, unwrap_or, bit_or, if◌then◌else◌}
use Rattle.std.specs.Option.{option_or}
use Rattle.fwmark.specs.Permission.{bits_of}
use Rattle.mark_server.specs.Fields.{Fields}
use Rattle.mark_server.specs.Users.{user_permission, may_protect, holder, vpn_of, app_net, id_of, is_vpn_id}
use Rattle.networks.specs.Kinds.{permission_of}
use Rattle.networks.specs.declared.network.Network.{Network}
use Rattle.policy_state.specs.View.{StateView}
use Rattle.uid_ranges.specs.declared.range.Uid.{Uid}

-- the two bits of the user's permission
abbrev pub mine : StateView → Uid → ℕ
mine s uid = bits_of (user_permission s uid)

-- the app's default network, or 0 where there is none
abbrev pub app_or_0 : StateView → Uid → ℕ
app_or_0 s uid = unwrap_or (app_net s uid) 0

-- An explicit network stays. Without protection it is the bypassable VPN of the user, or else the app's default network. With
-- protection a VPN stays, and in place of another network the app's default comes.
abbrev pub connected_net : StateView → Uid → Fields → ℕ
connected_net s uid f =
    if f.explicit then f.net
    else if not f.guarded then unwrap_or (option_or (id_of (holder false s uid)) (app_net s uid)) 0
    else if is_vpn_id s f.net then f.net
    else app_or_0 s uid

abbrev pub connected : StateView → Uid → Fields → Fields
connected s uid f = record f { net = connected_net s uid f; permission = mine s uid }

-- of a socket that came in by an interface of this network
abbrev pub accepted : StateView → Uid → Network → Fields
accepted s uid n = record {
  net = n.id;
  explicit = true;
  guarded = true;
  permission = bit_or (bits_of (permission_of n.kind)) (mine s uid);
  upper = 0;
}

-- select 0
abbrev pub cleared : Fields → Fields
cleared f = record f { net = 0; explicit = false; guarded = false; permission = 0 }

abbrev pub selected : StateView → Uid → ℕ → Fields → Fields
selected s uid net f = record f { net = net; explicit = true; guarded = may_protect s uid; permission = mine s uid }

-- a VPN that wasn't selected gives way to the app's default network
abbrev pub protected : StateView → Uid → Fields → Fields
protected s uid f = record f {
  net = if not f.explicit && is_vpn_id s f.net then app_or_0 s uid else f.net;
  guarded = true;
  permission = bit_or f.permission (mine s uid);
}

-- the user's VPN, or else its default network
abbrev pub net_for : StateView → Uid → ℕ
net_for s user = unwrap_or (option_or (id_of (vpn_of s user)) (app_net s user)) 0

-- for another user
abbrev pub selected_for : StateView → Uid → Uid → Fields → Fields
selected_for s uid user f = record f {
  net = net_for s user;
  guarded = true;
  permission = mine s uid;
}
