-- The parts of a state, as contracts see the state.
use Rattle.std.specs.Prelude.{◌≡◌}
use Rattle.network_store.specs.Store.{nets_of}
use Rattle.policy_state.specs.declared.parts.Parts.{Parts}
use Rattle.policy_state.specs.Tallies.{tallies_of}
use Rattle.policy_state.specs.View.{StateView}

-- without the room that is kept for more
abbrev pub view_of : Parts → StateView
view_of parts = record {
  links = parts.links.links;
  networks = nets_of parts.networks;
  permissions = parts.permissions.permissions;
  protectable = parts.protectable.users;
  lockdown = parts.lockdown.items;
  pairs = parts.pairs.items;
  default = parts.default;
}

-- the tallies that are kept are those of the networks
abbrev pub IsTallied : Parts → Type 0
IsTallied parts = parts.tallies ≡ tallies_of (nets_of parts.networks)
