-- What routes in chains keep true.
use Rattle.std.specs.Prelude.{◌≡◌, ◌+◌, ◌≤◌, length, vec_len, vec_capacity}
use Rattle.route_chains.specs.Links.{AreChains, entries_of}
use Rattle.route_chains.specs.declared.chains.RouteChains.TheInside.{Inside}

pub record IsKept (t : Inside) : Type 0 where
  pub chains : AreChains t.slots.items t.heads.items
  pub room : vec_len t.slots + t.spare ≤ vec_capacity t.slots
  pub gaps : t.gaps + length (entries_of t.slots.items) ≡ length t.slots.items
