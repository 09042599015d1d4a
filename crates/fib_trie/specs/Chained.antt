-- The routes that stand in chains.
pub use Rattle.route_chains.specs.Chains.{routes_of}
