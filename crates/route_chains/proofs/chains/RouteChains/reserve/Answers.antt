use Rattle.std.proofs.Common.{refl, arith}
use Rattle.route_chains.proofs.Opened.{kept_opened}
use Rattle.route_chains.proofs.chains.RouteChains.reserve.Goals as goal

pub invariant_of-self-then-more-self : goal.invariant_of-self-then-more-self
invariant_of-self-then-more-self c = kept_opened c.self.inside _ c.self.invariant refl _ _ c.in-Ok.ensures.heads c.in-Ok.ensures.no_less c.self.invariant.room refl

pub invariant_of-self-in-Err-reserve : goal.invariant_of-self-in-Err-reserve
invariant_of-self-in-Err-reserve c =
    kept_opened c.self.inside _ c.self.invariant c.in-Err-reserve.ensures.items _ _ c.in-Ok.ensures.heads c.in-Ok.ensures.no_less
    (omega (arith, c.in-Err-reserve.ensures.len, c.in-Err-reserve.ensures.capacity, c.self.invariant.room)) refl

pub invariant_of-self-2 : goal.invariant_of-self-2
invariant_of-self-2 c =
    kept_opened c.self.inside _ c.self.invariant c.in-Ok-reserve.ensures.items _ _ c.in-Ok.ensures.heads c.in-Ok.ensures.no_less
    (omega (arith, c.in-Ok-reserve.ensures.ok, c.in-Ok-reserve.ensures.len, c.in-Ok-reserve.ensures.capacity)) refl
