use Rattle.std.proofs.Common.{◌≡◌, ◌∙◌, sym, ap, true, false, Some}
use Rattle.prefixes.specs.Route.{fits}
use Rattle.prefixes.specs.Best.{longer_of}
use Rattle.prefixes.proofs.Bests.{best-more, longer_of-none}
use Rattle.prefixes.proofs.best.best_route.Goals as goal
use Rattle.prefixes.proofs.best.best_route.Goals.{then-fits, else-fits}

pub loop-route-preserved : goal.loop-route-preserved
loop-route-preserved c =
    let r = c.route-item.result in
    let more = best-more c.args.routes.now c.loop-route.route-index r c.args.dest c.args.bound c.loop-route-test.true c.route-item.is in
    elim c.if-fits.branch [
      | then-fits w ↦
          let fit : fits r c.args.dest c.args.bound ≡ true = sym c.fits.ensures ∙ w.if-fits.true in
          w.found-is ∙ w.longer_of-found.ensures ∙ ap (λ o. longer_of o (Some r)) c.loop-route.invariant ∙ sym (rw fit at more)
      | else-fits w ↦
          let fit : fits r c.args.dest c.args.bound ≡ false = sym c.fits.ensures ∙ w.if-fits.false in
          w.found-is ∙ c.loop-route.invariant ∙ sym (rw fit at more ∙ longer_of-none _)
    ]
