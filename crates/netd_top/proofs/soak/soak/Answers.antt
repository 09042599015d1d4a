use Rattle.std.proofs.Common.{ℕ, List, inl, subst}
use Rattle.netd_top.specs.Soak.{HasRunOver}
use Rattle.netd_top.proofs.soak.soak.Goals as goal

pub returns : goal.returns
returns g c = inl (record {
  ended = c.run_over-ended.result;
  ran = subst (λ (script : List ℕ). HasRunOver script (g.K.Kernel.seen c.args.kernel.now) (g.K.Kernel.seen c.run_over-ended.new.kernel) c.run_over-ended.result)
      c.in-Ok.ensures c.run_over-ended.ensures;
  told = c.tell_ended.ensures;
})
