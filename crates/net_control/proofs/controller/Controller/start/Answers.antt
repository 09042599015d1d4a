use Rattle.std.proofs.Common.{◌≡◌, sym, subst, ap}
use Rattle.kernel_model.specs.Journal.{replay}
use Rattle.kernel_model.specs.State.{KernelState, start as kernel_start}
use Rattle.kernel_model.specs.Switch.{walk_along}
use Rattle.kernel_model.specs.View.{state_of}
use Rattle.kernel_model.specs.Walk.{walk}
use Rattle.net_control.proofs.Causing.{has_start_cause}
use Rattle.net_control.proofs.Forming.{start_formed}
use Rattle.net_control.proofs.Once.{start_as_before, start_once}
use Rattle.net_control.proofs.Policed.{begun, by_policy, started_sends}
use Rattle.policy_meaning.specs.Policy.{policy}
use Rattle.policy_state.proofs.FirstState.{good-start}
use Rattle.policy_state.specs.View.{start}
use Rattle.rule_compile.specs.Asked.{started}
use Rattle.rule_law.specs.Plans.{GoesOverAndBack}
use Rattle.std.specs.Prelude.{length}
use Rattle.net_control.proofs.controller.Controller.start.Goals as goal

pub returns-clause-sends : goal.returns-clause-sends
returns-clause-sends g c = started_sends c.make.result (g.K.Kernel.seen c.make.new.kernel) (λ s k packet. c.table_means_policy.ensures s k packet) (λ s packet. c.barred_stays_in.ensures s packet) c.make.ensures.kept

pub returns-clause-caused : goal.returns-clause-caused
returns-clause-caused g c = has_start_cause c.make.result (g.K.Kernel.seen c.args.kernel.now) (g.K.Kernel.seen c.make.new.kernel) c.make.ensures.answer

pub returns-clause-moments : goal.returns-clause-moments
returns-clause-moments g c =
    let before = g.K.Kernel.seen c.args.kernel.now in
    let first : state_of before ≡ kernel_start = ap replay c.requires in
    begun c.make.result before (g.K.Kernel.seen c.make.new.kernel)
    (λ packet. subst (λ (k : KernelState). walk k packet ≡ policy start packet) (sym first) (c.own_rule_means_start.ensures packet))
    (λ entries segment packet. subst (λ (k : KernelState). GoesOverAndBack (length entries) (walk_along k packet entries) (policy start packet) (policy start packet)) (sym first)
    (by_policy (c.own_rule_means_start.ensures packet) (c.table_means_policy.ensures start started packet good-start c.start_law.ensures.stands)
    (c.start_law.ensures.segment packet entries segment)))
    c.make.ensures.answer

pub returns-clause-formed : goal.returns-clause-formed
returns-clause-formed g c = start_formed c.make.result (g.K.Kernel.seen c.args.kernel.now) (g.K.Kernel.seen c.make.new.kernel) c.make.ensures.answer c.requires

pub returns-clause-once : goal.returns-clause-once
returns-clause-once g c = start_once (g.K.Kernel.seen c.args.kernel.now) (g.K.Kernel.seen c.make.new.kernel) (returns-clause-moments g c)

pub returns-clause-as_before : goal.returns-clause-as_before
returns-clause-as_before g c = start_as_before c.make.result (g.K.Kernel.seen c.args.kernel.now) (g.K.Kernel.seen c.make.new.kernel) c.requires c.make.ensures.answer
