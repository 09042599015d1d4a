use Rattle.net_control.proofs.Carrying.{started_halted, start_kept}
use Rattle.net_control.proofs.controller.Controller.ask_start.Goals as goal

pub returns-in-Done-clause-kept : goal.returns-in-Done-clause-kept
returns-in-Done-clause-kept g c =
    start_kept c.in-Ok.plan (g.K.Kernel.seen c.args.kernel.now) (g.K.Kernel.seen c.reserve.new.self) (g.K.Kernel.seen c.carry.new.kernel)
    c.requires c.in-Ok.ensures c.reserve.ensures.seen c.in-Done.ensures.carries

pub returns-clause-answer : goal.returns-clause-answer
returns-clause-answer g c =
    started_halted c.in-Ok.plan (g.K.Kernel.seen c.args.kernel.now) (g.K.Kernel.seen c.reserve.new.self) (g.K.Kernel.seen c.carry.new.kernel) c.in-Halted.request
    c.in-Ok.ensures c.reserve.ensures.seen c.in-Halted.ensures.carries
