use Rattle.std.proofs.Common.{ap}
use Rattle.kernel_model.specs.View.{KernelView}
use Rattle.packet_trace.proofs.Changed.{changed_by}
use Rattle.packet_trace.proofs.watched.WatchedKernel.add_rule.Goals as goal

pub invariant_of-self-clause-kept : goal.invariant_of-self-clause-kept
invariant_of-self-clause-kept g c =
    changed_by c.args.self.now.packet c.args.self.now.since (g.K.Kernel.seen c.args.self.now.inner.now).journal (g.K.Kernel.seen c.add_rule-result.new.self).journal _ c.args.self.now.seen.items c.note.new.seen.items
    c.verdict_of-before.result c.verdict_of-after.result c.entry_count.result c.args.self.now.later (ap (λ (v : KernelView). v.journal) c.add_rule-result.ensures.grown) c.entry_count.ensures c.args.self.now.kept
    c.verdict_of-before.ensures c.verdict_of-after.ensures c.note.ensures.items
