use Rattle.netd_top.proofs.Listing.{fails_where_listed}
use Rattle.netd_top.proofs.Histories.{run_history}
use Rattle.netd_top.proofs.Causing.{run_causes, run_in_order}
use Rattle.netd_top.proofs.top.run.Goals as goal

pub returns-clause-causes : goal.returns-clause-causes
returns-clause-causes g c = run_causes c.one_form.ensures _ _ _ _ c.obey.ensures

pub returns-clause-formed : goal.returns-clause-formed
returns-clause-formed g c = (run_in_order _ _ _ _ c.obey.ensures c.requires.starting).formed

pub returns-clause-history : goal.returns-clause-history
returns-clause-history g c = run_history _ _ _ _ c.one_form.ensures (λ packet. c.own_rule_means_start.ensures packet) c.requires.starting c.obey.ensures

pub returns-clause-listed : goal.returns-clause-listed
returns-clause-listed g c = fails_where_listed _ _ _ _ c.one_form.ensures c.requires.starting (g.met.K.Kernel.sound c.obey.new.kernel).listed c.obey.ensures

pub returns-clause-limited : goal.returns-clause-limited
returns-clause-limited g c = (run_in_order _ _ _ _ c.obey.ensures c.requires.starting).few
