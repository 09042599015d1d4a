use Rattle.netd_session.proofs.Causing.{caused_session}
use Rattle.netd_session.proofs.Histories.{session_history}
use Rattle.netd_session.proofs.Keeping.{session_in_order}
use Rattle.netd_session.proofs.script.session.Goals as goal

pub returns-clause-formed : goal.returns-clause-formed
returns-clause-formed g c = (session_in_order _ _ _ c.begin.ensures c.requires.starting).formed

pub returns-clause-causes : goal.returns-clause-causes
returns-clause-causes g c = caused_session _ _ _

pub returns-clause-history : goal.returns-clause-history
returns-clause-history g c = session_history _ _ _ (λ packet. c.own_rule_means_start.ensures packet) c.requires.starting

pub returns-clause-limited : goal.returns-clause-limited
returns-clause-limited g c = (session_in_order _ _ _ c.begin.ensures c.requires.starting).few
