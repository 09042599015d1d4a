-- What a session keeps of a kernel's journal: its limit, and that each request in it is well formed.
use Rattle.std.proofs.Common.{◌≡◌, ℕ, ◌+◌, ◌≤◌, List, [], length, Result, Ok, Err, sym, ap, subst, arith}
use Rattle.kernel_model.specs.Form.{AreWellFormed}
use Rattle.kernel_model.specs.View.{KernelView}
use Rattle.net_control.proofs.Bounding.{start_few}
use Rattle.net_control.proofs.Forming.{start_formed}
use Rattle.net_control.specs.Limit.{journal_limit}
use Rattle.net_control.specs.Started.{IsStarted}
use Rattle.net_control.specs.View.{ControllerView}
use Rattle.net_control.specs.declared.controller.StartFault.{StartFault}
use Rattle.net_control.specs.declared.controller.StartFault.TheVariants as fault
use Rattle.script_reader.specs.declared.line.Line.{Line}
use Rattle.netd_session.proofs.Asking.{IsKind, is_command, is_other, kind_of_line}
use Rattle.netd_session.specs.Answers.{IsAnsweredLine}
use Rattle.netd_session.specs.EndedView.{EndedView}
use Rattle.netd_session.specs.Ends.{FailsToStart, HasEnded, HasRun, IsSession, at_input, at_line, at_start, before_line, not_begun, start_halted, start_refused}
use Rattle.netd_session.specs.Lines.{IsSaid, Ran, no_line, one_more, says_answer, says_bad}
use Rattle.netd_session.specs.Stops.{End}
use Rattle.netd_session.specs.Turns.{Standing}
use Rattle.netd_session.specs.World.{World}
use Rattle.netd_session.specs.declared.turn.Turn.{Turn}

-- what holds of the journal after each line of a session
pub record IsInOrder (k : KernelView) : Type 0 where
  pub few : length k.journal ≤ journal_limit
  pub formed : AreWellFormed k.journal

same_order : (k l : KernelView) → l ≡ k → IsInOrder k → IsInOrder l
same_order k l same order = subst IsInOrder (sym same) order

stays : (s e : Standing) → e ≡ s → IsInOrder s.kernel → IsInOrder e.kernel
stays s e same = same_order s.kernel e.kernel (ap (λ (x : Standing). x.kernel) same)

answered : (l : Line) (n : ℕ) (s e : Standing) (turns : List Turn) (out : List ℕ) → IsAnsweredLine l n s e turns out → IsInOrder s.kernel → IsInOrder e.kernel
answered l n s e turns out is order = by (kind_of_line l n s e turns out is)
  where
    by : IsKind l n s e turns out → IsInOrder e.kernel
    by (is_command command same commanded) = record { few = commanded.bounded.within order.few; formed = commanded.formed order.formed }
    by (is_other other keeps) = same_order s.kernel e.kernel keeps.kernel order

said_order : (text : List ℕ) (n : ℕ) (s e : Standing) (turns : List Turn) (out : List ℕ) (whole : End) → IsSaid text n s e turns out whole
    → IsInOrder s.kernel → IsInOrder e.kernel
said_order text n s e turns out whole (says_bad bad is) = stays s e bad.stays
said_order text n s e turns out whole (says_answer goes is) = answered goes.line n s e turns out goes.answered

ran_on : {begun : Standing} {texts : List (List ℕ)} {e : Standing} {turns : List Turn} {out : List ℕ} → Ran begun texts e turns out
    → IsInOrder begun.kernel → IsInOrder e.kernel
ran_on no_line order = order
ran_on (one_more texts m turns out ran runs text e more more_out goes) order =
    answered goes.line (length texts + 1) m e more more_out goes.answered (ran_on ran order)

began : (r : Result ControllerView StartFault) (old new : KernelView) → IsStarted r old new → old.journal ≡ [] → IsInOrder new
began r old new started none = record { few = start_few r old new started none; formed = start_formed r old new started none }

run_on : (old : World) (lines : List (List ℕ)) (stands : Standing) (turns : List Turn) (out : List ℕ) → HasRun old lines stands turns out
    → old.kernel.journal ≡ [] → IsInOrder stands.kernel
run_on old lines stands turns out run none = ran_on run.ran (began (Ok run.begun.controller) old.kernel run.begun.kernel run.began.started none)

start_fails : (old new : KernelView) (text : List ℕ) (whole : End) → FailsToStart old new text whole → old.journal ≡ [] → IsInOrder new
start_fails old new text whole (start_refused request started says is) none = began (Err (fault.Refused request)) old new started none
start_fails old new text whole (start_halted request started says is) none = began (Err (fault.Halted request)) old new started none

pub nothing_asked : (k : KernelView) → k.journal ≡ [] → IsInOrder k
nothing_asked k none = record { few = omega (arith, ap length none); formed = subst AreWellFormed (sym none) tt }

module _ (old new : World) (ended : EndedView) where
  in_order : (given : List ℕ) (lines : List (List ℕ)) (out : List ℕ) → HasEnded old new ended given lines out → old.kernel.journal ≡ [] → IsInOrder new.kernel
  in_order given lines out (not_begun at) none = same_order old.kernel new.kernel at.kernel_is (nothing_asked old.kernel none)
  in_order given lines out (at_start at) none = start_fails old.kernel new.kernel at.text at.whole at.failed none
  in_order given lines out (at_line at) none =
      same_order at.stands.kernel new.kernel at.kernel_is
      (said_order at.text (length at.before + 1) at.stood at.stands at.more at.last at.whole at.said (run_on old at.before at.stood at.turns at.told_before at.run none))
  in_order given lines out (before_line at) none = same_order at.stands.kernel new.kernel at.kernel_is (run_on old at.before at.stands ended.turns out at.run none)
  in_order given lines out (at_input at) none = same_order at.stands.kernel new.kernel at.kernel_is (run_on old lines at.stands ended.turns out at.run none)

  -- whatever the status
  pub session_in_order : IsSession old new ended → old.kernel.journal ≡ [] → IsInOrder new.kernel
  session_in_order s none = in_order s.given s.lines s.out s.ending none
