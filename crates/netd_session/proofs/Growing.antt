-- A session adds to a kernel's journal, and does nothing else to a kernel.
use Rattle.std.proofs.Common.{◌≡◌, ◌∙◌, ℕ, ◌+◌, ◌≤◌, List, [], ◌++◌, length, refl, sym, ap, subst, append_assoc, arith}
use Rattle.std.proofs.lemmas.List.{append-nil}
use Rattle.kernel_model.proofs.Counts.{breaks-grown}
use Rattle.kernel_model.specs.View.{KernelView, breaks_of, grown}
use Rattle.kernel_model.specs.declared.request.Entry.{Entry}
use Rattle.script_reader.specs.declared.line.Line.{Line}
use Rattle.netd_session.proofs.Asking.{IsKind, is_command, is_other, kind_of_line}
use Rattle.netd_session.specs.Answers.{IsAnsweredLine}
use Rattle.netd_session.specs.EndedView.{EndedView}
use Rattle.netd_session.specs.Ends.{HasEnded, HasRun, IsSession, at_input, at_line, at_start, before_line, not_begun}
use Rattle.netd_session.specs.Lines.{Goes, IsSaid, Ran, no_line, one_more, says_answer, says_bad}
use Rattle.netd_session.specs.Stops.{End}
use Rattle.netd_session.specs.Turns.{Standing}
use Rattle.netd_session.specs.World.{World}
use Rattle.netd_session.specs.declared.turn.Turn.{Turn}

-- the journal grew
abbrev pub HasGrown : (before after : KernelView) → Type 0
HasGrown before after = (entries : List Entry) × (after ≡ grown before entries)

pub grew_by_none : (before after : KernelView) → after ≡ before → HasGrown before after
grew_by_none before after same = ([], same ∙ sym (ap (λ (entries : List Entry). record before { journal = entries }) (append-nil before.journal)))

pub grew_twice : (a b c : KernelView) → HasGrown a b → HasGrown b c → HasGrown a c
grew_twice a b c (xs, first) (ys, second) = (
  xs ++ ys,
  second ∙ (ap (λ (k : KernelView). grown k ys) first ∙ ap (λ (entries : List Entry). record a { journal = entries }) (append_assoc a.journal xs ys)),
)

-- the count of breaks never falls
pub never_falls : (before after : KernelView) → HasGrown before after → breaks_of before ≤ breaks_of after
never_falls before after (entries, grew) = omega (arith, ap breaks_of grew ∙ breaks-grown before entries)

stands_still : (s e : Standing) → e ≡ s → HasGrown s.kernel e.kernel
stands_still s e same = grew_by_none s.kernel e.kernel (ap (λ (x : Standing). x.kernel) same)

-- what a line does to the journal
answered_grew : (l : Line) (n : ℕ) (s e : Standing) (turns : List Turn) (out : List ℕ) → IsAnsweredLine l n s e turns out → HasGrown s.kernel e.kernel
answered_grew l n s e turns out is = by (kind_of_line l n s e turns out is)
  where
    by : IsKind l n s e turns out → HasGrown s.kernel e.kernel
    by (is_command command same commanded) = (commanded.moments.entries, commanded.moments.grew)
    by (is_other other keeps) = grew_by_none s.kernel e.kernel keeps.kernel

pub goes_grew : (text : List ℕ) (n : ℕ) (s e : Standing) (turns : List Turn) (out : List ℕ) → Goes text n s e turns out → HasGrown s.kernel e.kernel
goes_grew text n s e turns out goes = answered_grew goes.line n s e turns out goes.answered

said_grew : (text : List ℕ) (n : ℕ) (s e : Standing) (turns : List Turn) (out : List ℕ) (whole : End) → IsSaid text n s e turns out whole → HasGrown s.kernel e.kernel
said_grew text n s e turns out whole (says_bad bad is) = stands_still s e bad.stays
said_grew text n s e turns out whole (says_answer goes is) = goes_grew text n s e turns out goes

-- what lines that were answered in turn do
pub ran_grew : {begun : Standing} {texts : List (List ℕ)} {e : Standing} {turns : List Turn} {out : List ℕ} → Ran begun texts e turns out → HasGrown begun.kernel e.kernel
ran_grew {begun} no_line = grew_by_none begun.kernel begun.kernel refl
ran_grew {begun} (one_more texts m turns out ran runs text e more more_out goes) =
    grew_twice begun.kernel m.kernel e.kernel (ran_grew ran) (goes_grew text (length texts + 1) m e more more_out goes)

run_grew : (old : World) (lines : List (List ℕ)) (stands : Standing) (turns : List Turn) (out : List ℕ) → HasRun old lines stands turns out → HasGrown old.kernel stands.kernel
run_grew old lines stands turns out run =
    grew_twice old.kernel run.begun.kernel stands.kernel (run.began.moments.entries, run.began.moments.grew) (ran_grew run.ran)

ended_grew : (old new : World) (ended : EndedView) (given : List ℕ) (lines : List (List ℕ)) (out : List ℕ) → HasEnded old new ended given lines out → HasGrown old.kernel new.kernel
ended_grew old new ended given lines out (not_begun at) = grew_by_none old.kernel new.kernel at.kernel_is
ended_grew old new ended given lines out (at_start at) = (at.moments.entries, at.moments.grew)
ended_grew old new ended given lines out (at_line at) =
    subst (HasGrown old.kernel) (sym at.kernel_is)
    (grew_twice old.kernel at.stood.kernel at.stands.kernel (run_grew old at.before at.stood at.turns at.told_before at.run)
    (said_grew at.text (length at.before + 1) at.stood at.stands at.more at.last at.whole at.said))
ended_grew old new ended given lines out (before_line at) = subst (HasGrown old.kernel) (sym at.kernel_is) (run_grew old at.before at.stands ended.turns out at.run)
ended_grew old new ended given lines out (at_input at) = subst (HasGrown old.kernel) (sym at.kernel_is) (run_grew old lines at.stands ended.turns out at.run)

-- a session leaves the lists of a kernel as they are
pub session_lists : (old new : World) (ended : EndedView) → IsSession old new ended → new.kernel.lists ≡ old.kernel.lists
session_lists old new ended s = let grew : HasGrown old.kernel new.kernel = ended_grew old new ended s.given s.lines s.out s.ending in ap (λ (k : KernelView). k.lists) grew.1
