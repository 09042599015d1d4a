use Rattle.kernel_model.specs.Switch.{additions, deletions}
use Rattle.kernel_model.proofs.Segments.{segment_goes_back}
use Rattle.kernel_model.proofs.Switches.{done_goes_over, undone_goes_back}
use Rattle.kernel_model.proofs.laws.goes_over_and_back.Goals as goal

pub returns : goal.returns
returns c = λ k old new gone packet entries h alike_old alike_new is.
    segment_goes_back k (additions old new) (deletions old new gone) packet (done_goes_over k old new gone h packet alike_old alike_new)
    (λ i refused next. undone_goes_back k old new gone h packet alike_old alike_new i refused) entries is
