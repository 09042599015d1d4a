use Rattle.std.proofs.Common.{◌≡◌, ◌<◌, ◌+◌, ◌∙◌, ℕ, suc, List, set, slice_get, Some, ap, sym, subst, arith, is_ok, true, vec_len, vec_capacity}
use Rattle.std.specs.List.{insert}
use Rattle.std.specs.declared.alloc.Global.{Global}
use Rattle.std.specs.declared.vec.Vec.{Vec}
use Rattle.std.proofs.lemmas.Option.{slice_get_read, same_Some}
use Rattle.number_runs.specs.Kept.{Keeps}
use Rattle.number_runs.proofs.Edits.{halved}
use Rattle.number_runs.proofs.room.halve.Goals as goal

pub returns-clause-keeps : goal.returns-clause-keeps
returns-clause-keeps c =
    let runs = c.reserve.new.self.items in
    let run = c.index_mut.result.now in
    let within : c.args.at < c.reserve.new.self.len = omega (arith, c.in_ok-reserve.ensures.len) in
    let at : slice_get c.reserve.new.self.items c.args.at ≡ Some c.index_mut.result.now = slice_get_read c.reserve.new.self.items c.reserve.new.self.len c.args.at c.index_mut.result.now c.reserve.new.self.ok.0 within c.index_mut.ensures.value in
    let read : slice_get c.reserve.new.self.items c.args.at ≡ Some c.index.result.now = slice_get_read c.reserve.new.self.items c.reserve.new.self.len c.args.at c.index.result.now c.reserve.new.self.ok.0 within c.index.ensures in
    let same = same_Some c.index.result.now c.index_mut.result.now (sym read ∙ at) in
    let items = c.deref.ensures.value ∙ ap (λ (r : Vec ℕ Global). r.items) same in
    let long = c.requires.long run (ap (λ (l : List (Vec ℕ Global)). slice_get l c.args.at) (sym c.in_ok-reserve.ensures.items) ∙ at) in
    let room : vec_len c.reserve.new.self < vec_capacity c.reserve.new.self = omega (arith, c.in_ok-reserve.ensures.ok) in
    let fits : is_ok c.insert.result ≡ true = c.insert.ensures.succeeds room in
    let next : c.args.at + 1 ≡ suc c.args.at = omega arith in
    subst (λ (l : List (Vec ℕ Global)). Keeps c.args.spare l c.insert.new.self.items) c.in_ok-reserve.ensures.items
    (halved runs c.args.at run at c.keep_half.new.run c.in_ok-half.half c.args.spare long c.keep_half.ensures.items c.keep_half.ensures.len c.keep_half.ensures.capacity
    (rw items at c.in_ok-half.ensures.items) c.in_ok-half.ensures.room c.insert.new.self.items
    (rw fits at c.insert.ensures.items ∙ ap (λ n. insert (set runs c.args.at c.keep_half.new.run) n c.in_ok-half.half) next))
