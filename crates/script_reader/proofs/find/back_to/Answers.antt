use Rattle.std.proofs.Common.{◌≡◌, ℕ, subst, arith, refl}
use Rattle.script_reader.specs.Cursor.{IsAfter}
use Rattle.script_reader.proofs.Neighbours.{next_after}
use Rattle.script_reader.proofs.find.back_to.Goals as goal

pub loop-gone-init : goal.loop-gone-init
loop-gone-init c = record { words = refl; end = refl }

pub loop-gone-preserved : goal.loop-gone-preserved
loop-gone-preserved c = next_after _ _ _ _ c.loop-gone.invariant c.advance.ensures

pub returns : goal.returns
returns c = let all : c.loop-gone._gone ≡ c.args.count = omega arith in subst (λ (n : ℕ). IsAfter n c.args.words c.loop-gone.after) all c.loop-gone.invariant
