use Rattle.std.proofs.Common.{ℕ, ◌*◌, ◌/◌, ◌%◌, ap}
use Rattle.std.proofs.Math.Nat.{mod-add-mod}
use Rattle.script_gen.specs.Draws.{after_draw, drawn}
use Rattle.script_gen.proofs.draws.Draws.draw.Goals as goal

pub returns-clause-drawn : goal.returns-clause-drawn
unfolding after_draw drawn
returns-clause-drawn c =
    ap (λ (n : ℕ). n / 8589934592 % c.args.choices) (mod-add-mod (c.args.self.now.number * 6364136223846793005) 18446744073709551616 1442695040888963407)

pub returns-clause-after : goal.returns-clause-after
unfolding after_draw
returns-clause-after c = mod-add-mod (c.args.self.now.number * 6364136223846793005) 18446744073709551616 1442695040888963407
