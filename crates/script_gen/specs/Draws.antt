-- The numbers of a linear congruential generator (Knuth, The Art of Computer Programming 2, 3.2.1), with the multiplier and
-- the increment of his MMIX.
use Rattle.std.specs.Prelude.{ℕ, ◌+◌, ◌*◌, ◌/◌, ◌%◌, ◌^◌}

-- the generator's number after a draw
unfoldable pub after_draw : ℕ → ℕ
after_draw number = (number * 6364136223846793005 + 1442695040888963407) % 2 ^ 64

-- what is drawn, of so many choices: the number after it without its lower 33 bits
unfoldable pub drawn : ℕ → ℕ → ℕ
drawn number choices = after_draw number / 2 ^ 33 % choices
