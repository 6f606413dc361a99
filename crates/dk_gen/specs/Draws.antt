-- The stream of draws of a number: a linear congruence of 64 bits, of which each draw takes the high bits.
use Rattle.std.specs.Prelude.{ℕ, zero, suc, ◌+◌, ◌*◌, ◌/◌, ◌%◌, ◌^◌}

-- the state after so many draws, which at first is the number
unfoldable pub state : ℕ → ℕ → ℕ
state number zero = number
state number (suc n) = (state number n * 6364136223846793005 + 1442695040888963407) % 2 ^ 64

-- the draw at this place of the stream, counted from 0: a number below k
unfoldable pub draw : ℕ → ℕ → ℕ → ℕ
draw number place k = state number (suc place) / 2 ^ 33 % k
