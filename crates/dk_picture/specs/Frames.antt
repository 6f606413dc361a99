-- Where the rows of a picture stand, in pixels from the top.
use Rattle.std.specs.Prelude.{ℕ, ◌+◌, ◌*◌, ◌/◌, ◌==◌, if◌then◌else◌}
use Rattle.dk_picture.specs.declared.frame.Frame.{Frame}

-- the windows of a level
abbrev pub level_top : ℕ → ℕ
level_top j = 50 + 16 * j

-- the heads of the rows' columns
abbrev pub head_of : Frame → ℕ
head_of f = 56 + 16 * f.levels

-- The top of the row's bars. A bar is 12 high, so bars of two rows don't overlap. The row's lane, in which all of it stands,
-- reaches from 10 above it to 28 below it.
abbrev pub top_of : Frame → ℕ → ℕ
top_of f i = (head_of f + 22) + 38 * i

-- The names of mains without a tick stand 12 in a line, with a word before them.
abbrev pub quiet_lines : Frame → ℕ
quiet_lines f = if f.quiet == 0 then 0 else (f.quiet + 12) / 12

-- the foot of the first of these lines
abbrev pub quiet_foot : Frame → ℕ
quiet_foot f = (head_of f + 24) + 38 * f.rows

-- The top of a mutex's bars, which are 10 high, below all rows of threads.
abbrev pub mutex_top : Frame → ℕ → ℕ
mutex_top f k = (((head_of f + 18) + 38 * f.rows) + 16 * quiet_lines f) + 16 * k

-- the axis
abbrev pub bottom_of : Frame → ℕ
bottom_of f = (((head_of f + 16) + 38 * f.rows) + 16 * quiet_lines f) + 16 * f.mutexes

abbrev pub height_of : Frame → ℕ
height_of f = bottom_of f + 68
