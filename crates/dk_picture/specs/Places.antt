-- Where ticks stand in a picture, in pixels from the left.
use Rattle.std.specs.Prelude.{ℕ, ◌+◌, ◌-◌, ◌*◌, ◌/◌, Bool, max, min, nat_le, nat_lt, if◌then◌else◌}
use Rattle.dk_picture.specs.declared.span.Span.{Span}
use Rattle.dk_picture.specs.Numbers.{plot_left, plot_width}

-- how many ticks the plot is wide
abbrev pub ticks_in : Span → ℕ
ticks_in s = max (s.to - s.from) 1

-- how many of the ticks lie before this one
abbrev pub before : Span → ℕ → ℕ
before s t = min t s.to - s.from

-- the left edge of a tick
abbrev pub place_of : Span → ℕ → ℕ
place_of s t = plot_left + (before s t * plot_width) / ticks_in s

abbrev pub middle_of : Span → ℕ → ℕ
middle_of s t = plot_left + ((2 * before s t + 1) * plot_width) / (2 * ticks_in s)

-- whether so many ticks are so many pixels wide or wider
abbrev pub has_pixels : Span → ℕ → ℕ → Bool
has_pixels s ticks pixels = nat_le (pixels * ticks_in s) (ticks * plot_width)

-- the pixels that the number of a tick takes, with some room
abbrev pub room_for : ℕ → ℕ
room_for t = if nat_lt t 1000 then 27 else (if nat_lt t 100000 then 41 else 62)
