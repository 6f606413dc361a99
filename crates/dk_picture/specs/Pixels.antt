-- In which pixels a tick's bar stands. In the inner picture, in which `ticks_in s` units are as wide as the plot, the bar of
-- tick t reaches from t - FROM to t - FROM + 1. Both sides of an inequality are pixels behind the plot's left edge,
-- multiplied by `ticks_in s`.
use Rattle.std.specs.Prelude.{ℕ, ◌+◌, ◌-◌, ◌*◌, ◌<◌, ◌≤◌}
use Rattle.dk_picture.specs.declared.span.Span.{Span}
use Rattle.dk_picture.specs.Numbers.{plot_left, plot_width}
use Rattle.dk_picture.specs.Places.{ticks_in}

-- it begins in the pixel from x to x + 1
pub record BeginsAt (s : Span) (t x : ℕ) : Type 0 where
  pub inside : plot_left ≤ x
  pub low : (x - plot_left) * ticks_in s ≤ (t - s.from) * plot_width
  pub high : (t - s.from) * plot_width < (x - plot_left + 1) * ticks_in s

-- the pixel from x to x + 1 has a part of it
pub record IsInBar (s : Span) (t x : ℕ) : Type 0 where
  pub inside : plot_left ≤ x
  pub begins : (t - s.from) * plot_width < (x - plot_left + 1) * ticks_in s
  pub ends : (x - plot_left) * ticks_in s < (t - s.from + 1) * plot_width
