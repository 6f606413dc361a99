-- The axis of ticks.
use Rattle.std.specs.Prelude.{ℕ, ◌+◌, ◌-◌, ◌*◌, ◌/◌, ◌++◌, Bool, List, codes, decimal, find, flat_map, max, unwrap_or}
use Rattle.dk_config.specs.Sums.{below}
use Rattle.dk_picture.specs.declared.frame.Frame.{Frame}
use Rattle.dk_picture.specs.declared.span.Span.{Span}
use Rattle.dk_picture.specs.Frames.{bottom_of}
use Rattle.dk_picture.specs.Numbers.{steps}
use Rattle.dk_picture.specs.Places.{has_pixels, place_of, room_for}

-- whether so many ticks have room for the greatest number
abbrev pub is_wide : Span → ℕ → Bool
is_wide s step = has_pixels s step (room_for s.to + 8)

-- the ticks from one number to the next
abbrev pub step_of : Span → ℕ
step_of s = max (unwrap_or (find (is_wide s) steps) 10000000) 1

-- a short line, and below it the number of its tick
unfoldable pub mark_line : ℕ → ℕ → ℕ → ℕ → List ℕ
mark_line x y foot t = codes "<rect class='w' x='" ++ (decimal x ++ (codes "' y='" ++ (decimal y
    ++ (codes "' width='1' height='4'/>\n<text class='m c' x='" ++ (decimal x ++ (codes "' y='" ++ (decimal foot ++ (codes "'>"
    ++ (decimal t ++ codes "</text>\n")))))))))

abbrev pub tick_text : Span → Frame → ℕ → List ℕ
tick_text s f t = mark_line (place_of s t) (bottom_of f) (bottom_of f + 16) t

-- the first multiple of the step from FROM on, in steps
abbrev pub first_drawn : Span → ℕ → ℕ
first_drawn s step = (s.from + (step - 1)) / step

-- how many multiples stand from FROM to TO
abbrev pub ticks_drawn : Span → ℕ → ℕ
ticks_drawn s step = (s.to / step + 1) - first_drawn s step

abbrev pub ticks_text : Span → Frame → ℕ → List ℕ
ticks_text s f step =
    flat_map (λ i. tick_text s f ((first_drawn s step + i) * step)) (below (ticks_drawn s step))

-- the line below the plot, and its name
unfoldable pub axis_head : ℕ → ℕ → List ℕ
axis_head y foot = codes "<rect class='w' x='200' y='" ++ (decimal y
    ++ (codes "' width='960' height='1'/>\n<text class='m' x='8' y='" ++ (decimal foot ++ codes "'>tick</text>\n")))

unfoldable pub axis_text : Span → Frame → List ℕ
axis_text s f = axis_head (bottom_of f) (bottom_of f + 16) ++ ticks_text s f (step_of s)
