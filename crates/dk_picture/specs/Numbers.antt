-- The numbers of a picture. Lengths are pixels.
use Rattle.std.specs.Prelude.{ℕ, ◌∷◌, [], List}

-- the left edge of the plot, and its width
abbrev pub plot_left : ℕ
plot_left = 200

abbrev pub plot_width : ℕ
plot_width = 960

-- how many children of a process have rows of their own
abbrev pub own_rows : ℕ
own_rows = 4

-- the most groups that are drawn
abbrev pub max_groups : ℕ
max_groups = 4000

-- the ticks from one number of the axis to the next, of which the first with room is taken
abbrev pub steps : List ℕ
steps = 1 ∷ 2 ∷ 5 ∷ 10 ∷ 20 ∷ 50 ∷ 100 ∷ 200 ∷ 500 ∷ 1000 ∷ 2000 ∷ 5000 ∷ 10000 ∷ 20000 ∷ 50000 ∷ 100000
    ∷ 200000 ∷ 500000 ∷ 1000000 ∷ 2000000 ∷ 5000000 ∷ 10000000 ∷ []
