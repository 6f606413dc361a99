-- Lists with an item for each level, changed at some of the levels.
use Rattle.std.specs.Prelude.{ℕ, suc, ◌+◌, ◌-◌, ◌&&◌, ◌==◌, nat_le, nat_lt, if◌then◌else◌, List, [], ◌∷◌}

-- f of the level and its item, for each level
abbrev pub by_level : (ℕ → ℕ → ℕ) → List ℕ → List ℕ
by_level f [] = []
by_level f (n ∷ ns) = f 0 n ∷ by_level (λ j. f (suc j)) ns

-- f at the level alone
abbrev pub at_level : ℕ → (ℕ → ℕ) → ℕ → ℕ → ℕ
at_level level f j n = if j == level then f n else n

-- f at the level and all slower ones
abbrev pub from_level : ℕ → (ℕ → ℕ) → ℕ → ℕ → ℕ
from_level level f j n = if nat_le level j then f n else n

-- f at the levels from a first one up to but without another
abbrev pub between : ℕ → ℕ → (ℕ → ℕ) → ℕ → ℕ → ℕ
between first level f j n = if nat_le first j && nat_lt j level then f n else n

-- what becomes of a cell: it is set, lowered, or has raise - lower added
abbrev pub set_to : ℕ → ℕ → ℕ
set_to value n = value

abbrev pub less : ℕ → ℕ → ℕ
less amount n = n - amount

abbrev pub adjusted : ℕ → ℕ → ℕ → ℕ
adjusted lower raise n = n + raise - lower
