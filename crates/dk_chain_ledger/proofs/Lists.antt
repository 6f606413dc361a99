-- What passes in a list from a place on.
use Rattle.std.proofs.Common.{ℕ, ◌+◌, eqb, cond}

-- the last that passes: `before` of the first n, and `more` of those after them
abbrev pub joined_last : ℕ → ℕ → ℕ → ℕ
joined_last before n more = cond (eqb more 0) before (n + more)
