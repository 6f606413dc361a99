-- What stands in the columns of more than one report.
use Rattle.std.specs.Prelude.{ℕ, ◌==◌, if◌then◌else◌, List, [], decimal}

-- a number, where there is something that it tells of
abbrev pub told_if : ℕ → ℕ → List ℕ
told_if count n = if count == 0 then [] else decimal n
