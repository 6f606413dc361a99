-- What the test answers for a configuration.
use Rattle.std.specs.Prelude.{ℕ, ◌+◌, length, map, List, Option, Some, None}
use Rattle.dk_config.specs.Configuration.{Configuration}
use Rattle.dk_config.specs.Sums.{below}
use Rattle.dk_config.specs.Windows.{period}
use Rattle.dk_config.specs.Certification.{level_demand, level_blocking, spare, first_failing}
use Rattle.dk_certify.specs.declared.table.TableRow.{TableRow}
use Rattle.dk_certify.specs.declared.certifying.Verdict.{Verdict}
use Rattle.dk_certify.specs.declared.certifying.Verdict.TheVariants.{Accepted, Fails}

-- what is found at a level
abbrev pub row_of : Configuration → ℕ → TableRow
row_of c j = record { period = period c j; demand = level_demand c j; blocking = level_blocking c j; spare = spare c j }

abbrev pub rows_of : Configuration → List TableRow
rows_of c = map (row_of c) (below (length c.levels))

abbrev pub answer_of : Configuration → Option ℕ → Verdict
answer_of c None = Accepted (rows_of c)
answer_of c (Some j) = Fails j (level_demand c j + level_blocking c j) (period c j)

-- the first level that fails, and else the rows of all levels
abbrev pub verdict_of : Configuration → Verdict
verdict_of c = answer_of c (first_failing c)

-- the fact of the rows, where the configuration is accepted
abbrev pub IfAccepted : Verdict → (List TableRow → Type 0) → Type 0
IfAccepted (Accepted rows) P = P rows
IfAccepted (Fails level needs window) P = Unit {0}
