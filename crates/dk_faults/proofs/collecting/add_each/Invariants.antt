use Rattle.std.proofs.Common.{◌≡◌, ℕ, List, ◌++◌, drop}
use Rattle.dk_config.specs.Tests.{Test, each_row}
use Rattle.dk_faults.specs.Faults.{Reports, broken}
use Rattle.dk_faults.proofs.collecting.add_each.Given as goal

-- what is found, and what the rows that are left report
abbrev pub invariant-loop-i : goal.invariant-loop-i
invariant-loop-i g l = (tests : ℕ → g.row.T.Denot → List Test) → Reports (goal.F-post g l.test) tests
    → l.found.items ++ broken (each_row tests l.i (drop l.i l.rows)) ≡ l.initial.found.items ++ broken (each_row tests 0 l.rows)
