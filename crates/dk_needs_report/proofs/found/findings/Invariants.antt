use Rattle.std.proofs.Common.{◌≡◌, ◌++◌, drop}
use Rattle.toml.specs.View.{table_view}
use Rattle.dk_needs_report.specs.Found.{told_all}
use Rattle.dk_needs_report.proofs.found.findings.Given as goal

-- what is found so far, before what the faults that are left have found
abbrev pub invariant-loop-fault : goal.invariant-loop-fault
invariant-loop-fault l = l.found.items ++ told_all (table_view l.table) (drop l.fault-index l.faults) ≡ told_all (table_view l.table) l.faults
