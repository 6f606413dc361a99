use Rattle.std.proofs.Common.{List, ◌≡◌, ◌++◌, flat_map, length}
use Rattle.dk_config.specs.Sums.{below}
use Rattle.dk_trace.specs.declared.Entry.{Entry}
use Rattle.show_ledger.specs.TenthsTable.{process_told}
use Rattle.show_ledger.specs.Told.{AreTold}
use Rattle.show_ledger.proofs.tenths.add_processes.Given as goal

-- the records so far
abbrev pub invariant-loop-process : goal.invariant-loop-process
invariant-loop-process l = (past : List Entry) → AreTold l.header past l.mains → l.ticks ≡ length past
    → l.out.items ≡ l.initial.out.items ++ flat_map (process_told l.header past) (below l.process)
