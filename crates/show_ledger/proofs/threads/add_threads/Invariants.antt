use Rattle.std.proofs.Common.{◌≡◌, ◌++◌, drop, flat_map}
use Rattle.show_ledger.specs.Threads.{thread_told}
use Rattle.show_ledger.proofs.threads.add_threads.Given as goal

-- the rows so far, before those that are left
abbrev pub invariant-loop-row : goal.invariant-loop-row
invariant-loop-row l =
    l.out.items ++ flat_map (thread_told l.form l.header l.accounts) (drop l.row-index l.rows)
    ≡ l.initial.out.items ++ flat_map (thread_told l.form l.header l.accounts) l.rows
