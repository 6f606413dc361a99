use Rattle.std.proofs.Common.{◌≡◌, ◌++◌, drop}
use Rattle.std.specs.Prelude.{map}
use Rattle.dk_chain_report.specs.Changes.{moved}
use Rattle.dk_chain_report.proofs.changes.all_moved.Given as goal

-- the numbers so far, before those that are left
abbrev pub invariant-loop-process : goal.invariant-loop-process
invariant-loop-process l =
    l.all.items ++ map (moved l.earlier l.later) (drop l.process-index l.rest) ≡ map (moved l.earlier l.later) l.rest
