use Rattle.std.proofs.Common.{ℕ, ◌<◌}
use Rattle.dk_allotment.specs.Given.{given}
use Rattle.dk_needs_always.specs.Lending.{TakesAtMost}
use Rattle.dk_needs_always.proofs.lending.keep_before.Given as goal

abbrev pub ghosts-taken_by : goal.ghosts-taken_by
ghosts-taken_by a = record { name = a.blank.name; parts = a.blank.parts }

-- the processes before this one keep to theirs
abbrev pub invariant-loop-process : goal.invariant-loop-process
invariant-loop-process l = (q : ℕ) → q < l.process → TakesAtMost l.loaded.config l.loaded.programs q l.ticks (given l.allotments q)
