use Rattle.dk_warnings.proofs.Names.{◌≡◌, ◌-◌, length, eqb, find, below, numbers, spare}
use Rattle.dk_warnings.proofs.processes.full_level.Given as goal

-- the search goes on with the levels that are left
abbrev pub invariant-loop-level : goal.invariant-loop-level
invariant-loop-level l =
    find (λ j. eqb (spare l.config j) 0) (below (length l.config.levels)) ≡ find (λ j. eqb (spare l.config j) 0) (numbers l.level (length l.config.levels - l.level))
