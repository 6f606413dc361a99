use Rattle.std.proofs.Common.{◌≡◌, ◌++◌, drop}
use Rattle.dk_profile.specs.Faults.{first_state, line_faults}
use Rattle.dk_profile.proofs.faults.line_faults.Given as goal

-- what is wrong so far, before what is wrong in the lines that are left
abbrev pub invariant-loop-placed : goal.invariant-loop-placed
invariant-loop-placed l =
    l.faults.items ++ line_faults l.config l.process l.state (drop l.placed-index l.readings)
    ≡ line_faults l.config l.process first_state l.readings
