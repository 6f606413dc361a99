use Rattle.std.proofs.Common.{◌≡◌, map, take}
use Rattle.dk_windows.proofs.Moving.{first_window}
use Rattle.dk_windows.proofs.windows.Windows.at_start.Given as goal

abbrev pub invariant-loop-level : goal.invariant-loop-level
invariant-loop-level l = l.rows.items ≡ map first_window (take l.level-index l.level-items)
