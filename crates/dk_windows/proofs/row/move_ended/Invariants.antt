use Rattle.std.proofs.Common.{◌≡◌, ◌++◌, map, take, drop}
use Rattle.dk_windows.specs.Rows.{moved}
use Rattle.dk_windows.proofs.row.move_ended.Given as goal

abbrev pub invariant-loop-window : goal.invariant-loop-window
invariant-loop-window l = l.windows ≡ map (moved l.next) (take l.window-index l.initial.windows) ++ drop l.window-index l.initial.windows
