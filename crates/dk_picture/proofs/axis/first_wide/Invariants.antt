use Rattle.dk_picture.proofs.Names.{◌≡◌, drop, find, is_wide}
use Rattle.dk_picture.proofs.axis.first_wide.Given as goal

-- none so far
abbrev pub invariant-loop-step : goal.invariant-loop-step
invariant-loop-step l = find (is_wide l.span) (drop l.step-index l.steps) ≡ find (is_wide l.span) l.steps
