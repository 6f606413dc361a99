use Rattle.std.proofs.Common.{ℕ, ◌≡◌, drop}
use Rattle.std.specs.Prelude.{◌||◌}
use Rattle.dk_overrun_spans.specs.Marks.{is_last, is_marked}
use Rattle.dk_overrun_spans.proofs.marks.marked.Given as goal

-- the marks so far, before those that are left
abbrev pub invariant-loop-overrun : goal.invariant-loop-overrun
invariant-loop-overrun l = (t : ℕ) → (is_marked l.marks.items t || is_last (drop l.overrun-index l.overruns) t) ≡ is_last l.overruns t
