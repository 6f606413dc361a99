use Rattle.dk_audit.proofs.Names.{List, ◌≡◌, ◌-◌, ◌++◌, length, replicate, Configuration, Entry, IsAfter, whole_past}
use Rattle.std.specs.Prelude.{None}
use Rattle.dk_audit.proofs.lines.judge_line.Given as goal

-- so many of the line's entries have followed the rules
abbrev pub invariant-loop-tick : goal.invariant-loop-tick
invariant-loop-tick g l = (c : Configuration) (es : List Entry) → l.fn.line.start ≡ length es → IsAfter c (whole_past es) l.fn.tables
    → IsAfter c (whole_past (es ++ replicate (l.tick - l.fn.line.start) (record { label = l.fn.line.label; event = None }))) l.tables
