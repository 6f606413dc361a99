use Rattle.std.proofs.Common.{◌≡◌, ◌++◌, drop, string_bytes}
use Rattle.std.specs.Prelude.{flat_map}
use Rattle.dk_repeat_report.specs.Lines.{process_lines}
use Rattle.dk_repeat_report.proofs.text.add_lines.Given as goal

-- the lines so far, before those of the processes that are left
abbrev pub invariant-loop-found : goal.invariant-loop-found
invariant-loop-found l =
    string_bytes l.text ++ flat_map (process_lines l.names l.ticks l.counts) (drop l.found-index l.own)
    ≡ string_bytes l.initial.text ++ flat_map (process_lines l.names l.ticks l.counts) l.own
