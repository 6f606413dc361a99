use Rattle.std.proofs.Common.{◌≡◌, ◌≤◌, ◌+◌, ◌++◌, length, string_bytes}
use Rattle.dk_asm.specs.Source.{lines_of}
use Rattle.dk_source_report.specs.Report.{lines_text}
use Rattle.dk_source_report.proofs.lines.lines_text.Given as goal

-- the lines so far, before those of what is left
abbrev pub invariant-loop-rest : goal.invariant-loop-rest
invariant-loop-rest l = record {
  told : string_bytes l.text ++ lines_text l.causes l.i (lines_of l.rest) ≡ lines_text l.causes 0 (lines_of l.fn.bytes);
  few : l.i + length l.rest ≤ length l.fn.bytes;
}

abbrev pub decreases-loop-rest : goal.decreases-loop-rest
decreases-loop-rest l = length l.rest
