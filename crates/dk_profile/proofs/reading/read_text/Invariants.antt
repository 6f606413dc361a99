use Rattle.std.proofs.Common.{◌≡◌, ◌≤◌, ◌+◌, ◌++◌, length}
use Rattle.dk_asm.specs.Source.{lines_of}
use Rattle.dk_profile.specs.declared.TheConstants.{MAX_PROFILE_BYTES}
use Rattle.dk_profile.specs.Reading.{placed, readings_of}
use Rattle.dk_profile.proofs.reading.read_text.Given as goal

-- what the lines so far say, before those of what is left
abbrev pub invariant-loop-rest : goal.invariant-loop-rest
invariant-loop-rest l = record {
  said : l.readings.items ++ placed l.config l.process l.line (lines_of l.rest) ≡ readings_of l.config l.process l.fn.text;
  count : length l.readings.items + 1 ≡ l.line;
  few : l.line + length l.rest ≤ MAX_PROFILE_BYTES + 1;
}

abbrev pub decreases-loop-rest : goal.decreases-loop-rest
decreases-loop-rest l = length l.rest
