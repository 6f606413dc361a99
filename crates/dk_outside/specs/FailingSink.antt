-- What is known of a sink of which some writes fail.
use Rattle.std.specs.Prelude.{ℕ, List, Some, Contains}
use Rattle.dk_outside.specs.Counts.{raised}
use Rattle.dk_outside.specs.MemSink.{mem_bytes, mem_capacity}
use Rattle.dk_outside.specs.Views.{SinkView}
use Rattle.dk_outside.specs.declared.mem_sink.MemSink.{MemSink}
use Rattle.dk_outside.specs.declared.failing_sink.FailingSink.{FailingSink}

abbrev pub inner_sink : FailingSink → MemSink
inner_sink s = s.inner

-- the numbers of the writes that fail, counted from 1
abbrev pub failing_writes : FailingSink → List ℕ
failing_writes s = s.fails.items

abbrev pub writes_so_far : FailingSink → ℕ
writes_so_far s = s.writes

-- the next write is one of those
abbrev pub IsToFail : FailingSink → Type 0
IsToFail s = Contains (failing_writes s) (raised (writes_so_far s))

-- what was written so far
abbrev pub inner_bytes : FailingSink → List ℕ
inner_bytes s = mem_bytes (inner_sink s)

abbrev pub failing_faults : FailingSink → ℕ
failing_faults s = s.faults

-- what is seen of it: it tells what the inner sink holds, and its capacity
abbrev pub failing_sink_view : FailingSink → SinkView
failing_sink_view s = record {
  written = Some (inner_bytes s);
  faults = failing_faults s;
  capacity = Some (mem_capacity (inner_sink s));
}
