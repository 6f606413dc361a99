-- What is known of a sink in memory.
use Rattle.std.specs.Prelude.{ℕ, ◌≡◌, ◌-◌, length, List, Some}
use Rattle.dk_outside.specs.Views.{SinkView}
use Rattle.dk_outside.specs.declared.mem_sink.MemSink.{MemSink}

-- what was written so far
abbrev pub mem_bytes : MemSink → List ℕ
mem_bytes s = s.bytes.items

abbrev pub mem_capacity : MemSink → ℕ
mem_capacity s = s.capacity

-- it has as many bytes as it has room for
abbrev pub IsFull : MemSink → Type 0
IsFull s = length (mem_bytes s) ≡ mem_capacity s

-- how many more bytes it has room for
abbrev pub room_left : MemSink → ℕ
room_left s = mem_capacity s - length (mem_bytes s)

abbrev pub sink_faults : MemSink → ℕ
sink_faults s = s.faults

-- what is seen of it: it tells what was written, and its capacity
abbrev pub mem_sink_view : MemSink → SinkView
mem_sink_view s = record { written = Some (mem_bytes s); faults = sink_faults s; capacity = Some (mem_capacity s) }
