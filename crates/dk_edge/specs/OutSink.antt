-- What is known of output that is gathered.
use Rattle.std.specs.Prelude.{ℕ, ◌≡◌, List, Option}
use Rattle.std.specs.Io.KnownBytes.{append_known}
use Rattle.dk_outside.specs.Views.{SinkView}
use Rattle.dk_edge.specs.Buffer.{waiting_in}
use Rattle.dk_edge.specs.declared.out_sink.OutSink.{OutSink}

-- the output that pieces are handed on to
abbrev pub handed_to : {S : Type 0} → OutSink S → S
handed_to s = s.out

-- what waits to be handed on
abbrev pub held_back : {S : Type 0} → OutSink S → List ℕ
held_back s = waiting_in s.held

-- what is seen of it as a sink: of what was written, what the output took and then what is held back
abbrev pub out_view : {S : Type 0} → (S → SinkView) → OutSink S → SinkView
out_view seen s = record {
  written = append_known (seen (handed_to s)).written (held_back s);
  faults = (seen (handed_to s)).faults;
  capacity = (seen (handed_to s)).capacity;
}

-- what was written is what the output took and then some bytes that it didn't take
abbrev pub IsFrontOf : Option (List ℕ) → Option (List ℕ) → Type 0
IsFrontOf took written = (rest : List ℕ) × (written ≡ append_known took rest)
