use Rattle.dk_command.proofs.Names.{◌≡◌, ◌++◌, ℕ, List, length, Ok, Writes, SinkError}
use Rattle.dk_command.proofs.work.write_lines.Given as goal

-- what comes before the rest is written
abbrev pub invariant-loop-rest : goal.invariant-loop-rest
invariant-loop-rest g l = (front : List ℕ) × (front ++ l.rest ≡ l.bytes) × Writes {A = Unit {0}} {E = SinkError} (g.S.Sink.seen l.initial.sink) (g.S.Sink.seen l.sink) (Ok tt) front

abbrev pub decreases-loop-rest : goal.decreases-loop-rest
decreases-loop-rest g l = length l.rest
