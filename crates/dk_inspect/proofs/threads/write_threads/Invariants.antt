use Rattle.dk_inspect.proofs.Names.{flat_map, below, Writes, process_lines}
use Rattle.dk_inspect.proofs.Pieces.{done}
use Rattle.dk_inspect.proofs.threads.write_threads.Given as goal

-- the lines so far are written
abbrev pub invariant-loop-process : goal.invariant-loop-process
invariant-loop-process g l = Writes (g.S.Sink.seen l.initial.sink) (g.S.Sink.seen l.sink) done (flat_map (process_lines l.kernel) (below l.process))
