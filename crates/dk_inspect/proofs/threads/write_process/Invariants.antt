use Rattle.dk_inspect.proofs.Names.{flat_map, below, Writes, line_at}
use Rattle.dk_inspect.proofs.Pieces.{done}
use Rattle.dk_inspect.proofs.threads.write_process.Given as goal

-- the lines so far are written
abbrev pub invariant-loop-place : goal.invariant-loop-place
invariant-loop-place g l = Writes (g.S.Sink.seen l.initial.sink) (g.S.Sink.seen l.sink) done (flat_map (line_at l.kernel l.process) (below l.place))
