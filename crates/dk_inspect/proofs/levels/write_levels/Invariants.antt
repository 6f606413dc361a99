use Rattle.dk_inspect.proofs.Names.{flat_map, below, Writes, level_line_of}
use Rattle.dk_inspect.proofs.Pieces.{done}
use Rattle.dk_inspect.proofs.levels.write_levels.Given as goal

-- the lines so far are written
abbrev pub invariant-loop-level : goal.invariant-loop-level
invariant-loop-level g l = Writes (g.S.Sink.seen l.initial.sink) (g.S.Sink.seen l.sink) done (flat_map (level_line_of l.kernel) (below l.level))
