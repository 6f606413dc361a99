use Rattle.dk_dispatch.proofs.Names.{◌≡◌, map, take, LevelRow, new_job}
use Rattle.dk_dispatch.proofs.reserving.first_parts.Given as goal

abbrev pub invariant-loop-level : goal.invariant-loop-level
invariant-loop-level l = l.parts.items ≡ map (λ (row : LevelRow). new_job row.release) (take l.level-index l.level-items)
