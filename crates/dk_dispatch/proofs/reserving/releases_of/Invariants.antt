use Rattle.dk_dispatch.proofs.Names.{◌≡◌, map, take, LevelRow}
use Rattle.dk_dispatch.proofs.reserving.releases_of.Given as goal

abbrev pub invariant-loop-level : goal.invariant-loop-level
invariant-loop-level l = l.releases.items ≡ map (λ (row : LevelRow). row.release) (take l.level-index l.level-items)
