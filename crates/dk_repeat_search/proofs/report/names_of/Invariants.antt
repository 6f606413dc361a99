use Rattle.dk_repeat_search.proofs.Names.{◌≡◌, map, take}
use Rattle.dk_repeat_search.proofs.report.names_of.Given as goal

abbrev pub invariant-loop-row : goal.invariant-loop-row
invariant-loop-row l = l.names.items ≡ map (λ row. row.name) (take l.row-index l.row-items)
