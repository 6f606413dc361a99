use Rattle.dk_demand.proofs.Names.{◌≡◌, map, take}
use Rattle.dk_demand.proofs.demand.Demand.at_start.Given as goal

abbrev pub invariant-loop-level : goal.invariant-loop-level
invariant-loop-level l = record {
  gone : l.gone.items ≡ map (λ row. 0) (take l._level-index l._level-items);
  own : l.own.items ≡ map (λ row. 0) (take l._level-index l._level-items);
  remaining : l.remaining.items ≡ map (λ row. 0) (take l._level-index l._level-items);
  blocking : l.blocking.items ≡ map (λ row. 0) (take l._level-index l._level-items);
}
