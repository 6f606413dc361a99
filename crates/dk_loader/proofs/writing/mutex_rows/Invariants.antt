use Rattle.dk_loader.proofs.Names.{◌≡◌, true, map, take, list_all, table, view, mutex_members, is_small_mutex}
use Rattle.dk_loader.proofs.writing.mutex_rows.Given as goal

abbrev pub invariant-loop-mutex : goal.invariant-loop-mutex
invariant-loop-mutex l = record {
  rows : map view l.rows.items ≡ map (λ row. table (mutex_members row)) (take l.mutex-index l.mutexes);
  small : list_all is_small_mutex (take l.mutex-index l.mutexes) ≡ true;
}
