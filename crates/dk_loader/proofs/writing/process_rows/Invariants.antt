use Rattle.dk_loader.proofs.Names.{◌≡◌, true, map, take, list_all, table, view, process_members, is_small_process}
use Rattle.dk_loader.proofs.writing.process_rows.Given as goal

abbrev pub invariant-loop-process : goal.invariant-loop-process
invariant-loop-process l = record {
  rows : map view l.rows.items ≡ map (λ row. table (process_members row)) (take l.process-index l.processes);
  small : list_all is_small_process (take l.process-index l.processes) ≡ true;
}
