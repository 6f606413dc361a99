use Rattle.dk_loader.proofs.Names.{◌≡◌, true, map, take, list_all, table, view, level_members, is_small_level}
use Rattle.dk_loader.proofs.writing.level_rows.Given as goal

abbrev pub invariant-loop-level : goal.invariant-loop-level
invariant-loop-level l = record {
  rows : map view l.rows.items ≡ map (λ row. table (level_members row)) (take l.level-index l.levels);
  small : list_all is_small_level (take l.level-index l.levels) ≡ true;
}
