use Rattle.dk_repeat_search.proofs.Names.{◌≡◌, ◌+◌, ◌*◌, ◌≤◌, map, take, All, MAX_RUN_TICKS, IsOneFound, own_told, process_of, told_of}
use Rattle.dk_repeat_report.specs.Lines as lines
use Rattle.dk_repeat_search.proofs.own.all_found.Given as goal

abbrev pub invariant-loop-search : goal.invariant-loop-search
invariant-loop-search g l = record {
  all : All (IsOneFound l.fn.kernel.config l.fn.kernel.programs) l.all.items;
  processes : map lines.process_of l.all.items ≡ map process_of (take l.search-index l.own);
  told : map told_of l.all.items ≡ map own_told (take l.search-index l.own);
  same : l.kernel ≡ record l.fn.kernel { ticks = l.kernel.ticks };
  low : l.fn.kernel.ticks ≤ l.kernel.ticks;
  high : l.kernel.ticks ≤ l.fn.kernel.ticks + l.search-index * (2 * MAX_RUN_TICKS);
}
