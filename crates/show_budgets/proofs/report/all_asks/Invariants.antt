use Rattle.std.proofs.Common.{◌≡◌}
use Rattle.std.specs.Prelude.{◌++◌, drop, map}
use Rattle.std.specs.List.{AllByRecursion}
use Rattle.show_budgets.specs.Least.{IsShort, ask_of}
use Rattle.show_budgets.proofs.report.all_asks.Given as goal

abbrev pub invariant-loop-row : goal.invariant-loop-row
invariant-loop-row l = record {
  asks : l.asks.items ++ map (ask_of l.config l.percent l.table) (drop l.row-index l.config.processes)
      ≡ map (ask_of l.config l.percent l.table) l.config.processes;
  short : AllByRecursion IsShort l.asks.items;
}
