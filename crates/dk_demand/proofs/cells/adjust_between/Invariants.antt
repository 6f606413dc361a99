use Rattle.dk_demand.proofs.Names.{◌≡◌, ◌≤◌, ◌+◌, ◌-◌, adjusted, between, by_level}
use Rattle.dk_demand.proofs.cells.adjust_between.Given as goal

abbrev pub invariant-loop-blocked : goal.invariant-loop-blocked
invariant-loop-blocked g l = record {
  cells : l.cells ≡ by_level (between l.fn.levels.start l.blocked (adjusted l.less l.more)) l.fn.cells;
  past : l.blocked ≤ l.fn.levels.start + (l.fn.levels.end - l.fn.levels.start);
  steps : l.steps ≡ l.fn.steps + (l.blocked - l.fn.levels.start);
}
