use Rattle.std.proofs.Common.{length}
use Rattle.show_budgets.proofs.report.+add_asks.Given as goal

abbrev pub decreases-add_asks : goal.decreases-add_asks
decreases-add_asks l = length l.asks.now
