use Rattle.std.proofs.Common.{length}
use Rattle.show_budgets.proofs.together.+set_budgets.Given as goal

abbrev pub decreases-set_budgets : goal.decreases-set_budgets
decreases-set_budgets l = length l.asks.now
