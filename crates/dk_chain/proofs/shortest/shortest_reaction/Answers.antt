use Rattle.dk_chain.proofs.Names.{suc, arith}
use Rattle.dk_chain.proofs.shortest.shortest_reaction.Goals as goal

pub budgets_of-requires-clause-there : goal.budgets_of-requires-clause-there
budgets_of-requires-clause-there c = λ k d less. c.requires.there (suc k) d (omega (arith, less))
