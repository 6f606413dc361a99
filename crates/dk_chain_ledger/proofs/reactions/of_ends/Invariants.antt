use Rattle.dk_chain_ledger.specs.Reactions.{TellsReactions}
use Rattle.dk_chain_ledger.specs.Tables.{told}
use Rattle.dk_chain_ledger.proofs.Events.{reaction_below}
use Rattle.dk_chain_ledger.proofs.reactions.of_ends.Given as goal

abbrev pub invariant-loop-window : goal.invariant-loop-window
invariant-loop-window l = TellsReactions (reaction_below (told l.ends) l.ticks l.window) l.seen
