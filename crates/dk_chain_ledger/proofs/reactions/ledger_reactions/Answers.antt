use Rattle.std.proofs.Common.{subst}
use Rattle.dk_chain_ledger.specs.Reactions.{TellsReactions, reaction_by, reaction_in}
use Rattle.dk_chain_ledger.specs.Tables.{told}
use Rattle.dk_chain_ledger.proofs.Events.{same-reaction, tells-same}
use Rattle.dk_chain_ledger.proofs.reactions.ledger_reactions.Goals as goal

pub returns : goal.returns
returns c =
    let track = c.in_ok-track.track in
    tells-same (reaction_by (told track.ends.items) track.ticks) (reaction_in c.args.config.now c.args.entries.now c.args.first c.args.rest.now) c.of_ends.result
    (same-reaction c.args.config.now c.args.entries.now c.args.first c.args.rest.now track c.in_ok-track.ensures.track)
    (subst (λ xs. TellsReactions (reaction_by (told xs) track.ticks) c.of_ends.result) c.as_slice.ensures.value c.of_ends.ensures)
