use Rattle.dk_chain.proofs.Rounding.{round-above}
use Rattle.dk_chain.proofs.reacting.round_up.Goals as goal

pub returns-clause-above : goal.returns-clause-above
returns-clause-above c = round-above c.args.ticks c.args.period c.requires.positive
