use Rattle.std.proofs.Common.{sym}
use Rattle.dk_chain.proofs.reacting.free_from.Goals as goal

pub returns-clause-from : goal.returns-clause-from
returns-clause-from c done are = sym (c.gap.ensures.gap done are c.args.start)
