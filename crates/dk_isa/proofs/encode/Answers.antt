use Rattle.dk_isa.proofs.RoundTrip.{read-back}
use Rattle.dk_isa.proofs.encode.Goals as goal

pub returns-clause-back : goal.returns-clause-back
returns-clause-back c = rw c.bytes.ensures (read-back c.args.instr c.requires)
