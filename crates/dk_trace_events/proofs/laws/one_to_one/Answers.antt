use Rattle.dk_trace_events.proofs.ReadBack.{one_to_one, traces_same}
use Rattle.dk_trace_events.proofs.laws.one_to_one.Goals as goal

pub returns-clause-ranges : goal.returns-clause-ranges
returns-clause-ranges c = traces_same

pub returns-clause-whole : goal.returns-clause-whole
returns-clause-whole c = one_to_one
