use Rattle.dk_trace_json.proofs.Whole.{reads_as}
use Rattle.dk_trace_json.proofs.laws.is_json.Goals as goal

pub returns : goal.returns
returns c = reads_as
