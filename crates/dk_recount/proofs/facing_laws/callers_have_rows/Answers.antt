use Rattle.dk_recount.proofs.Facing.{caller-is-there, caller-has-slot}
use Rattle.dk_recount.proofs.facing_laws.callers_have_rows.Goals as goal

pub returns-clause-there : goal.returns-clause-there
returns-clause-there c = caller-is-there c.caller_laws.ensures

pub returns-clause-slots : goal.returns-clause-slots
returns-clause-slots c = caller-has-slot c.caller_laws.ensures
