use Rattle.std.proofs.Common.{refl}
use Rattle.dk_needs_check.specs.declared.row.Measure.{Measure}
use Rattle.dk_needs_check.specs.Meaning.{IsDone}
use Rattle.dk_needs_check.proofs.Told.{at_most}
use Rattle.dk_needs_check.proofs.bounds.done_bound.Goals as goal

pub returns : goal.returns
returns c =
    at_most (IsDone c.args.config.now c.args.process) Measure.Done c.done_by.result c.args.within c.bound.result refl
    (record { reached = c.done_by.ensures.reached; least = c.done_by.ensures.least }) c.bound.ensures
