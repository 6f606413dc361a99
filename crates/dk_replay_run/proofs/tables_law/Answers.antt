use Rattle.std.proofs.Common.{◌∙◌, List, ap}
use Rattle.dk_profile.specs.declared.steps.Step.{Step}
use Rattle.dk_replay.specs.Code.{program_of}
use Rattle.dk_times.specs.Table.{times_of}
use Rattle.dk_times.proofs.Jobs.{has_jobs}
use Rattle.dk_replay_run.proofs.tables_law.Goals as goal

pub returns : goal.returns
returns c config programs p k name table limits checked accepted known few right begins fits is =
    c.times_law.ensures config programs p k (times_of config.costs.call name table) limits checked accepted known few right begins fits
    (is ∙ ap (λ (l : List Step). program_of l) (has_jobs config.costs.call name table))
