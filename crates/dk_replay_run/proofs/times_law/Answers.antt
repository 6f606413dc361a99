use Rattle.dk_alone.proofs.Names.{◌∙◌, List, ap, subst, window_from}
use Rattle.dk_profile.specs.declared.steps.Step.{Step}
use Rattle.dk_replay.specs.Code.{program_of}
use Rattle.dk_replay_run.specs.Jobs.{work_times}
use Rattle.dk_replay_run.specs.Laws.{HasUsed, window_tick}
use Rattle.dk_replay_run.proofs.Times.{have-room, same-steps, whole-time}
use Rattle.dk_replay_run.proofs.times_law.Goals as goal

pub returns : goal.returns
returns c config programs p k times limits checked accepted known few right begins fits is =
    subst (λ n. HasUsed p n (window_from config programs p (window_tick config p k))) (whole-time config p k times begins fits)
    (c.uses_law.ensures config programs p k (work_times config.costs.call times) limits checked accepted known few right begins (have-room config p times fits)
    (is ∙ ap (λ (l : List Step). program_of l) (same-steps config.costs.call times)))
