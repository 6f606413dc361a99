use Rattle.dk_alone.proofs.Names.{◌∙◌, List, ap, subst, sym, window_from}
use Rattle.dk_profile.specs.declared.steps.Step.{Step}
use Rattle.dk_replay.specs.Code.{program_of}
use Rattle.dk_replay_run.specs.Laws.{HasUsed, window_tick}
use Rattle.dk_replay_run.proofs.Timed.{same-profile, some-work, timed-fit, timed-ticks, timed-within, timed_jobs}
use Rattle.dk_replay_run.proofs.uses_law.Goals as goal

pub returns : goal.returns
returns c config programs p k times limits checked accepted known children right works room is =
    subst (λ n. HasUsed p n (window_from config programs p (window_tick config p k))) (timed-ticks config times k)
    (c.used_jobs_law.ensures config programs p k (timed_jobs times) limits checked accepted known children right (some-work times works)
    (timed-fit config p times limits room) (timed-within config p times room) (is ∙ ap (λ (l : List Step). program_of l) (sym (same-profile times))))
