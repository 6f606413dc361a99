use Rattle.dk_alone.proofs.Names.{◌∙◌, List, ap, reverse}
use Rattle.dk_profile.specs.declared.steps.Step.{Step}
use Rattle.dk_replay.specs.Code.{program_of}
use Rattle.std.proofs.Common.{sym}
use Rattle.dk_replay_run.specs.Jobs.{job_time}
use Rattle.dk_replay_run.specs.Profiles.{job_entries, whole_window}
use Rattle.dk_replay_run.proofs.Timed.{same-profile, same-window, some-work, timed-fit, timed-turn, timed-within, timed_jobs}
use Rattle.dk_replay_run.proofs.replays_law.Goals as goal

pub returns : goal.returns
returns c config programs p k times limits checked accepted known children right works room is =
    c.whole_jobs_law.ensures config programs p k (timed_jobs times) limits checked accepted known children right (some-work times works)
    (timed-fit config p times limits room) (timed-within config p times room) (is ∙ ap (λ (l : List Step). program_of l) (sym (same-profile times)))
    ∙ ap (λ (job : List Step). reverse (whole_window config p (job_entries config p job))) (timed-turn times k)
    ∙ same-window config p (job_time times k)
