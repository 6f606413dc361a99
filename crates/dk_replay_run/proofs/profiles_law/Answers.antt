use Rattle.dk_alone.proofs.Names.{◌≡◌, ◌∙◌, true, List, ap, sym, subst}
use Rattle.std.specs.List.{list_any}
use Rattle.dk_profile.specs.declared.steps.Placed.{Placed}
use Rattle.dk_profile.specs.declared.steps.Step.{Step}
use Rattle.dk_profile.specs.Steps.{is_work, steps_of}
use Rattle.dk_times.specs.Whole.{readings_in}
use Rattle.dk_replay.specs.Code.{program_of}
use Rattle.dk_replay.specs.Pages.{faults_in}
use Rattle.dk_replay_run.specs.Profiles.{jobs_in}
use Rattle.dk_replay_run.proofs.Faultless.{stands}
use Rattle.dk_replay_run.proofs.Said.{no-faults, steps-said}
use Rattle.dk_replay_run.proofs.profiles_law.Goals as goal

pub returns : goal.returns
returns c config programs form p k j name bytes limits checked accepted known children right made few is =
    let readings : List Placed = readings_in config form p name bytes in
    let found = stands config p limits checked right readings (no-faults (faults_in config form p name bytes) made) (steps-said config p form name bytes) in
    let works = subst (λ (l : List Step). list_any is_work l ≡ true) (sym found.whole) found.works in
    c.windows_of_jobs_law.ensures config programs p k j (jobs_in (steps_of readings)) limits checked accepted known children right works found.fit few
    (is ∙ ap (λ (l : List Step). program_of l) (sym found.whole))
