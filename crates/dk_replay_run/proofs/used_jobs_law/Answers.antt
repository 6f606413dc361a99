use Rattle.dk_alone.proofs.Names.{window_from}
use Rattle.dk_replay_run.specs.Profiles.{job_in_turn}
use Rattle.dk_replay_run.specs.Laws.{window_tick}
use Rattle.dk_replay_run.proofs.UsedJobs.{used-there, waited-there}
use Rattle.dk_replay_run.proofs.used_jobs_law.Goals as goal

pub returns : goal.returns
returns c config programs p k jobs limits checked accepted known children right works fits within is =
    let window = window_from config programs p (window_tick config p k) in
    let entries = c.whole_jobs_law.ensures config programs p k jobs limits checked accepted known children right works fits within is in
    record {
      used = used-there config p (job_in_turn jobs k) limits.some_call window entries;
      waited = waited-there config p (job_in_turn jobs k) window entries;
    }
