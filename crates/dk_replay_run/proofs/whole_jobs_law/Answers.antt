use Rattle.dk_alone.proofs.Names.{◌≡◌, ◌<◌, ◌+◌, ◌∙◌, ap, sym, reverse, own_window}
use Rattle.dk_replay_run.specs.Profiles.{first_window, job_in_turn, whole_window, windows_of}
use Rattle.dk_replay_run.specs.Laws.{window_tick}
use Rattle.dk_replay_run.proofs.Whole.{all-of-it, each-within, one-each, one-window}
use Rattle.dk_replay_run.proofs.whole_jobs_law.Goals as goal

pub returns : goal.returns
returns c config programs p k jobs limits checked accepted known children right works fits all is =
    let within = each-within config p jobs works all in
    let few : 0 < windows_of config p (job_in_turn jobs k) = one-window config p (job_in_turn jobs k) in
    let at : first_window config p jobs k + 0 ≡ k = one-each config p jobs k checked known within in
    ap (λ n. own_window config programs p (window_tick config p n)) (sym at)
    ∙ c.windows_of_jobs_law.ensures config programs p k 0 jobs limits checked accepted known children right works fits few is
    ∙ ap (λ es. reverse (whole_window config p es)) (all-of-it config p (job_in_turn jobs k) limits.some_call (within k))
