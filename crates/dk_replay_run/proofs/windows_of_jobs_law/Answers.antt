use Rattle.dk_alone.proofs.Names.{ℕ, ◌+◌, ◌*◌, ◌∙◌, List, [], ap, sym, subst, mul-mod_left, take, period, main_level, alone, entries_of, ReadsNoTick, KeepsToItself}
use Rattle.std.specs.Prelude.{slice_index_or}
use Rattle.dk_alone.proofs.Cycles.{begins-sum}
use Rattle.std.proofs.Math.Nat.{mod_self}
use Rattle.dk_replay_run.specs.Profiles.{first_window, profile_steps}
use Rattle.dk_replay_run.proofs.windows_of_jobs_law.Goals as goal

pub returns : goal.returns
returns c config programs p k j jobs limits checked accepted known children right works fits few is =
    let span : ℕ = period config (main_level config p) in
    let n : ℕ = first_window config p jobs k + j in
    let keeps : KeepsToItself config p (slice_index_or programs p []) = record {
      known = known;
      threads = children;
      slack = right;
      clock = subst ReadsNoTick (sym is) (c.clock_law.ensures (profile_steps jobs));
    } in
    let here = mul-mod_left n span in
    c.windows_law.ensures config programs p (n * span) span checked accepted keeps here (begins-sum config p (n * span) span here (mod_self span))
    ∙ ap (λ (program : List ℕ). entries_of p (take span (alone config p program (n * span + span)).past)) is
    ∙ c.parts_law.ensures config p k j jobs limits checked accepted known works fits few
