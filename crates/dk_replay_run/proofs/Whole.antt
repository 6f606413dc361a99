-- Jobs that are no longer than the body: a window each, with the whole of it.
use Rattle.std.proofs.Common.{◌≡◌, ◌∙◌, refl, ap, ◌<◌, ◌≤◌, ◌+◌, ◌-◌, ◌*◌, ◌%◌, ℕ, zero, suc, true, List, [], ◌∷◌, length, arith}
use Rattle.std.specs.Prelude.{drop, slice_index_or, take}
use Rattle.std.specs.List.{list_any}
use Rattle.std.proofs.Math.Nat.{div-eq_of_lt, mod-lt}
use Rattle.std.proofs.lemmas.List.{take_all}
use Rattle.dk_config.specs.Configuration.{Configuration}
use Rattle.dk_config.specs.Checked.{IsChecked}
use Rattle.dk_profile.specs.Faults.{body}
use Rattle.dk_profile.specs.declared.steps.Step.{Step}
use Rattle.dk_profile.specs.Steps.{is_work}
use Rattle.dk_replay_run.specs.Profiles.{first_window, job_entries, job_in_turn, job_ticks, part_of, profile_steps, whole_job, windows_of}
use Rattle.dk_replay_run.specs.Laws.{AreWithinBody}
use Rattle.dk_replay_run.proofs.InTurn.{steps-long, workless-none}

within-at : (c : Configuration) (p : ℕ) (jobs : List (List Step)) (i : ℕ) → i < length jobs → AreWithinBody c p jobs → job_ticks c (slice_index_or jobs i []) ≤ body c p
within-at c p [] i known within = absurd (omega arith)
within-at c p (job ∷ jobs) zero known within = within.0
within-at c p (job ∷ jobs) (suc i) known within = within-at c p jobs i (omega arith) within.1

-- each job in turn is one of them
pub each-within : (c : Configuration) (p : ℕ) (jobs : List (List Step)) → list_any is_work (profile_steps jobs) ≡ true → AreWithinBody c p jobs
    → (k : ℕ) → job_ticks c (job_in_turn jobs k) ≤ body c p
each-within c p jobs works within k = within-at c p jobs (k % length jobs) (mod-lt k (workless-none jobs works)) within

pub one-window : (c : Configuration) (p : ℕ) (job : List Step) → 0 < windows_of c p job
one-window c p job = omega arith

only-one : (c : Configuration) (p : ℕ) (job : List Step) → 0 < body c p → job_ticks c job ≤ body c p → windows_of c p job ≡ 1
only-one c p job some within =
    let less : job_ticks c job - 1 < body c p = omega (arith, some, within) in
    ap (λ n. n + 1) (div-eq_of_lt less)

pub one-each : (c : Configuration) (p : ℕ) (jobs : List (List Step)) (k : ℕ) → IsChecked c → p < length c.processes → ((i : ℕ) → job_ticks c (job_in_turn jobs i) ≤ body c p)
    → first_window c p jobs k + 0 ≡ k
one-each c p jobs zero checked known within = refl
one-each c p jobs (suc k) checked known within =
    let before = one-each c p jobs k checked known within in
    let least = checked.budgets p known in
    let some : 0 < body c p = omega (arith, least) in
    let one : windows_of c p (job_in_turn jobs k) ≡ 1 = only-one c p (job_in_turn jobs k) some (within k) in
    omega (arith, before, one)

pub all-of-it : (c : Configuration) (p : ℕ) (job : List Step) → 0 < c.costs.call → job_ticks c job ≤ body c p → part_of c p job 0 ≡ job_entries c p job
all-of-it c p job cost within =
    let none : 0 * body c p ≡ 0 = omega arith in
    let long : length (job_entries c p job) ≡ job_ticks c job = steps-long c.costs.call p (whole_job job) cost in
    ap (λ n. take (body c p) (drop n (job_entries c p job))) none ∙ take_all (body c p) (job_entries c p job) (omega (arith, long, within))
