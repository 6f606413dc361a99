-- A table of times as jobs of works and waits.
use Rattle.std.proofs.Common.{◌≡◌, ◌∙◌, refl, ap, ◌<◌, ◌≤◌, ◌+◌, ◌-◌, ◌*◌, ◌%◌, ℕ, zero, suc, true, false, List, [], ◌∷◌, ◌++◌, length, arith}
use Rattle.std.specs.Prelude.{flat_map, nat_lt, slice_index_or}
use Rattle.std.proofs.Math.Nat.{mod-lt}
use Rattle.std.proofs.lemmas.Bool.Decides.{nat_tests}
use Rattle.dk_config.specs.Configuration.{Configuration}
use Rattle.dk_profile.specs.declared.steps.Step.{Step}
use Rattle.dk_profile.specs.declared.steps.Step.TheVariants as kind
use Rattle.dk_replay_run.specs.Jobs.{FitWindows, HaveRoom, HaveSomeWork, job_steps, job_time, steps_of_jobs, work_times}
use Rattle.dk_times.specs.Table.{job_of}
use Rattle.dk_replay_run.proofs.Room.{some-timed}

one-same : (call ticks n : ℕ) → ticks - call ≡ n → job_of call ticks ≡ job_steps n
one-same call ticks zero is =
    let test : nat_lt call ticks ≡ false = grind (arith, nat_tests) in
    rw test refl
one-same call ticks (suc n) is =
    let test : nat_lt call ticks ≡ true = grind (arith, nat_tests) in
    rw test (ap (λ k. kind.Work k ∷ kind.Wait ∷ []) is)

pub same-steps : (call : ℕ) (times : List ℕ) → flat_map (job_of call) times ≡ steps_of_jobs (work_times call times)
same-steps call [] = refl
same-steps call (ticks ∷ times) =
    ap (λ (l : List Step). l ++ flat_map (job_of call) times) (one-same call ticks (ticks - call) refl)
    ∙ ap (λ (l : List Step). job_steps (ticks - call) ++ l) (same-steps call times)

pub have-room : (c : Configuration) (p : ℕ) (times : List ℕ) → FitWindows c p times → HaveRoom c p (work_times c.costs.call times)
have-room c p [] fits = tt
have-room c p (ticks ∷ times) fits =
    let least = fits.0 in
    let most = fits.1 in
    (omega (arith, least, most), have-room c p times fits.2)

long-enough : (c : Configuration) (p : ℕ) (times : List ℕ) (i : ℕ) → i < length times → FitWindows c p times → c.costs.call ≤ slice_index_or times i 0
long-enough c p [] i within fits = absurd (omega arith)
long-enough c p (ticks ∷ times) zero within fits = fits.0
long-enough c p (ticks ∷ times) (suc i) within fits = long-enough c p times i (omega arith) fits.2

as-many : (call : ℕ) (times : List ℕ) → length (work_times call times) ≡ length times
as-many call [] = refl
as-many call (ticks ∷ times) = ap suc (as-many call times)

index-of : (call : ℕ) (times : List ℕ) (i : ℕ) → slice_index_or (work_times call times) i 0 ≡ slice_index_or times i 0 - call
index-of call [] i = omega arith
index-of call (ticks ∷ times) zero = refl
index-of call (ticks ∷ times) (suc i) = index-of call times i

pub whole-time : (c : Configuration) (p k : ℕ) (times : List ℕ) → HaveSomeWork (work_times c.costs.call times) → FitWindows c p times
    → job_time (work_times c.costs.call times) k + c.costs.call + 2 * c.costs.switch ≡ slice_index_or times (k % length times) 0 + 2 * c.costs.switch
whole-time c p k times begins fits =
    let long : length (work_times c.costs.call times) ≡ length times = as-many c.costs.call times in
    let some : 0 < length (work_times c.costs.call times) = some-timed (work_times c.costs.call times) begins in
    let some' : 0 < length times = omega (arith, long, some) in
    let least = long-enough c p times (k % length times) (mod-lt k some') fits in
    let time : job_time (work_times c.costs.call times) k ≡ slice_index_or times (k % length times) 0 - c.costs.call =
    ap (λ n. slice_index_or (work_times c.costs.call times) (k % n) 0) long ∙ index-of c.costs.call times (k % length times) in
    omega (arith, time, least)
