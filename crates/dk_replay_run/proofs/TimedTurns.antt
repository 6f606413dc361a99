-- Jobs by their ticks of work, with the processor to themselves: where each begins, and the window that has it.
use Rattle.dk_alone.proofs.Names.{ℕ, zero, suc, ◌≡◌, ◌+◌, ◌*◌, ◌%◌, ◌<◌, ◌≤◌, inl, inr, List, [], ◌∷◌, length, refl, sym, ap, ◌∙◌, subst, arith, take, reverse, sum_by, Configuration, IsChecked, IsAccepted, period, main_level, alone, entries_of}
use Rattle.dk_config.specs.Checked.{IsWithinLimits}
use Rattle.dk_cpu.specs.declared.Context.{Context}
use Rattle.dk_profile.specs.Faults.{body}
use Rattle.dk_profile.specs.Steps.{step_size}
use Rattle.dk_profile.specs.declared.steps.Step.{Step}
use Rattle.dk_alone.proofs.Again.{stopped-is}
use Rattle.dk_replay.specs.Code.{program_of}
use Rattle.dk_replay.specs.Laws.{StandsAt}
use Rattle.dk_replay_run.specs.Jobs.{BeginsWithWork, HaveRoom, HaveSomeWork, StandsReady, job_place, job_time, job_window, steps_of_jobs}
use Rattle.dk_replay_run.specs.Laws.{window_tick}
use Rattle.dk_replay_run.specs.Profiles.{first_window, job_entries, job_in_turn, job_ticks, profile_steps, whole_window}
use Rattle.dk_replay_run.proofs.InTurn.{start-of, window-entries}
use Rattle.dk_replay_run.proofs.Laps.{ReadyAt}
use Rattle.dk_replay_run.proofs.Timed.{as-long, same-profile, same-window, some-work, timed, timed-fit, timed-turn, timed-within, timed_jobs}
use Rattle.dk_replay_run.proofs.Whole.{all-of-it, each-within, one-each, one-window}

first-works : (times : List ℕ) → BeginsWithWork times → HaveSomeWork times
first-works [] works = absurd works
first-works (n ∷ times) works = inl works

taken : (times : List ℕ) (n : ℕ) → take n (timed_jobs times) ≡ timed_jobs (take n times)
taken times zero = refl
taken [] (suc n) = refl
taken (t ∷ times) (suc n) = ap (λ (jobs : List (List Step)). timed t ∷ jobs) (taken times n)

-- the steps of some of the jobs
taken-steps : (times : List ℕ) (n : ℕ) → profile_steps (take n (timed_jobs times)) ≡ steps_of_jobs (take n times)
taken-steps times n = ap profile_steps (taken times n) ∙ same-profile (take n times)

-- where the first job has work, a job stands at its one place
at-place : (times : List ℕ) (k : ℕ) (x : Context) → BeginsWithWork times → ReadyAt (timed_jobs times) k x → StandsAt (job_place times k) x
at-place times zero x works ready = ready
at-place [] (suc k) x works ready = absurd works
at-place (zero ∷ times) (suc k) x works ready = absurd (omega arith)
at-place (suc n ∷ times) (suc k) x works ready =
    elim ready [
      | inl first ↦
          let same : suc (k % length (timed_jobs (suc n ∷ times))) ≡ suc (k % length (suc n ∷ times)) = ap (λ m. suc (k % m)) (as-long (suc n ∷ times)) in
          subst (λ (l : List Step). StandsAt (sum_by step_size l) x)
          (ap (λ i. profile_steps (take i (timed_jobs (suc n ∷ times)))) same ∙ taken-steps (suc n ∷ times) (suc (k % length (suc n ∷ times)))) first
      | inr second ↦ absurd second.1
    ]

module _ (c : Configuration) (p : ℕ) (times : List ℕ) (limits : IsWithinLimits c) (checked : IsChecked c) (accepted : IsAccepted c)
    (known : p < length c.processes) (works : BeginsWithWork times) (room : HaveRoom c p times) where
  abbrev jobs : List (List Step)
  jobs = timed_jobs times

  some : HaveSomeWork times
  some = first-works times works

  within : (k : ℕ) → job_ticks c (job_in_turn jobs k) ≤ body c p
  within k = each-within c p jobs (some-work times some) (timed-within c p times room) k

  nth : (k : ℕ) → first_window c p jobs k + 0 ≡ k
  nth k = one-each c p jobs k checked known within

  pub ready : (k : ℕ) → StandsReady c p (job_place times k) (alone c p (program_of (steps_of_jobs times)) (window_tick c p k))
  ready k =
      let now = start-of c p jobs limits checked accepted known (some-work times some) (timed-fit c p times limits room) k in
      let tick : ℕ = first_window c p jobs k * period c (main_level c p) in
      let code : List ℕ = program_of (profile_steps jobs) in
      let there : StandsReady c p (job_place times k) (alone c p code tick) = record {
        stands = subst (λ (x : Context). StandsAt (job_place times k) x) (sym now.1.1.context) (at-place times k now.1.0 works now.1.2);
        goes = stopped-is c p (alone c p code tick).past ∙ ap (λ o. o.ended) now.1.1.own;
      } in
      let none : first_window c p jobs k ≡ first_window c p jobs k + 0 = omega arith in
      subst (λ (l : List Step). StandsReady c p (job_place times k) (alone c p (program_of l) (window_tick c p k))) (same-profile times)
      (subst (λ n. StandsReady c p (job_place times k) (alone c p code (n * period c (main_level c p)))) (none ∙ nth k) there)

  pub entries : (k : ℕ) → entries_of p (take (period c (main_level c p)) (alone c p (program_of (steps_of_jobs times)) (window_tick c p k + period c (main_level c p))).past)
      ≡ job_window c p (job_time times k)
  entries k =
      let span : ℕ = period c (main_level c p) in
      ap (λ (l : List Step). entries_of p (take span (alone c p (program_of l) (k * span + span)).past)) (sym (same-profile times))
      ∙ ap (λ n. entries_of p (take span (alone c p (program_of (profile_steps jobs)) (n * span + span)).past)) (sym (nth k))
      ∙ window-entries c p jobs limits checked accepted known (some-work times some) (timed-fit c p times limits room) k 0 (one-window c p (job_in_turn jobs k))
      ∙ ap (λ es. reverse (whole_window c p es)) (all-of-it c p (job_in_turn jobs k) limits.some_call (within k))
      ∙ ap (λ (job : List Step). reverse (whole_window c p (job_entries c p job))) (timed-turn times k)
      ∙ same-window c p (job_time times k)
