-- Jobs by their ticks of work as jobs of steps.
use Rattle.dk_alone.proofs.Names.{ℕ, zero, suc, ◌≡◌, ◌+◌, ◌*◌, ◌-◌, ◌%◌, inl, inr, Bool, true, false, ◌||◌, List, [], ◌∷◌, ◌++◌, length, map, refl, sym, ap, ◌∙◌, arith, replicate, reverse, slice_index_or, Configuration, Label, Event, Entry, main_id, quiet_entry}
use Rattle.std.proofs.Common.{append-nil}
use Rattle.std.specs.List.{list_any}
use Rattle.std.proofs.lemmas.List.Sums.{sum_by-cons}
use Rattle.dk_config.specs.Checked.{IsWithinLimits}
use Rattle.dk_profile.specs.declared.steps.Step.{Step}
use Rattle.dk_profile.specs.declared.steps.Step.TheVariants as kind
use Rattle.dk_profile.specs.Steps.{is_work, step_ticks}
use Rattle.dk_replay_run.specs.Jobs.{HaveRoom, HaveSomeWork, job_time, job_window, steps_of_jobs}
use Rattle.dk_replay_run.specs.Laws.{AreWithinBody}
use Rattle.dk_replay_run.specs.Profiles.{JobsFit, call_entries, job_entries, job_in_turn, job_ticks, profile_steps, whole_window, work_entries}
use Rattle.dk_replay_run.proofs.Doing.{onto}
use Rattle.dk_replay_run.proofs.Moves.{last_tick}
use Rattle.dk_replay_run.proofs.Parts.{onto-both, onto-is, onto-same, window-onto}

-- what a job does in front of its wait
abbrev pub timed : ℕ → List Step
timed zero = []
timed (suc n) = kind.Work (suc n) ∷ []

abbrev pub timed_jobs : List ℕ → List (List Step)
timed_jobs times = map timed times

pub same-profile : (times : List ℕ) → profile_steps (timed_jobs times) ≡ steps_of_jobs times
same-profile [] = refl
same-profile (zero ∷ times) = ap (λ (l : List Step). kind.Wait ∷ l) (same-profile times)
same-profile (suc n ∷ times) = ap (λ (l : List Step). kind.Work (suc n) ∷ kind.Wait ∷ l) (same-profile times)

or-true : (b : Bool) → (b || true) ≡ true
or-true true = refl
or-true false = refl

pub some-work : (times : List ℕ) → HaveSomeWork times → list_any is_work (profile_steps (timed_jobs times)) ≡ true
some-work [] works = absurd works
some-work (zero ∷ times) works =
    elim works [
      | inl here ↦ absurd (omega (arith, here))
      | inr later ↦ some-work times later
    ]
some-work (suc n ∷ times) works = refl

pub timed-fit : (c : Configuration) (p : ℕ) (times : List ℕ) → IsWithinLimits c → HaveRoom c p times → JobsFit c p (timed_jobs times)
timed-fit c p [] limits room = tt
timed-fit c p (zero ∷ times) limits room = (tt, timed-fit c p times limits room.1)
timed-fit c p (suc n ∷ times) limits room =
    let much = room.0 in
    let least = limits.budgets p in
    ((omega arith, omega (arith, much, least), tt), timed-fit c p times limits room.1)

pub timed-within : (c : Configuration) (p : ℕ) (times : List ℕ) → HaveRoom c p times → AreWithinBody c p (timed_jobs times)
timed-within c p [] room = tt
timed-within c p (zero ∷ times) room = let much = room.0 in (omega (arith, much), timed-within c p times room.1)
timed-within c p (suc n ∷ times) room = let much = room.0 in (omega (arith, much), timed-within c p times room.1)

at-place : (times : List ℕ) (i : ℕ) → slice_index_or (timed_jobs times) i [] ≡ timed (slice_index_or times i 0)
at-place [] i = refl
at-place (n ∷ times) zero = refl
at-place (n ∷ times) (suc i) = at-place times i

pub as-long : (times : List ℕ) → length (timed_jobs times) ≡ length times
as-long [] = refl
as-long (n ∷ times) = ap suc (as-long times)

pub timed-turn : (times : List ℕ) (k : ℕ) → job_in_turn (timed_jobs times) k ≡ timed (job_time times k)
timed-turn times k = ap (λ n. slice_index_or (timed_jobs times) (k % n) []) (as-long times) ∙ at-place times (k % length times)

-- the ticks of a job are its work and its wait
timed-entries : (c : Configuration) (p n : ℕ) → job_entries c p (timed n) ≡ work_entries p n ++ call_entries c.costs.call p Event.Wait
timed-entries c p zero = append-nil (call_entries c.costs.call p Event.Wait)
timed-entries c p (suc n) = ap (λ (t : List Entry). work_entries p (suc n) ++ t) (append-nil (call_entries c.costs.call p Event.Wait))

-- so its window is the same
pub same-window : (c : Configuration) (p n : ℕ) → reverse (whole_window c p (job_entries c p (timed n))) ≡ job_window c p n
same-window c p n =
    let K : ℕ = c.costs.call in
    let run : Entry = quiet_entry (Label.Run (main_id p)) in
    let call : Entry = quiet_entry (Label.Call (main_id p)) in
    let I : List Entry = replicate c.costs.switch (quiet_entry (Label.In (main_id p))) in
    let O : List Entry = replicate c.costs.switch (quiet_entry (Label.Out (main_id p))) in
    let last : Entry = last_tick p Event.Wait in
    let window : List Entry = whole_window c p (job_entries c p (timed n)) in
    let calls : onto (call_entries K p Event.Wait) (replicate n run ++ I) ≡ last ∷ (replicate (K - 1) call ++ (replicate n run ++ I)) =
    onto-both (replicate (K - 1) call) (last ∷ []) (replicate n run ++ I) ∙ ap (λ (t : List Entry). last ∷ t) (onto-same call (K - 1) (replicate n run ++ I)) in
    let works : onto (work_entries p n ++ call_entries K p Event.Wait) (I ++ []) ≡ last ∷ (replicate (K - 1) call ++ (replicate n run ++ I)) =
    ap (λ (t : List Entry). onto (work_entries p n ++ call_entries K p Event.Wait) t) (append-nil I)
    ∙ onto-both (work_entries p n) (call_entries K p Event.Wait) I
    ∙ ap (λ (t : List Entry). onto (call_entries K p Event.Wait) t) (onto-same run n I)
    ∙ calls in
    sym (onto-is window [] ∙ append-nil (reverse window))
    ∙ window-onto c p (job_entries c p (timed n)) []
    ∙ ap (λ (t : List Entry). O ++ onto t (I ++ [])) (timed-entries c p n)
    ∙ ap (λ (t : List Entry). O ++ t) works

ticks-of : (c : Configuration) (n : ℕ) → job_ticks c (timed n) ≡ n + c.costs.call
ticks-of c zero = omega (arith, sum_by-cons (step_ticks c.costs.call) kind.Wait [])
ticks-of c (suc n) =
    omega (arith, sum_by-cons (step_ticks c.costs.call) (kind.Work (suc n)) (kind.Wait ∷ []), sum_by-cons (step_ticks c.costs.call) kind.Wait [])

pub timed-ticks : (c : Configuration) (times : List ℕ) (k : ℕ)
    → job_ticks c (job_in_turn (timed_jobs times) k) + 2 * c.costs.switch ≡ job_time times k + c.costs.call + 2 * c.costs.switch
timed-ticks c times k = ap (λ n. n + 2 * c.costs.switch) (ap (job_ticks c) (timed-turn times k) ∙ ticks-of c (job_time times k))
