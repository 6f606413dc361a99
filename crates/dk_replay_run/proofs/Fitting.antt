-- A job that fits can be done tick by tick.
use Rattle.std.proofs.Common.{◌≡◌, refl, ap, sym, subst, ◌<◌, ◌≤◌, ◌+◌, ◌-◌, ℕ, zero, suc, List, [], ◌∷◌, ◌++◌, length, append_assoc, append-nil, arith, Option, Some, None}
use Rattle.std.specs.Prelude.{flat_map, replicate, slice_index_or}
use Rattle.dk_config.specs.Configuration.{Configuration}
use Rattle.dk_config.specs.Windows.{longest_hold}
use Rattle.dk_trace.specs.declared.Label.{Label}
use Rattle.dk_trace.specs.declared.Event.{Event}
use Rattle.dk_trace.specs.declared.Entry.{Entry}
use Rattle.dk_trace.specs.Entries.{quiet}
use Rattle.dk_trace.proofs.Mains.{main_id}
use Rattle.dk_profile.specs.declared.jobs.HeldMutex.{HeldMutex}
use Rattle.dk_profile.specs.declared.steps.Step.{Step}
use Rattle.dk_profile.specs.declared.steps.Step.TheVariants as kind
use Rattle.dk_replay_run.specs.Profiles.{FitsFrom, JobsFit, call_entries, step_entries, whole_job, work_entries}
use Rattle.dk_replay_run.proofs.Moves.{last_tick}
use Rattle.dk_replay_run.proofs.Doing.{Goes, Granted, Stays, held_next}
use Rattle.dk_replay_run.proofs.Laps.{ArePlain}

-- what is held with so many ticks of the job may be held for one more
abbrev Lasts : Configuration → ℕ → Option HeldMutex → Type 0
Lasts c used None = Unit {0}
Lasts c used (Some h) = used < h.since + longest_hold c h.mutex

lasts-before : (c : Configuration) (u used : ℕ) (held : Option HeldMutex) → u ≤ used → Lasts c used held → Lasts c u held
lasts-before c u used None low lasts = tt
lasts-before c u used (Some h) low lasts = omega (arith, low, lasts)

stays-there : (c : Configuration) (u used : ℕ) (held : Option HeldMutex) → suc u ≤ used → Lasts c used held → Stays c u held
stays-there c u used None low lasts = tt
stays-there c u used (Some h) low lasts = omega (arith, low, lasts)

-- until it is given back
long-enough : (c : Configuration) (p used : ℕ) (held : Option HeldMutex) (steps : List Step) → FitsFrom c p used held steps → Lasts c used held
long-enough c p used None steps fits = tt
long-enough c p used (Some h) [] fits = absurd fits
long-enough c p used (Some h) (kind.Work n ∷ steps) fits =
    lasts-before c used (used + n) (Some h) (omega arith) (long-enough c p (used + n) (Some h) steps fits.2)
long-enough c p used (Some h) (kind.Lock n ∷ steps) fits = absurd fits.0
long-enough c p used (Some h) (kind.Unlock n ∷ steps) fits =
    let same : longest_hold c h.mutex ≡ longest_hold c n = ap (longest_hold c) fits.0.0 in
    let much = fits.0.1 in
    omega (arith, same, much)
long-enough c p used (Some h) (kind.Slack n ∷ steps) fits = absurd fits
long-enough c p used (Some h) (kind.Put n ∷ steps) fits =
    lasts-before c used (used + (1 + c.costs.call)) (Some h) (omega arith) (long-enough c p (used + (1 + c.costs.call)) (Some h) steps fits)
long-enough c p used (Some h) (kind.Wait ∷ steps) fits = absurd fits

module _ (c : Configuration) (p : ℕ) (cost : 0 < c.costs.call) where
  abbrev K : ℕ
  K = c.costs.call

  -- ticks that tell nothing
  quiet-go : (label : Label) (n used last : ℕ) (held : Option HeldMutex) (es : List Entry) → last ≡ used + n → Lasts c last held → Goes c p last held es
      → Goes c p used held (replicate n (quiet label) ++ es)
  quiet-go label zero used last held es is lasts goes = let same : last ≡ used = omega (arith, is) in subst (λ u. Goes c p u held es) same goes
  quiet-go label (suc n) used last held es is lasts goes =
      (stays-there c used last held (omega (arith, is)) lasts, quiet-go label n (suc used) last held es (omega (arith, is)) lasts goes)

  -- a call that is granted in its last tick
  call-goes : (used last : ℕ) (held : Option HeldMutex) (event : Event) (es : List Entry) → last ≡ used + (K - 1) → Lasts c last held
      → Granted c p last held (Some event) → Goes c p (suc last) (held_next last held (Some event)) es → Goes c p used held (call_entries K p event ++ es)
  call-goes used last held event es is lasts granted goes =
      subst (λ (t : List Entry). Goes c p used held t) (sym (append_assoc (replicate (K - 1) (quiet (Label.Call (main_id p)))) (last_tick p event ∷ []) es))
      (quiet-go (Label.Call (main_id p)) (K - 1) used last held (last_tick p event ∷ es) is lasts (granted, goes))

  load-goes : (used : ℕ) (held : Option HeldMutex) (event : Event) (es : List Entry) → Lasts c (used + K) held
      → Granted c p (used + K) held (Some event) → Goes c p (suc (used + K)) (held_next (used + K) held (Some event)) es
      → Goes c p used held ((work_entries p 1 ++ call_entries K p event) ++ es)
  load-goes used held event es lasts granted goes =
      (stays-there c used (used + K) held (omega (arith, cost)) lasts, call-goes (suc used) (used + K) held event es (omega (arith, cost)) lasts granted goes)

  -- the ticks of a job but the last of its wait
  abbrev pub up_to_wait : List Step → List Entry
  up_to_wait job = flat_map (step_entries K p) job ++ replicate (K - 1) (quiet (Label.Call (main_id p)))

  again : (s : Step) (steps : List Step) (used : ℕ) (held : Option HeldMutex) → Goes c p used held (step_entries K p s ++ up_to_wait steps) → Goes c p used held (up_to_wait (s ∷ steps))
  again s steps used held goes =
      subst (λ (t : List Entry). Goes c p used held t)
      (sym (append_assoc (step_entries K p s) (flat_map (step_entries K p) steps) (replicate (K - 1) (quiet (Label.Call (main_id p)))))) goes

  pub steps-go : (steps : List Step) (used : ℕ) (held : Option HeldMutex) → FitsFrom c p used held steps → Goes c p used held (up_to_wait steps)
  steps-go [] used None fits =
      subst (λ (t : List Entry). Goes c p used None t) (append-nil (replicate (K - 1) (quiet (Label.Call (main_id p)))))
      (quiet-go (Label.Call (main_id p)) (K - 1) used (used + (K - 1)) None [] refl tt tt)
  steps-go [] used (Some h) fits = absurd fits
  steps-go (kind.Work n ∷ steps) used held fits =
      let rest = steps-go steps (used + n) held fits.2 in
      again (kind.Work n) steps used held (quiet-go (Label.Run (main_id p)) n used (used + n) held (up_to_wait steps) refl (long-enough c p (used + n) held steps fits.2) rest)
  steps-go (kind.Lock n ∷ steps) used None fits =
      let later : ℕ = used + (1 + K) in
      let same : later ≡ suc (used + K) = omega arith in
      let much = fits.2 in
      let rest = subst (λ u. Goes c p u (Some (let h : HeldMutex = record { mutex = n; since = u } in h)) (up_to_wait steps)) same
      (steps-go steps later (Some (record { mutex = n; since = later })) fits.3) in
      again (kind.Lock n) steps used None (load-goes used None _ (up_to_wait steps) tt (tt, fits.1, omega (arith, much)) rest)
  steps-go (kind.Lock n ∷ steps) used (Some h) fits = absurd fits.0
  steps-go (kind.Unlock n ∷ steps) used None fits = absurd fits.0
  steps-go (kind.Unlock n ∷ steps) used (Some h) fits =
      let later : ℕ = used + (1 + K) in
      let same : later ≡ suc (used + K) = omega arith in
      let mine : longest_hold c h.mutex ≡ longest_hold c n = ap (longest_hold c) fits.0.0 in
      let much = fits.0.1 in
      let rest = subst (λ u. Goes c p u None (up_to_wait steps)) same (steps-go steps later None fits.1) in
      again (kind.Unlock n) steps used (Some h) (load-goes used (Some h) _ (up_to_wait steps) (omega (arith, mine, much)) fits.0.0 rest)
  steps-go (kind.Slack n ∷ steps) used held fits = absurd fits
  steps-go (kind.Put n ∷ steps) used held fits =
      let later : ℕ = used + (1 + K) in
      let same : later ≡ suc (used + K) = omega arith in
      let lasts : Lasts c later held = long-enough c p later held steps fits in
      let rest = subst (λ u. Goes c p u held (up_to_wait steps)) same (steps-go steps later held fits) in
      again (kind.Put n) steps used held (load-goes used held _ (up_to_wait steps) (lasts-before c (used + K) later held (omega arith) lasts) (stays-there c (used + K) later held (omega arith) lasts) rest)
  steps-go (kind.Wait ∷ steps) used held fits = absurd fits

-- the steps of a job that fits are plain
plain-wait : (c : Configuration) (p used : ℕ) (held : Option HeldMutex) (job : List Step) → FitsFrom c p used held job → ArePlain (whole_job job)
plain-wait c p used held [] fits = (tt, tt)
plain-wait c p used held (kind.Work n ∷ job) fits = ((fits.0, fits.1), plain-wait c p (used + n) held job fits.2)
plain-wait c p used held (kind.Lock n ∷ job) fits =
    (tt, plain-wait c p (used + (1 + c.costs.call)) (Some (record { mutex = n; since = used + (1 + c.costs.call) })) job fits.3)
plain-wait c p used held (kind.Unlock n ∷ job) fits = (tt, plain-wait c p (used + (1 + c.costs.call)) None job fits.1)
plain-wait c p used held (kind.Slack n ∷ job) fits = absurd fits
plain-wait c p used held (kind.Put n ∷ job) fits = (tt, plain-wait c p (used + (1 + c.costs.call)) held job fits)
plain-wait c p used held (kind.Wait ∷ job) fits = absurd fits

pub plain-job : (c : Configuration) (p : ℕ) (job : List Step) → FitsFrom c p 0 None job → ArePlain (whole_job job)
plain-job c p job fits = plain-wait c p 0 None job fits

pub fits-at : (c : Configuration) (p : ℕ) (jobs : List (List Step)) (i : ℕ) → i < length jobs → JobsFit c p jobs → FitsFrom c p 0 None (slice_index_or jobs i [])
fits-at c p [] i within fits = absurd (omega arith)
fits-at c p (job ∷ jobs) zero within fits = fits.0
fits-at c p (job ∷ jobs) (suc i) within fits = fits-at c p jobs i (omega arith) fits.1
