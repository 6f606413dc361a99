-- A profile with which nothing is wrong consists of jobs that fit.
use Rattle.std.proofs.Common.{◌≡◌, ◌∙◌, refl, ap, sym, subst, inl, inr, ◌<◌, ◌≤◌, ◌+◌, ◌-◌, ◌^◌, ℕ, Bool, true, false, List, [], ◌∷◌, ◌++◌, min, arith, Option, Some, None}
use Rattle.std.specs.Prelude.{◌==◌, nat_le, nat_lt, if◌then◌else◌, option_to_list}
use Rattle.std.specs.List.{list_any}
use Rattle.std.specs.Option.{option_map}
use Rattle.std.proofs.Math.Nat.{min-eq_left, min-eq_right}
use Rattle.std.proofs.lemmas.Bool.{cases_Bool}
use Rattle.std.proofs.lemmas.Bool.Decides.{nat_tests}
use Rattle.dk_config.specs.Configuration.{Configuration}
use Rattle.dk_config.specs.Certification.{is_user}
use Rattle.dk_config.specs.Checked.{IsChecked, IsWithinLimits}
use Rattle.dk_config.specs.Windows.{longest_hold, may_ask}
use Rattle.dk_profile.specs.declared.TheConstants.{MAX_INSTRUCTIONS}
use Rattle.dk_profile.specs.declared.jobs.HeldMutex.{HeldMutex}
use Rattle.dk_profile.specs.declared.jobs.JobState.{JobState}
use Rattle.dk_profile.specs.declared.steps.Step.{Step}
use Rattle.dk_profile.specs.declared.steps.Step.TheVariants as kind
use Rattle.dk_profile.specs.declared.steps.Why.{Why}
use Rattle.dk_profile.specs.declared.steps.Reading.{Reading}
use Rattle.dk_profile.specs.declared.steps.Reading.TheVariants as reading
use Rattle.dk_profile.specs.declared.steps.Placed.{Placed}
use Rattle.dk_profile.specs.declared.steps.ProfileFault.{ProfileFault}
use Rattle.dk_profile.specs.Faults.{after_reading, after_step, body, end_why, fault_at, faults_of, first_state, held_after, line_faults, lock_why, or_whole, reading_why, step_why, unlock_why, used_after, wait_why, whole_why}
use Rattle.dk_profile.specs.Steps.{is_work, program_size, step_ticks, steps_of}
use Rattle.dk_replay_run.specs.Profiles.{FitsFrom, IsFree, JobsFit, before_first, jobs_in, profile_steps}

-- what a line or a cell can say: work of some ticks, and a lock of a mutex that the process may use
abbrev pub IsSaid : Configuration → ℕ → Step → Type 0
IsSaid c p (Step.Work n) = (0 < n) × (n < 2 ^ 32)
IsSaid c p (Step.Lock m) = is_user c m p ≡ true
IsSaid c p _ = Unit {0}

abbrev pub AreSaid : Configuration → ℕ → List Step → Type 0
AreSaid c p [] = Unit {0}
AreSaid c p (step ∷ steps) = IsSaid c p step × AreSaid c p steps

-- a count that stops at a number
capped : (k u n : ℕ) → min (min u k + n) k ≡ min (u + n) k
capped k u n =
    elim (cases_Bool (nat_le u k)) [
      | inl is ↦ let low : u ≤ k = grind (arith, nat_tests) in ap (λ x. min (x + n) k) (min-eq_left low)
      | inr not ↦
          let high : k ≤ u = grind (arith, nat_tests) in
          let more : k ≤ k + n = omega arith in
          let most : k ≤ u + n = omega (arith, high) in
          ap (λ x. min (x + n) k) (min-eq_right high) ∙ min-eq_right more ∙ sym (min-eq_right most)
    ]

-- counts right up to there
uncapped : (k u : ℕ) → min u k < k → min u k ≡ u
uncapped k u less =
    elim (cases_Bool (nat_le u k)) [
      | inl is ↦ let low : u ≤ k = grind (arith, nat_tests) in min-eq_left low
      | inr not ↦
          let high : k ≤ u = grind (arith, nat_tests) in
          let same : min u k ≡ k = min-eq_right high in
          absurd (omega (arith, less, same))
    ]

-- the mutex was taken within the first 1,000,000 ticks of the job
abbrev IsEarly : Option HeldMutex → Type 0
IsEarly None = Unit {0}
IsEarly (Some h) = h.since ≤ 1000000

-- what the state of a job in front of a line counts
record Counts (s : JobState) (used : ℕ) (held : Option HeldMutex) : Type 0 where
  pub count : s.used ≡ min used 4000000
  pub mutex : s.held ≡ held
  pub early : IsEarly held
  pub fresh : s.begun ≡ false → (used ≡ 0) × (held ≡ None)

-- what is left of the steps goes on with a job, and then has whole ones
abbrev Tail : Configuration → ℕ → Bool → ℕ → Option HeldMutex → List (List Step) → Type 0
Tail c p begun used held [] = begun ≡ false
Tail c p begun used held (job ∷ jobs) = FitsFrom c p used held job × JobsFit c p jobs

-- and these are all of them
abbrev Splits : Configuration → ℕ → Bool → ℕ → Option HeldMutex → List Step → Type 0
Splits c p begun used held steps = Tail c p begun used held (jobs_in steps) × (profile_steps (jobs_in steps) ≡ steps)

whole-jobs : (c : Configuration) (p : ℕ) (jobs : List (List Step)) → Tail c p false 0 None jobs → JobsFit c p jobs
whole-jobs c p [] tail = tt
whole-jobs c p (job ∷ jobs) tail = (tail.0, tail.1)

in-front : (c : Configuration) (p used later : ℕ) (held left : Option HeldMutex) (begun : Bool) (step : Step) (jobs : List (List Step)) → Tail c p true later left jobs
    → ((job : List Step) → FitsFrom c p later left job → FitsFrom c p used held (step ∷ job)) → Tail c p begun used held (before_first step jobs)
in-front c p used later held left begun step [] tail fits = absurd (cc)
in-front c p used later held left begun step (job ∷ jobs) tail fits = (fits job tail.0, tail.1)

same-steps : (c : Configuration) (p later : ℕ) (left : Option HeldMutex) (step : Step) (jobs : List (List Step)) (steps : List Step) → Tail c p true later left jobs
    → profile_steps jobs ≡ steps → profile_steps (before_first step jobs) ≡ step ∷ steps
same-steps c p later left step [] steps tail is = absurd (cc)
same-steps c p later left step (job ∷ jobs) steps tail is = ap (λ (l : List Step). step ∷ l) is

no-fault : (line : ℕ) (why : Option Why) (rest : List ProfileFault) → option_to_list (option_map (fault_at line) why) ++ rest ≡ [] → (why ≡ None) × (rest ≡ [])
no-fault line None rest is = (refl, is)
no-fault line (Some why) rest is = absurd (cc)

no-end : (line : ℕ) (why : Option Why) → option_to_list (option_map (fault_at line) why) ≡ [] → why ≡ None
no-end line None is = refl
no-end line (Some why) is = absurd (cc)

-- a reason that isn't there
unless : (b : Bool) (why : Why) → (if b then Some why else None) ≡ None → b ≡ false
unless true why is = absurd (cc)
unless false why is = refl

only-if : (b : Bool) (why : Why) → (if b then None else Some why) ≡ None → b ≡ true
only-if true why is = refl
only-if false why is = absurd (cc)

has-work : (b many : Bool) (why : Why) → (if b then (if many then Some why else None) else Some Why.NoWork) ≡ None → b ≡ true
has-work true many why is = refl
has-work false many why is = absurd (cc)

can-lock : (left hold : ℕ) (held : Option HeldMutex) → lock_why left hold held ≡ None → (held ≡ None) × (hold ≤ left)
can-lock left hold None is = let test = unless (nat_lt left hold) (Why.Little left hold) is in (refl, grind (arith, nat_tests))
can-lock left hold (Some h) is = absurd (cc)

can-unlock : (used hold m : ℕ) (h : HeldMutex) → unlock_why used hold m (Some h) ≡ None → (h.mutex ≡ m) × (used - h.since ≤ hold)
can-unlock used hold m h is =
    elim (cases_Bool (h.mutex == m)) [
      | inl mine ↦
          let inner : (if nat_lt hold (used - h.since) then Some (Why.Long (used - h.since) hold) else None) ≡ None =
          sym (ap (λ b. if b then (if nat_lt hold (used - h.since) then Some (Why.Long (used - h.since) hold) else None) else Some Why.NotHeld) mine) ∙ is in
          let test = unless (nat_lt hold (used - h.since)) (Why.Long (used - h.since) hold) inner in
          (grind (arith, nat_tests), grind (arith, nat_tests))
      | inr other ↦
          let none : Some Why.NotHeld ≡ None =
          sym (ap (λ b. if b then (if nat_lt hold (used - h.since) then Some (Why.Long (used - h.since) hold) else None) else Some Why.NotHeld) other) ∙ is in
          absurd (cc)
    ]

can-wait : (held : Option HeldMutex) → wait_why held ≡ None → held ≡ None
can-wait None is = refl
can-wait (Some h) is = absurd (cc)

held-work : (used n : ℕ) (held : Option HeldMutex) → held_after used held (kind.Work n) ≡ held
held-work used n None = refl
held-work used n (Some h) = refl

held-put : (used n : ℕ) (held : Option HeldMutex) → held_after used held (kind.Put n) ≡ held
held-put used n None = refl
held-put used n (Some h) = refl

held-unlock : (used m : ℕ) (h : HeldMutex) → h.mutex ≡ m → held_after used (Some h) (kind.Unlock m) ≡ None
held-unlock used m h is =
    let test : (h.mutex == m) ≡ true = grind (arith, nat_tests) in
    ap (λ b. if b then None else Some h) test

true-false : true ≡ false → ⊥
true-false e = absurd (cc)

module _ (c : Configuration) (p : ℕ) (limits : IsWithinLimits c) (checked : IsChecked c) (right : may_ask c p ≡ false) where
  abbrev K : ℕ
  K = c.costs.call

  -- the count behind a step
  counted : (s : JobState) (step : Step) (used : ℕ) → s.used ≡ min used 4000000 → used_after c s step ≡ min (used + step_ticks K step) 4000000
  counted s step used is = ap (λ x. min (x + step_ticks K step) 4000000) is ∙ capped 4000000 used (step_ticks K step)

  from-start : Counts first_state 0 None
  from-start = record { count = refl; mutex = refl; early = tt; fresh = λ e. (refl, refl) }

  -- a step, and what comes behind it
  say-step : (step : Step) (steps : List Step) (s : JobState) (used : ℕ) (held : Option HeldMutex) → Counts s used held → step_why c p s step ≡ None
      → IsSaid c p step → (rest : (used : ℕ) (held : Option HeldMutex) → Counts (after_step c s step) used held → Splits c p (after_step c s step).begun used held steps)
      → Splits c p s.begun used held (step ∷ steps)
  say-step (kind.Work n) steps s used held counts why said rest =
      let next : Counts (after_step c s (kind.Work n)) (used + n) held = record {
        count = counted s (kind.Work n) used counts.count;
        mutex = held-work (used_after c s (kind.Work n)) n s.held ∙ counts.mutex;
        early = counts.early;
        fresh = λ e. absurd (true-false e);
      } in
      let behind = rest (used + n) held next in (
        in-front c p used (used + n) held held s.begun (kind.Work n) (jobs_in steps) behind.0 (λ job fits. (said.0, said.1, fits)),
        same-steps c p (used + n) held (kind.Work n) (jobs_in steps) steps behind.0 behind.1,
      )
  say-step (kind.Put n) steps s used held counts why said rest =
      let later : ℕ = used + (1 + K) in
      let next : Counts (after_step c s (kind.Put n)) later held = record {
        count = counted s (kind.Put n) used counts.count;
        mutex = held-put (used_after c s (kind.Put n)) n s.held ∙ counts.mutex;
        early = counts.early;
        fresh = λ e. absurd (true-false e);
      } in
      let behind = rest later held next in (
        in-front c p used later held held s.begun (kind.Put n) (jobs_in steps) behind.0 (λ job fits. fits),
        same-steps c p later held (kind.Put n) (jobs_in steps) steps behind.0 behind.1,
      )
  say-step (kind.Lock m) steps s used held counts why said rest =
      let later : ℕ = used + (1 + K) in
      let x : ℕ = used_after c s (kind.Lock m) in
      let hold : ℕ = longest_hold c m in
      let can = can-lock (body c p - x) hold s.held why in
      let much : hold ≤ body c p - x = can.1 in
      let some : 0 < hold = checked.holds m p said in
      let most = limits.budgets p in
      let is : x ≡ min later 4000000 = counted s (kind.Lock m) used counts.count in
      let less : min later 4000000 < 4000000 = omega (arith, is, much, some, most) in
      let exact : x ≡ later = is ∙ uncapped 4000000 later less in
      let fits-there : later + hold ≤ body c p = omega (arith, exact, much, some) in
      let free : held ≡ None = sym counts.mutex ∙ can.0 in
      let taken : Option HeldMutex = Some (record { mutex = m; since = later }) in
      let next : Counts (after_step c s (kind.Lock m)) later taken = record {
        count = is;
        mutex =
            ap (λ (h : Option HeldMutex). held_after x h (kind.Lock m)) can.0
            ∙ ap (λ n. Some (let h : HeldMutex = record { mutex = m; since = n } in h)) exact;
        early = omega (arith, fits-there, most);
        fresh = λ e. absurd (true-false e);
      } in
      let behind = rest later taken next in (
        in-front c p used later held taken s.begun (kind.Lock m) (jobs_in steps) behind.0
            (λ job fits. (subst (λ (h : Option HeldMutex). IsFree h) (sym free) tt, said, fits-there, fits)),
        same-steps c p later taken (kind.Lock m) (jobs_in steps) steps behind.0 behind.1,
      )
  say-step (kind.Unlock m) steps s used None counts why said rest =
      let none : Some Why.NotHeld ≡ None =
      sym (ap (λ (h : Option HeldMutex). unlock_why (used_after c s (kind.Unlock m)) (longest_hold c m) m h) counts.mutex) ∙ why in
      absurd (cc)
  say-step (kind.Unlock m) steps s used (Some h) counts why said rest =
      let later : ℕ = used + (1 + K) in
      let x : ℕ = used_after c s (kind.Unlock m) in
      let hold : ℕ = longest_hold c m in
      let can = can-unlock x hold m h (sym (ap (λ (k : Option HeldMutex). unlock_why x hold m k) counts.mutex) ∙ why) in
      let is : x ≡ min later 4000000 = counted s (kind.Unlock m) used counts.count in
      let low = counts.early in
      let short = can.1 in
      let most = limits.holds m in
      let less : min later 4000000 < 4000000 = omega (arith, is, low, short, most) in
      let exact : x ≡ later = is ∙ uncapped 4000000 later less in
      let in-time : later ≤ h.since + hold = omega (arith, exact, short) in
      let next : Counts (after_step c s (kind.Unlock m)) later None = record {
        count = is;
        mutex = ap (λ (k : Option HeldMutex). held_after x k (kind.Unlock m)) counts.mutex ∙ held-unlock x m h can.0;
        early = tt;
        fresh = λ e. absurd (true-false e);
      } in
      let behind = rest later None next in (
        in-front c p used later (Some h) None s.begun (kind.Unlock m) (jobs_in steps) behind.0 (λ job fits. ((can.0, in-time), fits)),
        same-steps c p later None (kind.Unlock m) (jobs_in steps) steps behind.0 behind.1,
      )
  say-step (kind.Slack n) steps s used held counts why said rest =
      let may = only-if (may_ask c p) Why.NoRight why in
      absurd (cc)
  say-step kind.Wait steps s used held counts why said rest =
      let free : held ≡ None = sym counts.mutex ∙ can-wait s.held why in
      let behind = rest 0 None from-start in
      ((subst (λ (h : Option HeldMutex). IsFree h) (sym free) tt, whole-jobs c p (jobs_in steps) behind.0), ap (λ (l : List Step). kind.Wait ∷ l) behind.1)

  -- what a line says, and what comes behind it
  say : (line : ℕ) (g : Reading) (readings : List Placed) (s : JobState) (used : ℕ) (held : Option HeldMutex) → Counts s used held → reading_why c p s g ≡ None
      → AreSaid c p (steps_of ((let r : Placed = record { line = line; reading = g } in r) ∷ readings))
      → ((used : ℕ) (held : Option HeldMutex) → Counts (after_reading c s g) used held → AreSaid c p (steps_of readings) → Splits c p (after_reading c s g).begun used held (steps_of readings))
      → Splits c p s.begun used held (steps_of ((let r : Placed = record { line = line; reading = g } in r) ∷ readings))
  say line reading.Nothing readings s used held counts why said rest = rest used held counts said
  say line reading.Job readings s used held counts why said rest =
      let unbegun : s.begun ≡ false = unless s.begun Why.Midst why in
      let fresh = counts.fresh unbegun in
      let behind = rest 0 None from-start said in
      subst (λ b. Splits c p b used held (steps_of readings)) (sym unbegun)
      (subst (λ n. Splits c p false n held (steps_of readings)) (sym fresh.0)
      (subst (λ (h : Option HeldMutex). Splits c p false 0 h (steps_of readings)) (sym fresh.1) behind))
  say line (reading.Wrong w) readings s used held counts why said rest = absurd (cc)
  say line (reading.Does step) readings s used held counts why said rest =
      say-step step (steps_of readings) s used held counts why said.0 (λ u h counts'. rest u h counts' said.1)

  all-lines : (readings : List Placed) (s : JobState) (used : ℕ) (held : Option HeldMutex) → Counts s used held → line_faults c p s readings ≡ []
      → AreSaid c p (steps_of readings) → Splits c p s.begun used held (steps_of readings)
  all-lines [] s used held counts none said = (unless s.begun Why.Unended (no-end 0 (end_why s) none), refl)
  all-lines (r ∷ readings) s used held counts none said =
      let parts = no-fault r.line (reading_why c p s r.reading) (line_faults c p (after_reading c s r.reading) readings) none in
      say r.line r.reading readings s used held counts parts.0 said
      (λ u h counts' said'. all-lines readings (after_reading c s r.reading) u h counts' parts.1 said')

  -- with the whole nothing is wrong where nothing is with a line
  pub lines-right : (steps : List Step) (faults : List ProfileFault) → or_whole steps faults ≡ [] → (faults ≡ []) × (list_any is_work steps ≡ true)
  lines-right steps [] none =
      (refl, has-work (list_any is_work steps) (nat_lt MAX_INSTRUCTIONS (program_size steps)) (Why.Many (program_size steps)) (no-end 0 (whole_why steps) none))
  lines-right steps (fault ∷ faults) none = absurd (cc)

  pub record Stands (steps : List Step) : Type 0 where
    pub fit : JobsFit c p (jobs_in steps)
    pub whole : profile_steps (jobs_in steps) ≡ steps
    pub works : list_any is_work steps ≡ true

  pub stands : (readings : List Placed) → faults_of c p readings ≡ [] → AreSaid c p (steps_of readings) → Stands (steps_of readings)
  stands readings none said =
      let parts = lines-right (steps_of readings) (line_faults c p first_state readings) none in
      let split = all-lines readings first_state 0 None from-start parts.0 said in
      record { fit = whole-jobs c p (jobs_in (steps_of readings)) split.0; whole = split.1; works = parts.1 }
