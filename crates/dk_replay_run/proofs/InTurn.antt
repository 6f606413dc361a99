-- The jobs in turn, each from the window in which it begins to the one in which it waits.
use Rattle.dk_alone.proofs.Names.{ℕ, zero, suc, ◌≡◌, ◌+◌, ◌-◌, ◌*◌, ◌/◌, ◌%◌, ◌<◌, ◌≤◌, inl, inr, true, false, leb, List, [], ◌∷◌, ◌++◌, length, None, refl, sym, ap, ◌∙◌, subst, arith, nat_tests, cases_Bool, reverse, replicate, take, flat_map, sum_by, filter-append, append_cancel_right, mul-mod_left, Configuration, IsChecked, IsAccepted, period, main_level, budget, window_start, Label, Event, Entry, main_id, Context, quiet_entry, alone, choice_alone, is_of_process, entries_of}
use Rattle.std.proofs.Common.{append_assoc, append-nil, length-append}
use Rattle.std.specs.Prelude.{drop}
use Rattle.std.specs.List.{list_any}
use Rattle.std.proofs.Math.Nat.{le-div_iff_mul-le, mod-eq_of_lt, mod-lt}
use Rattle.std.proofs.lemmas.Grind.{flat_map-append}
use Rattle.std.proofs.lemmas.List.{drop-append-le, drop-drop, length-drop, length-replicate, length-take-le, take-append-drop, take-append-le, take_all}
use Rattle.std.proofs.lemmas.List.Sums.{sum_by-cons, sum_by_push}
use Rattle.dk_config.specs.Checked.{IsWithinLimits}
use Rattle.dk_config.specs.Windows.{memory}
use Rattle.dk_cpu.specs.State.{zero_context}
use Rattle.dk_profile.specs.Faults.{body}
use Rattle.dk_profile.specs.declared.steps.Step.{Step}
use Rattle.dk_profile.specs.declared.steps.Step.TheVariants as kind
use Rattle.dk_profile.specs.Steps.{is_work, step_ticks}
use Rattle.dk_alone.proofs.Own.{own-begins}
use Rattle.dk_alone.proofs.Again.{on, on-is, entry-by}
use Rattle.dk_replay.specs.Code.{program_of}
use Rattle.dk_replay_run.specs.Profiles.{JobsFit, call_entries, first_window, job_entries, job_in_turn, job_ticks, part_of, profile_steps, step_entries, whole_window, windows_of, work_entries}
use Rattle.dk_replay_run.proofs.Turns.{At, going, own_from}
use Rattle.dk_replay_run.proofs.Moves.{Moves, last_tick}
use Rattle.dk_replay_run.proofs.Doing.{Goes, onto}
use Rattle.dk_replay_run.proofs.Fitting.{fits-at, plain-job, steps-go, up_to_wait}
use Rattle.dk_replay_run.proofs.Laps.{ReadyAt, job-on}
use Rattle.dk_replay_run.proofs.Parts.{full, last, onto-is}
use Rattle.dk_replay_run.proofs.Room.{budget-fits}

-- a step has as many entries as it takes ticks
call-long : (cost p : ℕ) (event : Event) → 0 < cost → length (call_entries cost p event) ≡ cost
call-long cost p event some =
    omega (arith, length-append (replicate (cost - 1) (quiet_entry (Label.Call (main_id p)))) (last_tick p event ∷ []), length-replicate (cost - 1) (quiet_entry (Label.Call (main_id p))))

load-long : (cost p : ℕ) (event : Event) → 0 < cost → length (work_entries p 1 ++ call_entries cost p event) ≡ 1 + cost
load-long cost p event some = ap suc (call-long cost p event some) ∙ omega arith

step-long : (cost p : ℕ) (s : Step) → 0 < cost → length (step_entries cost p s) ≡ step_ticks cost s
step-long cost p (kind.Work n) some = length-replicate n (quiet_entry (Label.Run (main_id p)))
step-long cost p (kind.Lock n) some = load-long cost p _ some
step-long cost p (kind.Unlock n) some = load-long cost p _ some
step-long cost p (kind.Slack n) some = load-long cost p _ some
step-long cost p (kind.Put n) some = load-long cost p _ some
step-long cost p kind.Wait some = call-long cost p _ some

pub steps-long : (cost p : ℕ) (steps : List Step) → 0 < cost → length (flat_map (step_entries cost p) steps) ≡ sum_by (step_ticks cost) steps
steps-long cost p [] some = refl
steps-long cost p (s ∷ steps) some =
    omega (arith, length-append (step_entries cost p s) (flat_map (step_entries cost p) steps), step-long cost p s some, steps-long cost p steps some, sum_by-cons (step_ticks cost) s steps)

pub workless-none : (jobs : List (List Step)) → list_any is_work (profile_steps jobs) ≡ true → 0 < length jobs
workless-none [] works = absurd (cc)
workless-none (job ∷ jobs) works = omega arith

next-of : (j n : ℕ) → suc j * n ≡ j * n + n
next-of j n = grind arith

no-times : (n : ℕ) → 0 * n ≡ 0
no-times n = omega arith

-- the entries of the last ticks stand before those of an earlier tick
split : (f : ℕ → List Entry) → ((n : ℕ) → (e : Entry) × (f (suc n) ≡ e ∷ f n)) → (d t : ℕ) → f (on d t) ≡ take d (f (on d t)) ++ f t
split f grows zero t = refl
split f grows (suc d) t =
    let grown = grows (on d t) in
    subst (λ (es : List Entry). es ≡ take (suc d) es ++ f t) (sym grown.1) (ap (λ (es : List Entry). grown.0 ∷ es) (split f grows d t))

module _ (c : Configuration) (p : ℕ) (jobs : List (List Step)) (limits : IsWithinLimits c) (checked : IsChecked c) (accepted : IsAccepted c)
    (known : p < length c.processes) (works : list_any is_work (profile_steps jobs) ≡ true) (room : JobsFit c p jobs) where
  abbrev code : List ℕ
  code = program_of (profile_steps jobs)

  abbrev span : ℕ
  span = period c (main_level c p)

  abbrev words : List ℕ
  words = replicate (memory c p) 0

  abbrev K : ℕ
  K = c.costs.call

  abbrev B : ℕ
  B = budget c p

  abbrev C : ℕ
  C = body c p

  abbrev wait : Entry
  wait = last_tick p Event.Wait

  cost : 0 < K
  cost = limits.some_call

  whole : 0 < span
  whole = checked.positive (main_level c p) (checked.levels p known)

  long : 0 < length jobs
  long = workless-none jobs works

  body-room : C + 2 * c.costs.switch ≡ B
  body-room = let least = checked.budgets p known in omega (arith, least)

  body-some : 0 < C
  body-some = let least = checked.budgets p known in omega (arith, least)

  abbrev job : ℕ → List Step
  job k = job_in_turn jobs k

  -- the entries of job k but the last of its wait
  abbrev R : ℕ → List Entry
  R k = up_to_wait c p cost (job k)

  -- its entries are these and the wait's last
  entries-are : (k : ℕ) → job_entries c p (job k) ≡ R k ++ wait ∷ []
  entries-are k =
      let own : List Entry = flat_map (step_entries K p) (job k) in
      let calls : List Entry = replicate (K - 1) (quiet_entry (Label.Call (main_id p))) in
      flat_map-append (step_entries K p) (job k) (kind.Wait ∷ [])
      ∙ ap (λ (t : List Entry). own ++ t) (append-nil (calls ++ wait ∷ []))
      ∙ sym (append_assoc own calls (wait ∷ []))

  job-long : (k : ℕ) → job_ticks c (job k) - 1 ≡ length (R k)
  job-long k =
      let calls : List Entry = replicate (K - 1) (quiet_entry (Label.Call (main_id p))) in
      omega (arith, cost, length-append (flat_map (step_entries K p) (job k)) calls, length-replicate (K - 1) (quiet_entry (Label.Call (main_id p))), steps-long K p (job k) cost, sum_by_push (step_ticks K) (job k) kind.Wait)

  abbrev Begun : ℕ → List Entry → Context → List ℕ → Type 0
  Begun s es x l = At c p code s s (going es B 0 0 false) x l

  -- where job k begins
  abbrev Starts : ℕ → ℕ → List Entry → Type 0
  Starts k s es = (x : Context) × Begun s es x words × ReadyAt jobs k x

  -- a window in which job k goes on behind j others
  abbrev GoesOn : ℕ → ℕ → ℕ → List Entry → Type 0
  GoesOn k j s es =
      (x : Context) × (l : List ℕ) × (z : Context) × Begun s es x l × Moves K code p (drop (j * C) (R k) ++ wait ∷ []) x l z words
      × Goes c p (j * C) None (drop (j * C) (R k)) × ReadyAt jobs (suc k) z

  -- the entries of its window j in front of those before
  abbrev Grown : ℕ → ℕ → List Entry → List Entry
  Grown k j es = onto (whole_window c p (part_of c p (job k) j)) es

  first : Starts 0 0 []
  first =
      let zeros : 0 % span ≡ 0 = mod-eq_of_lt whole in
      let start : window_start c (main_level c p) 0 ≡ 0 = omega arith in (
        zero_context,
        record {
          low = omega arith;
          own = ap (λ w. own_from c p w []) (sym start) ∙ own-begins c p whole [] (going [] B 0 0 false) tt zeros refl refl refl;
          plain = tt;
          context = refl;
          memory = refl;
          code = refl;
        },
        record { place = refl; registers = refl; left = refl },
      )

  enter : (k s : ℕ) (es : List Entry) → Starts k s es → GoesOn k 0 s es
  enter k s es start =
      let within : k % length jobs < length jobs = mod-lt k long in
      let fits = fits-at c p jobs (k % length jobs) within room in
      let done = job-on K p words jobs k start.0 cost long works (plain-job c p (job k) fits) start.2 in
      let none : 0 ≡ 0 * C = sym (no-times C) in
      let moves : Moves K code p (R k ++ wait ∷ []) start.0 words done.0 words =
      subst (λ (t : List Entry). Moves K code p t start.0 words done.0 words) (entries-are k) done.1 in (
        start.0,
        words,
        done.0,
        start.1,
        subst (λ n. Moves K code p (drop n (R k) ++ wait ∷ []) start.0 words done.0 words) none moves,
        subst (λ n. Goes c p n None (drop n (R k))) none (steps-go c p cost (job k) 0 None fits),
        done.2,
      )

  -- what is left of the job has the window's part in front
  left-over : (k j : ℕ) → j * C ≤ length (R k) → drop (j * C) (job_entries c p (job k)) ≡ drop (j * C) (R k) ++ wait ∷ []
  left-over k j some = ap (λ (t : List Entry). drop (j * C) t) (entries-are k) ∙ drop-append-le (j * C) (R k) (wait ∷ []) some

  fill : (k j s : ℕ) (es : List Entry) → s % span ≡ 0 → suc j * C ≤ length (R k) → GoesOn k j s es → GoesOn k (suc j) (s + span) (Grown k j es)
  fill k j s es begins more on-it =
      let next = next-of j C in
      let rest : List Entry = drop (j * C) (R k) in
      let chunk : List Entry = take C rest in
      let later : List Entry = drop C rest in
      let many : length rest ≡ length (R k) - j * C = length-drop (j * C) (R k) in
      let enough : C ≤ length rest = omega (arith, many, next, more) in
      let cut : chunk ++ later ≡ rest = take-append-drop C rest in
      let size : length chunk ≡ C = length-take-le C rest enough in
      let moves : Moves K code p (chunk ++ (later ++ wait ∷ [])) on-it.0 on-it.1 on-it.2 words =
      subst (λ (t : List Entry). Moves K code p t on-it.0 on-it.1 on-it.2 words)
      (ap (λ (t : List Entry). t ++ wait ∷ []) (sym cut) ∙ append_assoc chunk later (wait ∷ [])) on-it.4 in
      let goes : Goes c p (j * C) None (chunk ++ later) = subst (λ (t : List Entry). Goes c p (j * C) None t) (sym cut) on-it.5 in
      let done = full c p code whole s begins (budget-fits c p checked accepted known) checked chunk later (later ++ wait ∷ []) es (j * C) on-it.0 on-it.2 on-it.1 words
      size body-room body-some goes moves on-it.3 in
      let part : chunk ≡ part_of c p (job k) j =
      sym (ap (λ (t : List Entry). take C t) (left-over k j (omega (arith, next, more))) ∙ take-append-le C rest (wait ∷ []) enough) in
      let behind : later ≡ drop (suc j * C) (R k) = drop-drop C (j * C) (R k) ∙ ap (λ n. drop n (R k)) (sym next) in
      let count : C + j * C ≡ suc j * C = omega (arith, next) in (
        done.0,
        done.1,
        on-it.2,
        subst (λ (t : List Entry). Begun (s + span) (onto (whole_window c p t) es) done.0 done.1) part done.2,
        subst (λ (t : List Entry). Moves K code p (t ++ wait ∷ []) done.0 done.1 on-it.2 words) behind done.4,
        subst (λ n. Goes c p n None (drop (suc j * C) (R k))) count (subst (λ (t : List Entry). Goes c p (C + j * C) None t) behind done.3),
        on-it.6,
      )

  finish : (k j s : ℕ) (es : List Entry) → s % span ≡ 0 → j * C ≤ length (R k) → length (R k) < suc j * C → GoesOn k j s es → Starts (suc k) (s + span) (Grown k j es)
  finish k j s es begins some little on-it =
      let next = next-of j C in
      let rest : List Entry = drop (j * C) (R k) in
      let many : length rest ≡ length (R k) - j * C = length-drop (j * C) (R k) in
      let short : length rest < C = omega (arith, many, next, little, some) in
      let done = last c p code whole s begins (budget-fits c p checked accepted known) checked rest es (j * C) on-it.0 on-it.2 on-it.1 words short body-room on-it.5 on-it.4 on-it.3 in
      let all : length (rest ++ wait ∷ []) ≤ C = omega (arith, length-append rest (wait ∷ []), short) in
      let part : rest ++ wait ∷ [] ≡ part_of c p (job k) j =
      sym (ap (λ (t : List Entry). take C t) (left-over k j some) ∙ take_all C (rest ++ wait ∷ []) all) in
      (on-it.2, subst (λ (t : List Entry). Begun (s + span) (onto (whole_window c p t) es) on-it.2 words) part done, on-it.6)

  abbrev tick : ℕ → ℕ
  tick n = n * span

  tick-next : (n : ℕ) → tick n + span ≡ tick (n + 1)
  tick-next n = sym (ap (λ k. k * span) (omega arith) ∙ next-of n span)

  -- the windows of job k, from the one in which it begins
  within-job : (k : ℕ) → (es : List Entry) × Starts k (tick (first_window c p jobs k)) es → (j : ℕ) → j * C ≤ length (R k)
      → (es : List Entry) × GoesOn k j (tick (first_window c p jobs k + j)) es
  within-job k start zero some =
      let same : first_window c p jobs k ≡ first_window c p jobs k + 0 = omega arith in
      (start.0, subst (λ n. GoesOn k 0 (tick n) start.0) same (enter k (tick (first_window c p jobs k)) start.0 start.1))
  within-job k start (suc j) some =
      let next = next-of j C in
      let before = within-job k start j (omega (arith, next, some)) in
      let n : ℕ = first_window c p jobs k + j in
      let same : n + 1 ≡ first_window c p jobs k + suc j = omega arith in (
        Grown k j before.0,
        subst (λ i. GoesOn k (suc j) (tick i) (Grown k j before.0)) same
            (subst (λ t. GoesOn k (suc j) t (Grown k j before.0)) (tick-next n) (fill k j (tick n) before.0 (mul-mod_left n span) some before.1)),
      )

  -- j is no more than the windows that the job fills
  enough : (k j : ℕ) → j < windows_of c p (job k) → j * C ≤ length (R k)
  enough k j few =
      let much = job-long k in
      let least : j ≤ (job_ticks c (job k) - 1) / C = omega (arith, few) in
      let both : j * C ≤ job_ticks c (job k) - 1 = (le-div_iff_mul-le body-some).0 least in
      omega (arith, both, much)

  too-many : (k j : ℕ) → j ≡ (job_ticks c (job k) - 1) / C → length (R k) < suc j * C
  too-many k j is =
      elim (cases_Bool (leb (suc j * C) (length (R k)))) [
        | inl fits ↦
            let much = job-long k in
            let room : suc j * C ≤ length (R k) = grind (arith, nat_tests) in
            let both : suc j * C ≤ job_ticks c (job k) - 1 = omega (arith, room, much) in
            let least : suc j ≤ (job_ticks c (job k) - 1) / C = (le-div_iff_mul-le body-some).1 both in
            absurd (omega (arith, least, is))
        | inr not ↦ grind (arith, nat_tests)
      ]

  pub start-of : (k : ℕ) → (es : List Entry) × Starts k (tick (first_window c p jobs k)) es
  start-of zero = ([], subst (λ t. Starts 0 t []) (sym (no-times span)) first)
  start-of (suc k) =
      let j : ℕ = (job_ticks c (job k) - 1) / C in
      let few : j < windows_of c p (job k) = omega arith in
      let some : j * C ≤ length (R k) = enough k j few in
      let n : ℕ = first_window c p jobs k + j in
      let before = within-job k (start-of k) j some in
      let after = finish k j (tick n) before.0 (mul-mod_left n span) some (too-many k j refl) before.1 in
      let same : n + 1 ≡ first_window c p jobs (suc k) = omega arith in
      (Grown k j before.0, subst (λ i. Starts (suc k) (tick i) (Grown k j before.0)) same (subst (λ t. Starts (suc k) t (Grown k j before.0)) (tick-next n) after))

  -- what a window adds to the entries
  added : (s : ℕ) (es new : List Entry) (x y : Context) (l m : List ℕ) → Begun s es x l → Begun (s + span) (onto new es) y m
      → entries_of p (take span (alone c p code (s + span)).past) ≡ reverse new
  added s es new x y l m before after =
      let f : ℕ → List Entry = λ n. (alone c p code n).past in
      let is : on span s ≡ s + span = on-is span s ∙ omega arith in
      let cut : f (s + span) ≡ take span (f (s + span)) ++ f s =
      subst (λ t. f t ≡ take span (f t) ++ f s) is (split f (λ n. entry-by c (alone c p code n) (choice_alone c p (alone c p code n).past)) span s) in
      let parts : entries_of p (f (s + span)) ≡ entries_of p (take span (f (s + span))) ++ entries_of p (f s) =
      ap (entries_of p) cut ∙ filter-append (is_of_process p) (take span (f (s + span))) (f s) in
      let old : entries_of p (f s) ≡ es = ap (λ o. o.entries) before.own in
      let all : entries_of p (f (s + span)) ≡ reverse new ++ es = ap (λ o. o.entries) after.own ∙ onto-is new es in
      append_cancel_right (entries_of p (take span (f (s + span)))) (reverse new) es
      (ap (λ (t : List Entry). entries_of p (take span (f (s + span))) ++ t) (sym old) ∙ sym parts ∙ all)

  -- window j of job k
  pub window-entries : (k j : ℕ) → j < windows_of c p (job k)
      → entries_of p (take span (alone c p code ((first_window c p jobs k + j) * span + span)).past) ≡ reverse (whole_window c p (part_of c p (job k) j))
  window-entries k j few =
      let some : j * C ≤ length (R k) = enough k j few in
      let n : ℕ = first_window c p jobs k + j in
      let before = within-job k (start-of k) j some in
      let begins : tick n % span ≡ 0 = mul-mod_left n span in
      let new : List Entry = whole_window c p (part_of c p (job k) j) in
      elim (cases_Bool (leb (suc j * C) (length (R k)))) [
        | inl fits ↦
            let room : suc j * C ≤ length (R k) = grind (arith, nat_tests) in
            let after = fill k j (tick n) before.0 begins room before.1 in
            added (tick n) before.0 new before.1.0 after.0 before.1.1 after.1 before.1.3 after.3
        | inr not ↦
            let little : length (R k) < suc j * C = grind (arith, nat_tests) in
            let after = finish k j (tick n) before.0 begins some little before.1 in
            added (tick n) before.0 new before.1.0 after.0 before.1.1 words before.1.3 after.1
      ]
