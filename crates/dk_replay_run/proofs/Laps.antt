-- The steps of a profile in turn, for ever: from each of them, wherever the program has it, to the next.
use Rattle.std.proofs.Common.{◌≡◌, ◌∙◌, refl, ap, sym, subst, inl, inr, ◌<◌, ◌+◌, ◌-◌, ◌*◌, ◌%◌, ◌^◌, ℕ, zero, suc, true, false, List, [], ◌∷◌, ◌++◌, length, length-append, take, append_assoc, append-nil, arith}
use Rattle.std.specs.Prelude.{◌⊎◌, drop, flat_map, slice_index_or, sum_by}
use Rattle.std.specs.List.{list_any}
use Rattle.std.proofs.Math.Nat.{mod-eq_of_lt, mod-lt}
use Rattle.std.proofs.lemmas.List.Sums.{sum_by-cons, sum_by_push}
use Rattle.dk_isa.specs.declared.Instr.{Instr}
use Rattle.dk_cpu.specs.declared.Context.{Context}
use Rattle.dk_cpu.specs.Machine.{jump}
use Rattle.dk_trace.specs.declared.Entry.{Entry}
use Rattle.dk_trace.proofs.Windows.{mod-next}
use Rattle.dk_profile.specs.declared.steps.Step.{Step}
use Rattle.dk_profile.specs.declared.steps.Step.TheVariants as kind
use Rattle.dk_profile.specs.Steps.{is_work, step_size, work_size}
use Rattle.dk_replay.specs.Code.{behind_work, code_of, lap_bytes, program_of, step_code, steps_bytes, work_code}
use Rattle.dk_replay.specs.Laws.{HasCode, HaveNoWork, Runs, StandsAt}
use Rattle.dk_replay.proofs.Sizes.{all_bytes, work_bytes}
use Rattle.dk_replay.proofs.Work.{more, work_takes}
use Rattle.dk_replay.proofs.Places.{has_code, has_steps, jmp, read_step}
use Rattle.dk_replay_run.specs.Profiles.{job_in_turn, profile_steps, step_entries, whole_job, work_entries}
use Rattle.dk_replay_run.proofs.Moves.{IsPlainStep, Moves, joined as both, ran-for, step-leads}

abbrev pub ArePlain : List Step → Type 0
ArePlain [] = Unit {0}
ArePlain (s ∷ steps) = IsPlainStep s × ArePlain steps

-- The context stands at the step behind these, or at its second place, on the way round, which has the steps up to the first
-- work.
abbrev pub Ready : List Step → List Step → Context → Type 0
Ready steps front x =
    StandsAt (sum_by step_size front) x ⊎ (StandsAt (sum_by step_size steps + sum_by step_size front) x × HaveNoWork front)

-- the way round behind some steps without work
lap-cons : (at to : ℕ) (s : Step) (front rest : List Step)
    → lap_bytes (at + step_size s) to (front ++ rest) ≡ steps_bytes (at + step_size s) front ++ lap_bytes (at + step_size s + sum_by step_size front) to rest
    → code_of (step_code at s) ++ lap_bytes (at + step_size s) to (front ++ rest)
    ≡ (code_of (step_code at s) ++ steps_bytes (at + step_size s) front) ++ lap_bytes (at + sum_by step_size (s ∷ front)) to rest
lap-cons at to s front rest lap =
    let here : ℕ = at + step_size s + sum_by step_size front in
    let e : here ≡ at + sum_by step_size (s ∷ front) = omega (arith, sum_by-cons step_size s front) in
    let own : List ℕ = code_of (step_code at s) in
    let behind : List ℕ = steps_bytes (at + step_size s) front in
    ap (λ (t : List ℕ). own ++ t) lap ∙ (sym (append_assoc own behind (lap_bytes here to rest)) ∙ ap (λ q. (own ++ behind) ++ lap_bytes q to rest) e)

lap-behind : (at to : ℕ) (front rest : List Step) → HaveNoWork front
    → lap_bytes at to (front ++ rest) ≡ steps_bytes at front ++ lap_bytes (at + sum_by step_size front) to rest
lap-behind at to [] rest idle = let e : at ≡ at + 0 = omega arith in ap (λ q. lap_bytes q to rest) e
lap-behind at to (kind.Work k ∷ front) rest idle = absurd idle
lap-behind at to (kind.Lock k ∷ front) rest idle = lap-cons at to (kind.Lock k) front rest (lap-behind (at + 2) to front rest idle)
lap-behind at to (kind.Unlock k ∷ front) rest idle = lap-cons at to (kind.Unlock k) front rest (lap-behind (at + 2) to front rest idle)
lap-behind at to (kind.Slack k ∷ front) rest idle = lap-cons at to (kind.Slack k) front rest (lap-behind (at + 2) to front rest idle)
lap-behind at to (kind.Put k ∷ front) rest idle = lap-cons at to (kind.Put k) front rest (lap-behind (at + 2) to front rest idle)
lap-behind at to (kind.Wait ∷ front) rest idle = lap-cons at to kind.Wait front rest (lap-behind (at + 1) to front rest idle)

back-to : (n : ℕ) (front back : List Step) → HaveNoWork front → behind_work (front ++ kind.Work n ∷ back) ≡ sum_by step_size front + work_size n
back-to n [] back idle = omega arith
back-to n (kind.Work k ∷ front) back idle = absurd idle
back-to n (kind.Lock k ∷ front) back idle = omega (arith, back-to n front back idle, sum_by-cons step_size (kind.Lock k) front)
back-to n (kind.Unlock k ∷ front) back idle = omega (arith, back-to n front back idle, sum_by-cons step_size (kind.Unlock k) front)
back-to n (kind.Slack k ∷ front) back idle = omega (arith, back-to n front back idle, sum_by-cons step_size (kind.Slack k) front)
back-to n (kind.Put k ∷ front) back idle = omega (arith, back-to n front back idle, sum_by-cons step_size (kind.Put k) front)
back-to n (kind.Wait ∷ front) back idle = omega (arith, back-to n front back idle, sum_by-cons step_size kind.Wait front)

idle-push : (front : List Step) (s : Step) → HaveNoWork front → HaveNoWork (s ∷ []) → HaveNoWork (front ++ s ∷ [])
idle-push [] s idle one = one
idle-push (kind.Work k ∷ front) s idle one = absurd idle
idle-push (kind.Lock k ∷ front) s idle one = idle-push front s idle one
idle-push (kind.Unlock k ∷ front) s idle one = idle-push front s idle one
idle-push (kind.Slack k ∷ front) s idle one = idle-push front s idle one
idle-push (kind.Put k ∷ front) s idle one = idle-push front s idle one
idle-push (kind.Wait ∷ front) s idle one = idle-push front s idle one

workless : (steps : List Step) → HaveNoWork steps → list_any is_work steps ≡ false
workless [] idle = refl
workless (kind.Work k ∷ steps) idle = absurd idle
workless (kind.Lock k ∷ steps) idle = workless steps idle
workless (kind.Unlock k ∷ steps) idle = workless steps idle
workless (kind.Slack k ∷ steps) idle = workless steps idle
workless (kind.Put k ∷ steps) idle = workless steps idle
workless (kind.Wait ∷ steps) idle = workless steps idle

module _ (cost p : ℕ) (some : 0 < cost) (m : List ℕ) where
  -- the ticks of these entries lead to the step behind some
  abbrev pub Goes-on : List Step → List Entry → Context → List Step → Type 0
  Goes-on steps es x front = (y : Context) × Moves cost (program_of steps) p es x m y m × Ready steps front y

  -- a step on the way round that is no work
  other-round : (front back : List Step) (s : Step) (x : Context) → IsPlainStep s → HaveNoWork front → HaveNoWork (s ∷ [])
      → lap_bytes (sum_by step_size (front ++ s ∷ back) + sum_by step_size front) (behind_work (front ++ s ∷ back)) (s ∷ back)
      ≡ code_of (step_code (sum_by step_size (front ++ s ∷ back) + sum_by step_size front) s)
      ++ lap_bytes (sum_by step_size (front ++ s ∷ back) + sum_by step_size front + step_size s) (behind_work (front ++ s ∷ back)) back
      → StandsAt (sum_by step_size (front ++ s ∷ back) + sum_by step_size front) x
      → Goes-on (front ++ s ∷ back) (step_entries cost p s) x (front ++ s ∷ [])
  other-round front back s x plain idle other is stands =
      let steps : List Step = front ++ s ∷ back in
      let at : ℕ = sum_by step_size steps in
      let to : ℕ = behind_work steps in
      let mid : ℕ = at + sum_by step_size front in
      let first : List ℕ = steps_bytes 0 steps in
      let before : List ℕ = steps_bytes at front in
      let own : List ℕ = code_of (step_code mid s) in
      let last : List ℕ = lap_bytes (mid + step_size s) to back in
      let whole : program_of steps ≡ (first ++ before) ++ (own ++ last) =
      ap (λ (t : List ℕ). first ++ t) (lap-behind at to front (s ∷ back) idle ∙ ap (λ (t : List ℕ). before ++ t) is)
      ∙ sym (append_assoc first before (own ++ last)) in
      let long : length (first ++ before) ≡ 4 * mid = omega (arith, length-append first before, all_bytes 0 steps, all_bytes at front) in
      let has : HasCode (program_of steps) mid (step_code mid s) =
      subst (λ (t : List ℕ). HasCode t mid (step_code mid s)) (sym whole) (has_code (first ++ before) last mid (step_code mid s) long (read_step mid s)) in
      let leads = step-leads cost (program_of steps) p mid s x m some plain has stands in
      let place : mid + step_size s ≡ at + sum_by step_size (front ++ s ∷ []) = omega (arith, sum_by_push step_size front s) in
      (leads.0, leads.1, inr (subst (λ q. StandsAt q leads.0) place leads.2, idle-push front s idle other))

  -- the first work on the way round, behind which the steps go on at their first places
  work-round : (front back : List Step) (n : ℕ) (x : Context) → 0 < n → n < 2 ^ 32 → HaveNoWork front
      → StandsAt (sum_by step_size (front ++ kind.Work n ∷ back) + sum_by step_size front) x
      → Goes-on (front ++ kind.Work n ∷ back) (work_entries p n) x (front ++ kind.Work n ∷ [])
  work-round front back n x ticks small idle stands =
      let steps : List Step = front ++ kind.Work n ∷ back in
      let code : List ℕ = program_of steps in
      let at : ℕ = sum_by step_size steps in
      let to : ℕ = behind_work steps in
      let mid : ℕ = at + sum_by step_size front in
      let first : List ℕ = steps_bytes 0 steps in
      let before : List ℕ = steps_bytes at front in
      let own : List ℕ = code_of (work_code mid (n - 1)) in
      let last : List ℕ = code_of (Instr.Jmp to ∷ []) in
      let whole : code ≡ (first ++ before) ++ (own ++ last) =
      ap (λ (t : List ℕ). first ++ t) (lap-behind at to front (kind.Work n ∷ back) idle) ∙ sym (append_assoc first before (own ++ last)) in
      let long : length (first ++ before) ≡ 4 * mid = omega (arith, length-append first before, all_bytes 0 steps, all_bytes at front) in
      let long2 : length ((first ++ before) ++ own) ≡ 4 * (mid + work_size (n - 1)) = omega (arith, length-append (first ++ before) own, long, work_bytes mid (n - 1)) in
      let split : (first ++ before) ++ (own ++ last) ≡ ((first ++ before) ++ own) ++ (last ++ []) =
      sym (append_assoc (first ++ before) own last) ∙ ap (λ (t : List ℕ). ((first ++ before) ++ own) ++ t) (sym (append-nil last)) in
      let works_there : HasCode code mid (work_code mid (n - 1)) =
      subst (λ (t : List ℕ). HasCode t mid (work_code mid (n - 1))) (sym whole) (has_code (first ++ before) last mid (work_code mid (n - 1)) long (read_step mid (kind.Work (n - 1)))) in
      let jumps : HasCode code (mid + work_size (n - 1)) (Instr.Jmp to ∷ []) =
      subst (λ (t : List ℕ). HasCode t (mid + work_size (n - 1)) (Instr.Jmp to ∷ [])) (sym (whole ∙ split))
      (has_code ((first ++ before) ++ own) [] (mid + work_size (n - 1)) (Instr.Jmp to ∷ []) long2 (jmp to, tt)) in
      let less : n - 1 < 2 ^ 32 = omega arith in
      let took = work_takes cost code m mid (n - 1) x works_there less stands in
      let all = more cost code m (n - 1) (mid + work_size (n - 1)) (Instr.Jmp to) x took.0 (jump took.0 to) took.1 jumps.0 took.2 refl in
      let there : StandsAt to (jump took.0 to) = record { place = refl; registers = took.2.registers; left = took.2.left } in
      let much : suc (n - 1) ≡ n = omega arith in
      let runs : Runs cost code m n x (jump took.0 to) = subst (λ k. Runs cost code m k x (jump took.0 to)) much all in
      let place : to ≡ sum_by step_size (front ++ kind.Work n ∷ []) = omega (arith, back-to n front back idle, sum_by_push step_size front (kind.Work n)) in
      let moves = ran-for cost code p n [] x (jump took.0 to) (jump took.0 to) m m m runs (refl, refl) in (
        jump took.0 to,
        subst (λ (t : List Entry). Moves cost code p t x m (jump took.0 to) m) (append-nil (work_entries p n)) moves,
        inl (subst (λ q. StandsAt q (jump took.0 to)) place there),
      )

  round : (front back : List Step) (s : Step) (x : Context) → IsPlainStep s → HaveNoWork front
      → StandsAt (sum_by step_size (front ++ s ∷ back) + sum_by step_size front) x
      → Goes-on (front ++ s ∷ back) (step_entries cost p s) x (front ++ s ∷ [])
  round front back (kind.Work n) x plain idle stands = work-round front back n x plain.0 plain.1 idle stands
  round front back (kind.Lock n) x plain idle stands = other-round front back (kind.Lock n) x plain idle tt refl stands
  round front back (kind.Unlock n) x plain idle stands = other-round front back (kind.Unlock n) x plain idle tt refl stands
  round front back (kind.Slack n) x plain idle stands = absurd plain
  round front back (kind.Put n) x plain idle stands = other-round front back (kind.Put n) x plain idle tt refl stands
  round front back kind.Wait x plain idle stands = other-round front back kind.Wait x plain idle tt refl stands

  step-on : (front back : List Step) (s : Step) (x : Context) → IsPlainStep s → Ready (front ++ s ∷ back) front x
      → Goes-on (front ++ s ∷ back) (step_entries cost p s) x (front ++ s ∷ [])
  step-on front back s x plain ready =
      elim ready [
        | inl first ↦
            let leads = step-leads cost (program_of (front ++ s ∷ back)) p (sum_by step_size front) s x m some plain (has_steps front back s) first in
            (leads.0, leads.1, inl (subst (λ q. StandsAt q leads.0) (sym (sum_by_push step_size front s)) leads.2))
        | inr second ↦ round front back s x plain second.1 second.0
      ]

  steps-on : (front todo back : List Step) (x : Context) → ArePlain todo → Ready (front ++ (todo ++ back)) front x
      → Goes-on (front ++ (todo ++ back)) (flat_map (step_entries cost p) todo) x (front ++ todo)
  steps-on front [] back x plain ready =
      (x, (refl, refl), subst (λ (l : List Step). Ready (front ++ back) l x) (sym (append-nil front)) ready)
  steps-on front (s ∷ todo) back x plain ready =
      let one = step-on front (todo ++ back) s x plain.0 ready in
      let same : front ++ (s ∷ (todo ++ back)) ≡ (front ++ s ∷ []) ++ (todo ++ back) = sym (append_assoc front (s ∷ []) (todo ++ back)) in
      let rest = steps-on (front ++ s ∷ []) todo back one.0 plain.1 (subst (λ (l : List Step). Ready l (front ++ s ∷ []) one.0) same one.2) in
      let code : List ℕ = program_of (front ++ (s ∷ (todo ++ back))) in
      let moves : Moves cost code p (flat_map (step_entries cost p) todo) one.0 m rest.0 m =
      subst (λ (l : List Step). Moves cost (program_of l) p (flat_map (step_entries cost p) todo) one.0 m rest.0 m) (sym same) rest.1 in
      let then : Ready (front ++ (s ∷ (todo ++ back))) ((front ++ s ∷ []) ++ todo) rest.0 =
      subst (λ (l : List Step). Ready l ((front ++ s ∷ []) ++ todo) rest.0) (sym same) rest.2 in (
        rest.0,
        both cost code p (step_entries cost p s) (flat_map (step_entries cost p) todo) x one.0 rest.0 m m m one.1 moves,
        subst (λ (l : List Step). Ready (front ++ (s ∷ (todo ++ back))) l rest.0) (append_assoc front (s ∷ []) todo) then,
      )

-- the way round begins behind all steps
wrap : (steps : List Step) (x : Context) → list_any is_work steps ≡ true → Ready steps steps x → Ready steps [] x
wrap steps x works ready =
    elim ready [
      | inl first ↦
          let place : sum_by step_size steps ≡ sum_by step_size steps + 0 = omega arith in
          inr (subst (λ q. StandsAt q x) place first, tt)
      | inr second ↦ let none = workless steps second.1 in absurd (cc)
    ]

-- the steps of the jobs, cut in front of job i and behind it
cut : (jobs : List (List Step)) (i : ℕ) → i < length jobs
    → profile_steps (take i jobs) ++ (whole_job (slice_index_or jobs i []) ++ profile_steps (drop (suc i) jobs)) ≡ profile_steps jobs
cut [] i h = absurd (omega arith)
cut (job ∷ jobs) zero h = refl
cut (job ∷ jobs) (suc i) h =
    append_assoc (whole_job job) (profile_steps (take i jobs)) (whole_job (slice_index_or jobs i []) ++ profile_steps (drop (suc i) jobs))
    ∙ ap (λ (rest : List Step). whole_job job ++ rest) (cut jobs i (omega arith))

one-more : (jobs : List (List Step)) (i : ℕ) → i < length jobs
    → profile_steps (take i jobs) ++ whole_job (slice_index_or jobs i []) ≡ profile_steps (take (suc i) jobs)
one-more [] i h = absurd (omega arith)
one-more (job ∷ jobs) zero h = sym (append-nil (whole_job job))
one-more (job ∷ jobs) (suc i) h =
    append_assoc (whole_job job) (profile_steps (take i jobs)) (whole_job (slice_index_or jobs i []))
    ∙ ap (λ (rest : List Step). whole_job job ++ rest) (one-more jobs i (omega arith))

take-whole : (jobs : List (List Step)) → take (length jobs) jobs ≡ jobs
take-whole [] = refl
take-whole (job ∷ jobs) = ap (λ (rest : List (List Step)). job ∷ rest) (take-whole jobs)

-- The context stands at job k: at the first instruction, and then behind the steps of the round up to those of the job before it.
abbrev pub ReadyAt : List (List Step) → ℕ → Context → Type 0
ReadyAt jobs zero x = StandsAt 0 x
ReadyAt jobs (suc k) x = Ready (profile_steps jobs) (profile_steps (take (suc (k % length jobs)) jobs)) x

-- so it does in its round
in-round : (jobs : List (List Step)) (k : ℕ) (x : Context) → 0 < length jobs → list_any is_work (profile_steps jobs) ≡ true → ReadyAt jobs k x
    → Ready (profile_steps jobs) (profile_steps (take (k % length jobs) jobs)) x
in-round jobs zero x long works ready =
    let first : 0 % length jobs ≡ 0 = mod-eq_of_lt long in
    subst (λ i. Ready (profile_steps jobs) (profile_steps (take i jobs)) x) (sym first) (inl ready)
in-round jobs (suc k) x long works ready =
    elim (mod-next k (length jobs) long) [
      | inl end ↦
          let whole : take (suc (k % length jobs)) jobs ≡ jobs = ap (λ i. take i jobs) end.1 ∙ take-whole jobs in
          subst (λ i. Ready (profile_steps jobs) (profile_steps (take i jobs)) x) (sym end.0)
          (wrap (profile_steps jobs) x works (subst (λ (l : List (List Step)). Ready (profile_steps jobs) (profile_steps l) x) whole ready))
      | inr on ↦ subst (λ i. Ready (profile_steps jobs) (profile_steps (take i jobs)) x) (sym on) ready
    ]

-- job k leads to the next
pub job-on : (cost p : ℕ) (m : List ℕ) (jobs : List (List Step)) (k : ℕ) (x : Context) → 0 < cost → 0 < length jobs → list_any is_work (profile_steps jobs) ≡ true
    → ArePlain (whole_job (job_in_turn jobs k)) → ReadyAt jobs k x
    → (y : Context) × Moves cost (program_of (profile_steps jobs)) p (flat_map (step_entries cost p) (whole_job (job_in_turn jobs k))) x m y m
    × ReadyAt jobs (suc k) y
job-on cost p m jobs k x some long works plain ready =
    let i : ℕ = k % length jobs in
    let within : i < length jobs = mod-lt k long in
    let steps : List Step = profile_steps jobs in
    let front : List Step = profile_steps (take i jobs) in
    let job : List Step = whole_job (job_in_turn jobs k) in
    let back : List Step = profile_steps (drop (suc i) jobs) in
    let done = steps-on cost p some m front job back x plain (subst (λ (l : List Step). Ready l front x) (sym (cut jobs i within)) (in-round jobs k x long works ready)) in
    let moves : Moves cost (program_of steps) p (flat_map (step_entries cost p) job) x m done.0 m =
    subst (λ (l : List Step). Moves cost (program_of l) p (flat_map (step_entries cost p) job) x m done.0 m) (cut jobs i within) done.1 in
    let behind : Ready steps (profile_steps (take (suc i) jobs)) done.0 =
    subst (λ (l : List Step). Ready steps l done.0) (one-more jobs i within) (subst (λ (l : List Step). Ready l (front ++ job) done.0) (cut jobs i within) done.2) in
    (done.0, moves, behind)
