-- What is counted in the window of a whole job: the ticks of the main's budget, and that it waits.
use Rattle.dk_alone.proofs.Names.{ℕ, zero, suc, ◌≡◌, ◌+◌, ◌-◌, ◌*◌, ◌<◌, Bool, true, false, cond, ◌||◌, List, [], ◌∷◌, ◌++◌, length, refl, sym, ap, ◌∙◌, arith, count_by, flat_map, list_any, replicate, reverse, count_by-cons, Configuration, Label, Event, Entry, is_budget_of, does, is_wait, main_id, budget-not, quiet_entry, entries_of}
use Rattle.std.proofs.Common.{append_assoc, append-nil, length-append}
use Rattle.std.proofs.lemmas.Grind.{flat_map-append}
use Rattle.std.proofs.lemmas.List.{length-replicate}
use Rattle.dk_alone.proofs.Own.{other-main}
use Rattle.dk_alone.proofs.Overruns.{any-own, count-own}
use Rattle.dk_profile.specs.declared.steps.Step.{Step}
use Rattle.dk_profile.specs.declared.steps.Step.TheVariants as kind
use Rattle.dk_replay_run.specs.Profiles.{call_entries, job_entries, job_ticks, step_entries, whole_job, whole_window, work_entries}
use Rattle.dk_replay_run.proofs.Doing.{onto}
use Rattle.dk_replay_run.proofs.InTurn.{steps-long}
use Rattle.dk_replay_run.proofs.Moves.{last_tick}
use Rattle.dk_replay_run.proofs.Parts.{onto-both, onto-is}
use Rattle.dk_replay_run.proofs.Turns.{same-self}

reversed : (es : List Entry) → reverse es ≡ onto es []
reversed es = sym (onto-is es [] ∙ append-nil (reverse es))

module _ (c : Configuration) (p : ℕ) where
  abbrev paid : Entry → Bool
  paid = is_budget_of (main_id p)

  abbrev K : ℕ
  K = c.costs.call

  abbrev AllPaid : List Entry → Type 0
  AllPaid [] = Unit {0}
  AllPaid (e ∷ es) = (paid e ≡ true) × AllPaid es

  all-both : (a b : List Entry) → AllPaid a → AllPaid b → AllPaid (a ++ b)
  all-both [] b one two = two
  all-both (e ∷ a) b one two = (one.0, all-both a b one.1 two)

  all-same : (e : Entry) (n : ℕ) → paid e ≡ true → AllPaid (replicate n e)
  all-same e zero is = tt
  all-same e (suc n) is = (is, all-same e n is)

  work-paid : (n : ℕ) → AllPaid (work_entries p n)
  work-paid n = let self = same-self p in all-same (quiet_entry (Label.Run (main_id p))) n (rw self refl)

  call-paid : (event : Event) → AllPaid (call_entries K p event)
  call-paid event =
      let self = same-self p in
      let last : paid (last_tick p event) ≡ true = rw self refl in
      all-both (replicate (K - 1) (quiet_entry (Label.Call (main_id p)))) (last_tick p event ∷ []) (all-same (quiet_entry (Label.Call (main_id p))) (K - 1) (rw self refl)) (last, tt)

  load-paid : (event : Event) → AllPaid (work_entries p 1 ++ call_entries K p event)
  load-paid event = all-both (work_entries p 1) (call_entries K p event) (work-paid 1) (call-paid event)

  step-paid : (s : Step) → AllPaid (step_entries K p s)
  step-paid (kind.Work n) = work-paid n
  step-paid (kind.Lock m) = load-paid _
  step-paid (kind.Unlock m) = load-paid _
  step-paid (kind.Slack n) = load-paid _
  step-paid (kind.Put n) = load-paid _
  step-paid kind.Wait = call-paid _

  steps-paid : (steps : List Step) → AllPaid (flat_map (step_entries K p) steps)
  steps-paid [] = tt
  steps-paid (s ∷ steps) = all-both (step_entries K p s) (flat_map (step_entries K p) steps) (step-paid s) (steps-paid steps)

  window-paid : (job : List Step) → AllPaid (whole_window c p (job_entries c p job))
  window-paid job =
      let self = same-self p in
      let I : List Entry = replicate c.costs.switch (quiet_entry (Label.In (main_id p))) in
      let O : List Entry = replicate c.costs.switch (quiet_entry (Label.Out (main_id p))) in
      all-both I (job_entries c p job ++ O) (all-same (quiet_entry (Label.In (main_id p))) c.costs.switch (rw self refl))
      (all-both (job_entries c p job) O (steps-paid (whole_job job)) (all-same (quiet_entry (Label.Out (main_id p))) c.costs.switch (rw self refl)))

  counted : (more es : List Entry) → AllPaid more → count_by paid (onto more es) ≡ length more + count_by paid es
  counted [] es all = omega arith
  counted (e ∷ more) es all =
      let rest = counted more (e ∷ es) all.1 in
      let one = count_by-cons paid e es ∙ ap (λ b. cond b 1 0 + count_by paid es) all.0 in
      omega (arith, rest, one)

  window-long : (job : List Step) → 0 < K → length (whole_window c p (job_entries c p job)) ≡ job_ticks c job + 2 * c.costs.switch
  window-long job cost =
      let I : List Entry = replicate c.costs.switch (quiet_entry (Label.In (main_id p))) in
      let O : List Entry = replicate c.costs.switch (quiet_entry (Label.Out (main_id p))) in
      omega (arith, length-append I (job_entries c p job ++ O), length-append (job_entries c p job) O, length-replicate c.costs.switch (quiet_entry (Label.In (main_id p))), length-replicate c.costs.switch (quiet_entry (Label.Out (main_id p))), steps-long K p (whole_job job) cost)

  pub used-there : (job : List Step) → 0 < K → (es : List Entry) → entries_of p es ≡ reverse (whole_window c p (job_entries c p job))
      → count_by paid es ≡ job_ticks c job + 2 * c.costs.switch
  used-there job cost es is =
      let window : List Entry = whole_window c p (job_entries c p job) in
      let all = counted window [] (window-paid job) in
      let none : count_by paid [] ≡ 0 = refl in
      count-own p paid (λ e other. budget-not (main_id p) e (other-main p e other)) es
      ∙ ap (count_by paid) (is ∙ reversed window) ∙ omega (arith, all, none, window-long job cost)

  abbrev waits-in : Entry → Bool
  waits-in = does is_wait (main_id p)

  -- what is there stays
  any-onto : (more es : List Entry) → list_any waits-in es ≡ true → list_any waits-in (onto more es) ≡ true
  any-onto [] es is = is
  any-onto (e ∷ more) es is = any-onto more (e ∷ es) (ap (λ b. waits-in e || b) is ∙ or-true (waits-in e))
    where
      or-true : (b : Bool) → (b || true) ≡ true
      or-true true = refl
      or-true false = refl

  pub waited-there : (job : List Step) (es : List Entry) → entries_of p es ≡ reverse (whole_window c p (job_entries c p job)) → list_any waits-in es ≡ true
  waited-there job es is =
      let self = same-self p in
      let I : List Entry = replicate c.costs.switch (quiet_entry (Label.In (main_id p))) in
      let O : List Entry = replicate c.costs.switch (quiet_entry (Label.Out (main_id p))) in
      let own : List Entry = flat_map (step_entries K p) job in
      let calls : List Entry = replicate (K - 1) (quiet_entry (Label.Call (main_id p))) in
      let last : Entry = last_tick p Event.Wait in
      let there : waits-in last ≡ true = rw self refl in
      let ends : job_entries c p job ≡ (own ++ calls) ++ last ∷ [] =
      flat_map-append (step_entries K p) job (kind.Wait ∷ []) ∙ ap (λ (t : List Entry). own ++ t) (append-nil (calls ++ last ∷ [])) ∙ sym (append_assoc own calls (last ∷ [])) in
      let window : List Entry = whole_window c p (job_entries c p job) in
      let before : List Entry = onto (own ++ calls) (onto I []) in
      let split : onto window [] ≡ onto O (last ∷ before) =
      onto-both I (job_entries c p job ++ O) []
      ∙ onto-both (job_entries c p job) O (onto I [])
      ∙ ap (λ (t : List Entry). onto O (onto t (onto I []))) ends
      ∙ ap (λ (t : List Entry). onto O t) (onto-both (own ++ calls) (last ∷ []) (onto I [])) in
      any-own p waits-in (λ e other. let off = other-main p e other in rw off refl) es
      ∙ ap (list_any waits-in) (is ∙ reversed window ∙ split)
      ∙ any-onto O (last ∷ before) (ap (λ b. b || list_any waits-in before) there)
