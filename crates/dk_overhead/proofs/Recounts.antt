-- A job from one tick to the next, by the entry of the tick.
use Rattle.std.proofs.Common.{◌≡◌, ◌<◌, ◌+◌, ◌-◌, ◌∙◌, ◌||◌, ◌&&◌, Bool, true, false, cond, ℕ, List, [], ◌∷◌, length, None, refl, ap, sym, arith}
use Rattle.std.specs.Prelude.{count_by}
use Rattle.std.specs.List.{list_any}
use Rattle.std.proofs.Math.Bool.{and-false, or-true}
use Rattle.std.proofs.Math.Nat.{mod-lt}
use Rattle.std.proofs.lemmas.Bool.Decides.{nat_tests}
use Rattle.dk_config.specs.Configuration.{Configuration}
use Rattle.dk_config.specs.Windows.{budget, period, window_start}
use Rattle.dk_config.proofs.Lists.{or-none}
use Rattle.dk_trace.specs.declared.ThreadId.{ThreadId}
use Rattle.dk_trace.specs.declared.Choice.{Choice}
use Rattle.dk_trace.specs.declared.Entry.{Entry}
use Rattle.dk_trace.specs.declared.Label.{Label}
use Rattle.dk_trace.specs.declared.Phase.{Phase}
use Rattle.dk_trace.specs.declared.Work.{Work}
use Rattle.dk_trace.specs.Audit.{label_of, without_event}
use Rattle.dk_trace.specs.Entries.{does, is_budget_of, is_out, is_out_of, is_same, is_wait, stops, window}
use Rattle.dk_trace.specs.Jobs.{Job, is_closed, is_stopped_in, job, phase}
use Rattle.dk_trace.specs.Threads.{Thread, after_entry, main_thread, share}
use Rattle.dk_trace.proofs.Same.{same-self}
use Rattle.dk_trace.proofs.Windows.{window-charged, count-charged}
use Rattle.dk_trace.proofs.Charged.{same-job, the_job}
use Rattle.dk_overhead.specs.Recount.{IsRecount, IsStoppedBefore, KeepsShare, LeavesOpen}
use Rattle.dk_trace.specs.JobSteps.{closed, released, outs_after, spent}

none-more : (n : ℕ) → 0 + n ≡ n
none-more n = omega arith

any-entry : (test : Entry → Bool) (c : Configuration) (e : Entry) (past : List Entry) (i : ℕ)
    → list_any test (window c (length past) (e ∷ past) i) ≡ (test e || list_any test (window c (length past) past i))
any-entry test c e past i = ap (list_any test) (window-charged c e past i)

-- The start.

pub job-start : (c : Configuration) (p : ℕ) → IsRecount c 0 [] (main_thread c p) (released (budget c p))
job-start c p = grind (arith, nat_tests)

-- A tick.

module _ (c : Configuration) (past : List Entry) (label : Label) (x : Thread) (j : Job)
    (is : IsRecount c (length past) past x j) where
  abbrev now : ℕ
  now = length past

  abbrev e : Entry
  e = record { label = label; event = None }

  shut : is_closed c now (e ∷ past) x ≡ is_closed c now past x
  shut = grind (arith, nat_tests)

  ticked : (used outs : ℕ) → KeepsShare c now past (e ∷ past) x x
      → cond (is_budget_of x.id e) 1 0 + (job c now past x).used ≡ used → cond (is_out_of x.id e) 1 0 + (job c now past x).out_ticks ≡ outs
      → the_job (job c now past x).share used outs (job c now past x).closed ≡ job c now (e ∷ past) x
  ticked used outs keeps pays goes = grind (arith, nat_tests, same-job, count-charged, shut)

  pub job-tick : (work : Work) → KeepsShare c now past (e ∷ past) x x → label ≡ label_of (Choice.Budget x.id (phase c.costs.switch j)) work
      → IsRecount c now (e ∷ past) x (spent c.costs.switch j)
  job-tick work keeps labelled =
      ap (spent c.costs.switch) is
      ∙ ticked ((job c now past x).used + 1) (outs_after (phase c.costs.switch (job c now past x)) (job c now past x).out_ticks) keeps
      (ap (λ b. cond b 1 0 + (job c now past x).used) paid ∙ one (job c now past x).used)
      (ap (λ b. cond b 1 0 + (job c now past x).out_ticks) (ap (λ l. is_out_of x.id (record { label = l; event = None })) labelled)
      ∙ outs (phase c.costs.switch j) work (job c now past x).out_ticks
      ∙ ap (λ k. outs_after (phase c.costs.switch k) (job c now past x).out_ticks) is)
    where
      one : (n : ℕ) → 1 + n ≡ n + 1
      one n = omega arith

      pays : (part : Phase) (work : Work) → is_budget_of x.id (record { label = label_of (Choice.Budget x.id part) work; event = None }) ≡ true
      pays Phase.In work = same-self x.id
      pays Phase.Body Work.In = same-self x.id
      pays Phase.Body Work.Run = same-self x.id
      pays Phase.Body Work.Call = same-self x.id
      pays Phase.Out work = same-self x.id

      paid : is_budget_of x.id e ≡ true
      paid = ap (λ l. is_budget_of x.id (record { label = l; event = None })) labelled ∙ pays (phase c.costs.switch j) work

      outs : (part : Phase) (work : Work) (n : ℕ) → cond (is_out_of x.id (record { label = label_of (Choice.Budget x.id part) work; event = None })) 1 0 + n ≡ outs_after part n
      outs Phase.In work n = ap (λ b. cond b 1 0 + n) (and-false (is_same x.id x.id)) ∙ none-more n
      outs Phase.Body Work.In n = ap (λ b. cond b 1 0 + n) (and-false (is_same x.id x.id)) ∙ none-more n
      outs Phase.Body Work.Run n = ap (λ b. cond b 1 0 + n) (and-false (is_same x.id x.id)) ∙ none-more n
      outs Phase.Body Work.Call n = ap (λ b. cond b 1 0 + n) (and-false (is_same x.id x.id)) ∙ none-more n
      outs Phase.Out work n = ap (λ b. cond (b && true) 1 0 + n) (same-self x.id) ∙ one n

  pub job-idle : KeepsShare c now past (e ∷ past) x x → is_budget_of x.id e ≡ false → IsRecount c now (e ∷ past) x j
  job-idle keeps other =
      is ∙ ticked (job c now past x).used (job c now past x).out_ticks keeps
      (ap (λ b. cond b 1 0 + (job c now past x).used) other ∙ none-more (job c now past x).used)
      (ap (λ b. cond (b && is_out label) 1 0 + (job c now past x).out_ticks) other ∙ none-more (job c now past x).out_ticks)

-- An event.

module _ (c : Configuration) (past : List Entry) (e : Entry) (x : Thread) (j : Job)
    (is : IsRecount c (length past) (without_event e ∷ past) x j) where
  abbrev at : ℕ
  at = length past

  abbrev old : List Entry
  old = without_event e ∷ past

  -- the numbers of the job but for whether it is closed
  counted : (y : Thread) (shut : Bool) → y.id ≡ x.id → y.level ≡ x.level → share c (e ∷ past) y (window_start c x.level at) ≡ share c old x (window_start c x.level at)
      → shut ≡ is_closed c at (e ∷ past) y → the_job (job c at old x).share (job c at old x).used (job c at old x).out_ticks shut ≡ job c at (e ∷ past) y
  counted y shut named level keeps closes =
      same-job (job c at old x).share (job c at (e ∷ past) y).share (job c at old x).used (job c at (e ∷ past) y).used
      (job c at old x).out_ticks (job c at (e ∷ past) y).out_ticks shut (job c at (e ∷ past) y).closed
      (sym keeps ∙ ap (λ i. share c (e ∷ past) y (window_start c i at)) (sym level))
      (alike (λ i. is_budget_of i) (λ i. refl)) (alike (λ i. is_out_of i) (λ i. refl)) closes
    where
      alike : (test : ThreadId → Entry → Bool) → ((i : ThreadId) → test i (without_event e) ≡ test i e)
          → count_by (test x.id) (window c at old x.level) ≡ count_by (test y.id) (window c at (e ∷ past) y.level)
      alike test same =
          count-charged (test x.id) c (without_event e) past x.level
          ∙ ap (λ b. cond b 1 0 + count_by (test x.id) (window c at past x.level)) (same x.id)
          ∙ sym (count-charged (test x.id) c e past x.level)
          ∙ ap (λ i. count_by (test x.id) (window c at (e ∷ past) i)) (sym level)
          ∙ ap (λ i. count_by (test i) (window c at (e ∷ past) y.level)) (sym named)

  was-closed : (job c at old x).closed ≡ (list_any (does is_wait x.id) (window c at past x.level) || is_stopped_in c at x)
  was-closed = grind (arith, nat_tests, any-entry, and-false)

  pub job-wait : KeepsShare c at old (e ∷ past) x x → does is_wait x.id e ≡ true → IsRecount c at (e ∷ past) x (closed j)
  job-wait keeps waits = grind (arith, nat_tests)

  pub job-event : KeepsShare c at old (e ∷ past) x (after_entry e at x) → LeavesOpen e x → IsRecount c at (e ∷ past) (after_entry e at x) j
  job-event keeps open' = grind (arith, nat_tests, counted, was-closed, any-entry, or-none)

  pub job-stop : 0 < period c x.level → KeepsShare c at old (e ∷ past) x (after_entry e at x) → stops x.id e ≡ true → x.stop ≡ None
      → IsRecount c at (e ∷ past) (after_entry e at x) (closed j)
  job-stop positive keeps stopped none = grind (arith, nat_tests, counted, or-true, mod-lt)

-- The next tick.

pub job-stays : (c : Configuration) (now next : ℕ) (past : List Entry) (x : Thread) (j : Job) → window_start c x.level next ≡ window_start c x.level now → IsRecount c now past x j → IsRecount c next past x j
job-stays c now next past x j same is = grind (arith, nat_tests)

pub job-begins : (c : Configuration) (past : List Entry) (x : Thread) → window_start c x.level (length past) ≡ length past → IsStoppedBefore past x
    → IsRecount c (length past) past x (released (share c past x (length past)))
job-begins c past x begins before = grind (arith, nat_tests)
