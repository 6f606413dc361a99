-- A thread locks a mutex whose hold its share has room for, in the run in which nobody else calls.
use Rattle.dk_warnings.proofs.Names.{ℕ, suc, ◌≡◌, ◌+◌, ◌-◌, ◌*◌, ◌%◌, ◌<◌, ◌≤◌, inl, inr, Bool, true, false, cond, ltb, List, [], ◌∷◌, length, drop, refl, sym, ap, ◌∙◌, subst, arith, Some, None, IsTrue, find, count_by, nat_tests, mod-eq_of_lt, add-mod, Configuration, period, longest_hold, window_start, is_user, ThreadId, Phase, Work, Label, Choice, Refusal, Event, Entry, Has, is_same, payer, is_budget_of, is_out_of, quiet, window, Thread, family, threads, share, Job, job, phase, is_closed, is_stopped_in, thread_body_left, body_left, held_by, chosen, ThreadsReceived, job_from, past_at, least_share, lock_refusal, first_refusal, Audited, label_of, row_of, the_job, job-charged, same-id, HasCause, ChoosesWithCause, among-threads, budget-labels, IsLocked}
use Rattle.dk_trace.proofs.Windows.{count_by-cons}
use Rattle.dk_trace.proofs.Starts.{one_or_none}
use Rattle.dk_warnings.proofs.QuietRuns.{IsFree, quiet_run, new_entries, length-quiet, take-quiet, drop-quiet, held-quiet, held-none, family-quiet, share-quiet, quiet-audited, no-waits, passes-at}

body-phase : (W : ℕ) (j : Job) → j.closed ≡ false → j.used ≡ W → 2 * W + 1 ≤ j.share → phase W j ≡ Phase.Body
body-phase W j stands used room = grind (arith, nat_tests)

body-room : (W hold spent outs : ℕ) (j : Job) → j.closed ≡ false → j.used ≡ W → spent ≤ 1 → hold + (2 * W + 1) ≤ j.share
    → hold ≤ body_left W (the_job j.share (spent + j.used) outs j.closed)
body-room W hold spent outs j stands used one room = rw stands (omega arith)

unrefused : (a b d : Bool) → a ≡ false → b ≡ false → d ≡ false
    → first_refusal ((a, Refusal.NotUser) ∷ (b, Refusal.Holding) ∷ (d, Refusal.TooLittle) ∷ []) ≡ None
unrefused a b d p q r = rw (p, q, r) refl

-- a past whose next tick begins a window of a thread that hasn't been stopped, and in which nobody holds a mutex
pub record Begins (c : Configuration) (base : List Entry) (x : Thread) : Type 0 where
  pub audited : Audited c base
  pub free : IsFree base
  pub known : x.id.process < length c.processes
  pub has : Has (family c x.id.process base) x
  pub found : row_of c base x.id ≡ Some x
  pub running : x.stop ≡ None
  pub aligned : length base % period c x.level ≡ 0
  pub positive : 0 < period c x.level
  -- the laws
  pub causes : (t : ℕ) → ChoosesWithCause c (quiet_run c base t)
  pub received : (t : ℕ) → ThreadsReceived c (quiet_run c base t)

-- the first tick of its body, after the ticks so many
pub record FirstBody (c : Configuration) (base : List Entry) (x : Thread) (t : ℕ) : Type 0 where
  pub choice : chosen c (quiet_run c base t) ≡ Choice.Budget x.id Phase.Body
  pub found : row_of c (quiet_run c base t) x.id ≡ Some x
  pub share : (job c (length (quiet_run c base t)) (quiet_run c base t) x).share ≡ share c base x (length base)
  pub used : (job c (length (quiet_run c base t)) (quiet_run c base t) x).used ≡ c.costs.switch
  pub stands : (job c (length (quiet_run c base t)) (quiet_run c base t) x).closed ≡ false

open-shut : (b : Bool) → b ≡ false → IsTrue b → ⊥
open-shut b stands shut = grind (arith, nat_tests)

module _ (c : Configuration) (base : List Entry) (x : Thread) (begins : Begins c base x) where
  abbrev id : ThreadId
  id = x.id

  abbrev P : ℕ
  P = period c x.level

  abbrev S : ℕ
  S = length base

  abbrev used_at : ℕ → ℕ
  used_at t = count_by (is_budget_of id) (new_entries c base t)

  abbrev pays_at : ℕ → Bool
  pays_at t = is_budget_of id (quiet (label_of (chosen c (quiet_run c base t)) Work.Run))

  used-step : (t : ℕ) → used_at (suc t) ≡ cond (pays_at t) 1 0 + used_at t
  unfolding new_entries
  used-step t = count_by-cons (is_budget_of id) (quiet (label_of (chosen c (quiet_run c base t)) Work.Run)) (new_entries c base t)

  used-start : used_at 0 ≡ 0
  unfolding new_entries
  used-start = refl

  row-quiet : (t : ℕ) → row_of c (quiet_run c base t) id ≡ Some x
  row-quiet t = ap (λ ys. find (λ y. is_same id y.id) ys) (family-quiet c base id.process t) ∙ begins.found

  -- the window has the entries since it began
  start-quiet : (t : ℕ) → t < P → window_start c x.level (length (quiet_run c base t)) ≡ S
  start-quiet t early =
      let long = length-quiet c base t in
      let small : t % P ≡ t = mod-eq_of_lt early in
      let aligned = begins.aligned in
      let sums : t % P + S % P ≡ t = omega arith in
      let place : (t + S) % P ≡ t = add-mod t S P ∙ ap (λ k. k % P) sums ∙ small in
      let at : length (quiet_run c base t) % P ≡ t = ap (λ k. k % P) long ∙ place in
      omega (arith, long, at)

  window-quiet : (t : ℕ) → t < P → window c (length (quiet_run c base t)) (quiet_run c base t) x.level ≡ new_entries c base t
  window-quiet t early = grind (arith, nat_tests, length-quiet, start-quiet, quiet_run, take-quiet)

  never-stopped : (now : ℕ) → is_stopped_in c now x ≡ false
  never-stopped now = grind (arith, nat_tests)

  closed-from : (now t : ℕ) (entries : List Entry) → window c now entries x.level ≡ new_entries c base t → is_closed c now entries x ≡ false
  closed-from now t entries is = grind (arith, nat_tests, no-waits, never-stopped)

  -- the share is used up when the window ends
  used-all : used_at P ≡ share c base x S
  used-all =
      let past = quiet_run c base P in
      let long = length-quiet c base P in
      let here : Has (family c id.process past) x = subst (λ ys. Has ys x) (sym (family-quiet c base id.process P)) begins.has in
      let among : Has (threads c past) x = among-threads c past x begins.known here in
      let had = begins.received P x S among begins.aligned (omega (arith, long)) in
      let whole : past_at past (S + P) ≡ past = (let none : length past - (S + P) ≡ 0 = omega (arith, long) in ap (λ k. drop k past) none) in
      let front : past_at past S ≡ base = (let rest : length past - S ≡ P = omega (arith, long) in ap (λ k. drop k past) rest ∙ drop-quiet c base P) in
      let aligned = begins.aligned in
      let all : window c S past x.level ≡ new_entries c base P = grind (arith, nat_tests, take-quiet) in
      let used : (job_from c past x S).used ≡ used_at P = grind (arith, nat_tests) in
      let due : share c (past_at past S) x S ≡ share c base x S = ap (λ entries. share c entries x S) front in
      let stands : (job_from c past x S).closed ≡ false = ap (λ entries. is_closed c S entries x) whole ∙ closed-from S P past all in
      elim had [
        | inl full ↦ sym used ∙ full ∙ due
        | inr shut ↦ absurd (open-shut (job_from c past x S).closed stands shut.0)
      ]

  -- who has the tick that the thread pays for, in its body
  body-choice : (past : List Entry) (choice : Choice) → HasCause c past choice → is_budget_of id (quiet (label_of choice Work.Run)) ≡ true
      → row_of c past id ≡ Some x → phase c.costs.switch (job c (length past) past x) ≡ Phase.Body → choice ≡ Choice.Budget id Phase.Body
  body-choice past (Choice.Kernel i) cause pays found body = absurd (cc)
  body-choice past Choice.Idle cause pays found body = absurd (cc)
  body-choice past (Choice.Slack y source Phase.In) cause pays found body = absurd (cc)
  body-choice past (Choice.Slack y source Phase.Body) cause pays found body = absurd (cc)
  body-choice past (Choice.Slack y source Phase.Out) cause pays found body = absurd (cc)
  body-choice past (Choice.Budget y part) cause pays found body =
      let pays_y : payer (label_of (Choice.Budget y part) Work.Run) ≡ Some y = (budget-labels y part Work.Run).0 in
      let test : is_same id y ≡ true = rw pays_y at pays in
      let him : id ≡ y = same-id id y test in
      let there : row_of c past id ≡ Some cause.row = subst (λ i. row_of c past i ≡ Some cause.row) (sym him) cause.found in
      let is_row : cause.row ≡ x = cc in
      let next : part ≡ phase c.costs.switch (job c (length past) past x) =
      cause.phase ∙ ap (λ (r : Thread). phase c.costs.switch (job c (length past) past r)) is_row in
      ap (λ i. Choice.Budget i part) (sym him) ∙ ap (Choice.Budget id) (next ∙ body)

  -- a share that is not nothing comes to its body
  pub first-body : least_share c ≤ share c base x S → (t : ℕ) × FirstBody c base x t
  first-body room =
      let W = c.costs.switch in
      let full = used-all in
      let r = passes-at used_at pays_at used-step used-start W P (omega arith) in
      let past = quiet_run c base r.0 in
      let n = length past in
      let j = job c n past x in
      let share_is : j.share ≡ share c base x S = ap (share c past x) (start-quiet r.0 r.1) ∙ share-quiet c base x r.0 S in
      let used_is : j.used ≡ W = ap (count_by (is_budget_of id)) (window-quiet r.0 r.1) ∙ r.2 in
      let stands : j.closed ≡ false = closed-from n r.0 past (window-quiet r.0 r.1) in
      let body = body-phase W j stands used_is (omega arith) in (
        r.0,
        record {
          choice = body-choice past (chosen c past) (begins.causes r.0) r.3 (row-quiet r.0) body;
          found = row-quiet r.0;
          share = share_is;
          used = used_is;
          stands = stands;
        },
      )

  -- and there it can lock a mutex whose hold it has room for
  pub locked : (m p : ℕ) → id.process ≡ p → is_user c m p ≡ true → longest_hold c m + least_share c ≤ share c base x S → IsLocked c p m
  locked m p of_p user room =
      let W = c.costs.switch in
      let r = first-body (omega arith) in
      let first = r.1 in
      let past = quiet_run c base r.0 in
      let n = length past in
      let j = job c n past x in
      let share_is = first.share in
      let held = held-none c base r.0 begins.free id in
      let after : List Entry = quiet (Label.Call id) ∷ past in
      let none_held : held_by id after ≡ [] = held-quiet id (Label.Call id) past held in
      let left = body-room W (longest_hold c m) (cond (is_budget_of id (quiet (Label.Call id))) 1 0) (cond (is_out_of id (quiet (Label.Call id))) 1 0 + j.out_ticks) j
      first.stands first.used (one_or_none (is_budget_of id (quiet (Label.Call id)))) (omega (arith, share_is, room)) in
      let time : longest_hold c m ≤ thread_body_left c n after x =
      subst (λ (k : Job). longest_hold c m ≤ body_left W k) (sym (job-charged c (Label.Call id) past x)) left in
      let enough : ltb (thread_body_left c n after x) (longest_hold c m) ≡ false = grind (arith, nat_tests) in
      let uses : is_user c m id.process ≡ true = ap (is_user c m) of_p ∙ user in
      let free : lock_refusal c n after x m ≡ None = grind (arith, nat_tests, unrefused) in
      record {
        past = past;
        entry = record { label = Label.Call id; event = Some (Event.Lock m) };
        follows = grind (arith, nat_tests, quiet-audited);
        locker = id;
        of_process = of_p;
        thread = refl;
        event = refl;
      }
