-- What an entry that follows the rules is: whose tick it was, why, and what its event has met; and which thread an entry is of, where each tick goes to what is left.
use Rattle.dk_trace.proofs.Names.{ℕ, ◌≡◌, ◌<◌, inl, inr, true, false, cond, List, length, refl, sym, subst, arith, suc, ◌∷◌, Some, None, Option, MatchOption, option_map_or, cases_Bool, Configuration, IsChecked, ThreadId, Phase, Label, Choice, Entry, is_same, payer, borrower, is_of, is_budget_of, is_out, is_out_of, kernel_level, Thread, family, threads, Job, job, thread_rem, phase, kernel_rem, is_wishing, is_entering, source, on_budget, chosen, HasChosenLabel, Audited, label_of, row_of, done_refusal, HasNextSerial, without_event, Follows, Has, Work, Event, fits, nat_tests}
use Rattle.dk_trace.proofs.Windows.{spent}
use Rattle.dk_trace.proofs.Orders.{is_out_phase, Ticks}
use Rattle.dk_trace.proofs.Labels.{budget-labels, slack-labels, chosen-says}
use Rattle.dk_trace.proofs.Members.{find-has, flat-has}
use Rattle.dk_trace.proofs.Whose.{budget-of, of-payer, of-borrower, of-nobody}
use Rattle.dk_trace.proofs.Distinct.{same-row}
use Rattle.dk_trace.proofs.RowsFit.{threads-fit}
use Rattle.dk_trace.proofs.Fair.{Fair, kernel_works, thread_works, thread_borrows, nobody}
use Rattle.dk_trace.proofs.Events.{actor-follows}
use Rattle.dk_trace.proofs.Chosen.{Passed, Turn, Reason, kernel_first, thread_first, slack_first, nothing, now_rem, chosen-reason, wishing-none}
use Rattle.dk_trace.proofs.Same.{same-id}

-- what a label is
pub data Kind (c : Configuration) (past : List Entry) (label : Label) : Type 0 where
  paid : (k : ℕ) (x : Thread) → k < length c.levels → Passed c past k → Has (threads c past) x → Turn c past k x
      → payer label ≡ Some x.id → borrower label ≡ None → kernel_level label ≡ None → Kind c past label
  lent : (k : ℕ) (x : Thread) → k < length c.levels → Passed c past (suc k) → Has (threads c past) x → now_rem c past x ≡ 0
      → fits c (length past) past ≡ true → payer label ≡ None → borrower label ≡ Some x.id → kernel_level label ≡ None → Kind c past label
  kernel : (k : ℕ) → k < length c.levels → Passed c past k → 0 < kernel_rem c (length past) past k
      → payer label ≡ None → borrower label ≡ None → kernel_level label ≡ Some k → Kind c past label
  idle : Passed c past (length c.levels) → payer label ≡ None → borrower label ≡ None → kernel_level label ≡ None → Kind c past label

kind_of : (c : Configuration) (past : List Entry) (choice : Choice) (work : Work) → Reason c past choice → Kind c past (label_of choice work)
kind_of c past _ work (kernel_first k known passed left) = kernel k known passed left refl refl refl
kind_of c past _ work (thread_first k x known passed among turn) =
    let is = budget-labels x.id (phase c.costs.switch (job c (length past) past x)) work in paid k x known passed among turn is.0 is.1 is.2
kind_of c past _ work (slack_first k x known passed among wishes fitting) =
    let is = slack-labels x.id (source c (length past) past) (cond (is_entering c (length past) past x) Phase.In Phase.Body) work in
    lent k x known passed among (wishing-none c past k x wishes) fitting is.0 is.1 is.2
kind_of c past _ work (nothing passed) = idle passed refl refl refl

-- whose tick it was, and why
pub kind-label : (c : Configuration) (past : List Entry) (label : Label) → HasChosenLabel (chosen c past) label → Kind c past label
kind-label c past label has =
    elim has [
      | inl run ↦ subst (Kind c past) (sym run) (kind_of c past (chosen c past) Work.Run (chosen-reason c past))
      | inr call ↦ subst (Kind c past) (sym call) (kind_of c past (chosen c past) Work.Call (chosen-reason c past))
    ]

pub kind : (c : Configuration) (past : List Entry) (e : Entry) → Follows c past e → Kind c past e.label
kind c past e follows = kind-label c past e.label follows.choice

match-some : {X : Type 0} (o : Option X) (x : X) (Q : X → Type 0) → o ≡ Some x → MatchOption o (Unit {0}) Q → Q x
match-some None x Q is m = absurd (cc)
match-some (Some y) x Q is m = let same : y ≡ x = cc in subst Q same m

-- a done event of the thread has met no refusal
pub record Unrefused (c : Configuration) (past : List Entry) (e : Entry) (x : ThreadId) (event : Event) : Type 0 where
  pub row : Thread
  pub among : Has (family c x.process past) row
  pub same : row.id ≡ x
  pub serial : HasNextSerial c past x event
  pub unrefused : done_refusal c (length past) (without_event e ∷ past) row event ≡ None

unrefused-at : (c : Configuration) (past : List Entry) (e : Entry) (x : ThreadId) (event : Event) (o : Option Thread) → row_of c past x ≡ o → HasNextSerial c past x event
    → MatchOption o ⊥ (λ row. done_refusal c (length past) (without_event e ∷ past) row event ≡ None) → Unrefused c past e x event
unrefused-at c past e x event None is serial m = absurd m
unrefused-at c past e x event (Some row) is serial m =
    let r = find-has (λ y. is_same x y.id) (family c x.process past) row is in
    record { row = row; among = r.0; same = sym (same-id x row.id r.1); serial = serial; unrefused = m }

pub done-event : (c : Configuration) (past : List Entry) (e : Entry) (x : ThreadId) (event : Event) → Follows c past e → is_of x e ≡ true → e.event ≡ Some event
    → Unrefused c past e x event
done-event c past e x event follows mine is =
    let thread = actor-follows c past e x follows mine in
    let met = match-some e.event event (λ given. HasNextSerial c past x given × MatchOption (row_of c past x) ⊥ (λ row. done_refusal c (length past) (without_event e ∷ past) row given ≡ None)) is thread.met in
    unrefused-at c past e x event (row_of c past x) refl met.0 met.1

pub out-budget : (x : ThreadId) (phase : Phase) (label : Label) → HasChosenLabel (Choice.Budget x phase) label → cond (is_out label) 1 0 ≡ is_out_phase phase
out-budget x phase label is = grind (arith, nat_tests)

-- what let the thread of a row act
pub data Acts (c : Configuration) (past : List Entry) (e : Entry) (x : Thread) : Type 0 where
  on_share : 0 < thread_rem c (length past) past x → HasChosenLabel (on_budget c past x) e.label → payer e.label ≡ Some x.id → Acts c past e x
  on_loan : (k : ℕ) → is_wishing c (length past) past k x ≡ true → payer e.label ≡ None → Acts c past e x

pub record Actor (c : Configuration) (past : List Entry) (e : Entry) (z : ThreadId) : Type 0 where
  pub who : Thread
  pub among : Has (threads c past) who
  pub same : z ≡ who.id
  pub acts : Acts c past e who

pub actor-of : (c : Configuration) (past : List Entry) (choice : Choice) (e : Entry) (z : ThreadId)
    → Fair c past choice → HasChosenLabel choice e.label → is_of z e ≡ true → Actor c past e z
actor-of c past choice e z (kernel_works k some) label mine =
    absurd (of-nobody z e (chosen-says payer (Choice.Kernel k) e.label None label (λ w. refl))
    (chosen-says borrower (Choice.Kernel k) e.label None label (λ w. refl)) mine)
actor-of c past choice e z (thread_works x has some) label mine =
    let phase_of : Phase = phase c.costs.switch (job c (length past) past x) in
    let pays : payer e.label ≡ Some x.id = chosen-says payer (Choice.Budget x.id phase_of) e.label (Some x.id) label (λ w. (budget-labels x.id phase_of w).0) in
    record { who = x; among = has; same = of-payer z x.id e pays mine; acts = on_share some label pays }
actor-of c past choice e z (thread_borrows k x has wishes) label mine =
    let n = length past in
    let from = source c n past in
    let phase_of : Phase = cond (is_entering c n past x) Phase.In Phase.Body in
    let pays : payer e.label ≡ None = chosen-says payer (Choice.Slack x.id from phase_of) e.label None label (λ w. (slack-labels x.id from phase_of w).0) in
    let lent : borrower e.label ≡ Some x.id = chosen-says borrower (Choice.Slack x.id from phase_of) e.label (Some x.id) label (λ w. (slack-labels x.id from phase_of w).1) in
    record { who = x; among = has; same = of-borrower z x.id e lent mine; acts = on_loan k wishes pays }
actor-of c past choice e z nobody label mine =
    absurd (of-nobody z e (chosen-says payer Choice.Idle e.label None label (λ w. refl))
    (chosen-says borrower Choice.Idle e.label None label (λ w. refl)) mine)

-- a row of the process with the id of a thread is that thread
pub same-thread : (c : Configuration) (p : ℕ) (past : List Entry) (y x : Thread) → IsChecked c → p < length c.processes → Audited c past
    → Has (family c p past) y → Has (threads c past) x → y.id ≡ x.id → x ≡ y
same-thread c p past y x checked here audited h k same =
    let there = flat-has (λ q. family c q past) 0 (length c.processes) p y (omega arith) (omega arith) h in
    same-row (threads c past) x y (threads-fit c past checked audited).distinct k there (sym same)

pub acts-of : (c : Configuration) (p : ℕ) (past : List Entry) (choice : Choice) (e : Entry) (y : Thread)
    → IsChecked c → p < length c.processes → Audited c past → Has (family c p past) y
    → Fair c past choice → HasChosenLabel choice e.label → is_of y.id e ≡ true → Acts c past e y
acts-of c p past choice e y checked here audited h fair label mine =
    let a = actor-of c past choice e y.id fair label mine in
    subst (Acts c past e) (same-thread c p past y a.who checked here audited h a.among a.same) a.acts

acts-ticks : (c : Configuration) (past : List Entry) (e : Entry) (y : Thread) → Acts c past e y → is_budget_of y.id e ≡ true
    → let j : Job = job c (length past) past y in Ticks c.costs.switch j.share j.used j.out_ticks j.closed 1 (cond (is_out e.label) 1 0)
acts-ticks c past e y (on_share some label pays) mine = inr (refl, some, out-budget y.id (phase c.costs.switch (job c (length past) past y)) e.label label)
acts-ticks c past e y (on_loan k wishes pays) mine = absurd (let h : option_map_or (is_same y.id) None false ≡ true = rw pays at mine in cc)

-- what the tick is to the job of a row
pub ticks-of : (c : Configuration) (p : ℕ) (past : List Entry) (choice : Choice) (e : Entry) (y : Thread)
    → IsChecked c → p < length c.processes → Audited c past → Has (family c p past) y
    → Fair c past choice → HasChosenLabel choice e.label
    → let j : Job = job c (length past) past y in
    Ticks c.costs.switch j.share j.used j.out_ticks j.closed (spent y.id e) (cond (is_out_of y.id e) 1 0)
ticks-of c p past choice e y checked here audited h fair label =
    elim (cases_Bool (is_budget_of y.id e)) [
      | inl mine ↦
          let a = acts-of c p past choice e y checked here audited h fair label (budget-of y.id e mine) in
          rw mine (acts-ticks c past e y a mine)
      | inr other ↦ rw other (inl (refl, refl))
    ]
