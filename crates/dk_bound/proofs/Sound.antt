-- Every choice names a thread that has a row, and a holder that is chosen in the last tick of a hold executes in it.
use Rattle.dk_bound.proofs.Names.{ℕ, ◌≡◌, ◌-◌, ◌<◌, ◌≤◌, inl, inr, true, false, List, length, refl, sym, ap, ◌∙◌, subst, arith, nat_tests, Configuration, IsChecked, ThreadId, Phase, Work, Choice, Entry, Has, is_same, thread_of, Thread, threads, family, Job, job, phase, body_left, held_by, is_holding, innermost_left, is_holder, chosen, source, budget-labels, slack-labels, label_of, row_of, Audited, HasChosenLabel, Label, chosen_thread, IsKnown, HasCause, ChoosesKnown, LastTickExecutes, ChoiceHolds, ChosenHolds, find-some, flat-has, wish-wants, Fair, kernel_works, thread_works, thread_borrows, nobody, same-row, label-payer, label-borrower, label-nobody, Reason, chosen-reason, wishing-none, Kind, kind-label, ThreadsFit, threads-fit, same-id, same-self}
use Rattle.std.proofs.Common.{Some}
use Rattle.dk_bound.proofs.Holding.{HoldersFit}
use Rattle.dk_bound.proofs.HoldersFit.{row-nested, holder-rem, holder-stands, Rising-some}

-- a row among the threads is the one that its name finds
pub row-known : (c : Configuration) (past : List Entry) (x : ThreadId) (y : Thread) → ThreadsFit c past → Has (threads c past) y → y.id ≡ x → IsKnown c past x
row-known c past x y fit has same =
    let place : Has (family c x.process past) y = subst (λ i. Has (family c i.process past) y) same (fit.place y has) in
    let r = find-some (λ z. is_same x z.id) (family c x.process past) y place (subst (λ i. is_same x i ≡ true) (sym same) (same-self x)) in
    record { row = r.0; found = r.3; id = sym (same-id x r.0.id r.2) }

known-by : (c : Configuration) (past : List Entry) (x : ThreadId) → ThreadsFit c past → chosen_thread c past ≡ Some x
    → Kind c past (label_of (chosen c past) Work.Run) → IsKnown c past x
known-by c past x fit is at = grind (arith, nat_tests, label-payer, row-known, label-borrower, label-nobody)

pub chooses-known : (c : Configuration) (past : List Entry) → IsChecked c → Audited c past → ChoosesKnown c past
chooses-known c past checked audited x is =
    known-by c past x (threads-fit c past checked audited) is (kind-label c past (label_of (chosen c past) Work.Run) (inl refl))

-- and it is that row
row-found : (c : Configuration) (past : List Entry) (y : Thread) → ThreadsFit c past → Has (threads c past) y → row_of c past y.id ≡ Some y
row-found c past y fit has =
    let r = find-some (λ z. is_same y.id z.id) (family c y.id.process past) y (fit.place y has) (same-self y.id) in
    let known = (fit.rows y has).known in
    let there : Has (threads c past) r.0 = flat-has (λ q. family c q past) 0 (length c.processes) y.id.process r.0 (omega arith) (omega arith) r.1 in
    r.3 ∙ ap Some (same-row (threads c past) r.0 y fit.distinct there has (sym (same-id y.id r.0.id r.2)))

-- what a fair choice goes by
pub cause-of : (c : Configuration) (past : List Entry) (choice : Choice) → ThreadsFit c past → Fair c past choice → HasCause c past choice
cause-of c past _ fit (kernel_works k some) = some
cause-of c past _ fit (thread_works x has some) = record { row = x; found = row-found c past x fit has; left = some; phase = refl }
cause-of c past _ fit (thread_borrows k x has wishes) =
    record { row = x; found = row-found c past x fit has; none = wishing-none c past k x wishes; wants = wish-wants c (length past) past k x wishes }
cause-of c past _ fit nobody = tt

-- a job that has body left, and was switched in, is in its body
phase-body : (W : ℕ) (j : Job) → j.closed ≡ false → W ≤ j.used → 0 < body_left W j → phase W j ≡ Phase.Body
phase-body W j stands entered left = grind (arith, nat_tests)

left-holding : (c : Configuration) (past : List Entry) (x : ThreadId) → innermost_left c (held_by x past) ≡ 1 → is_holding (held_by x past) ≡ true
left-holding c past x one = grind (arith, nat_tests)

holder-body : (c : Configuration) (past : List Entry) (y : Thread) → ThreadsFit c past → HoldersFit c (length past) past → Has (threads c past) y → is_holder past y ≡ true
    → phase c.costs.switch (job c (length past) past y) ≡ Phase.Body
holder-body c past y fit inv has holding = grind (arith, nat_tests, same-row, Rising-some, row-nested, phase-body, holder-stands)

executes-by : (c : Configuration) (past : List Entry) (x : ThreadId) (choice : Choice) → ThreadsFit c past → HoldersFit c (length past) past
    → thread_of (label_of choice Work.Run) ≡ Some x → is_holding (held_by x past) ≡ true → Reason c past choice → choice ≡ Choice.Budget x Phase.Body
executes-by c past x choice fit inv is holding at = grind (arith, nat_tests, budget-labels, label-payer, holder-body, holder-rem, wishing-none, label-borrower, slack-labels)

pub last-tick-executes : (c : Configuration) (past : List Entry) → IsChecked c → Audited c past → HoldersFit c (length past) past → LastTickExecutes c past
last-tick-executes c past checked audited inv x is one =
    executes-by c past x (chosen c past) (threads-fit c past checked audited) inv is (left-holding c past x one) (chosen-reason c past)

-- whoever has the tick is a thread
thread-chosen : (c : Configuration) (past : List Entry) (choice : Choice) (work : Work) (x : ThreadId) → ChoiceHolds c past choice → thread_of (label_of choice work) ≡ Some x
    → (y : Thread) × Has (threads c past) y × (y.id ≡ x)
thread-chosen c past (Choice.Kernel k) work x holds own = absurd (cc)
thread-chosen c past (Choice.Budget y Phase.In) work x holds own = let e : y ≡ x = cc in (holds.thread, holds.among, holds.name ∙ e)
thread-chosen c past (Choice.Budget y Phase.Out) work x holds own = let e : y ≡ x = cc in (holds.thread, holds.among, holds.name ∙ e)
thread-chosen c past (Choice.Budget y Phase.Body) Work.Call x holds own = let e : y ≡ x = cc in (holds.thread, holds.among, holds.name ∙ e)
thread-chosen c past (Choice.Budget y Phase.Body) Work.Run x holds own = let e : y ≡ x = cc in (holds.thread, holds.among, holds.name ∙ e)
thread-chosen c past (Choice.Budget y Phase.Body) Work.In x holds own = let e : y ≡ x = cc in (holds.thread, holds.among, holds.name ∙ e)
thread-chosen c past (Choice.Slack y source Phase.In) work x holds own = let e : y ≡ x = cc in (holds.thread, holds.among, holds.name ∙ e)
thread-chosen c past (Choice.Slack y source Phase.Body) work x holds own = let e : y ≡ x = cc in (holds.thread, holds.among, holds.name ∙ e)
thread-chosen c past (Choice.Slack y source Phase.Out) work x holds own = let e : y ≡ x = cc in (holds.thread, holds.among, holds.name ∙ e)
thread-chosen c past Choice.Idle work x holds own = absurd (cc)

pub tick-thread : (c : Configuration) (past : List Entry) (label : Label) (x : ThreadId) → ChosenHolds c past → HasChosenLabel (chosen c past) label → thread_of label ≡ Some x
    → (y : Thread) × Has (threads c past) y × (y.id ≡ x)
tick-thread c past label x holds (inl run) own = thread-chosen c past (chosen c past) Work.Run x holds (ap thread_of (sym run) ∙ own)
tick-thread c past label x holds (inr call) own = thread-chosen c past (chosen c past) Work.Call x holds (ap thread_of (sym call) ∙ own)
