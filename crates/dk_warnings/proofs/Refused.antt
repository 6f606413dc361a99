-- Where the hold never fits, there is too little left of the share at each lock.
use Rattle.dk_warnings.proofs.Names.{ℕ, ◌≡◌, ◌+◌, ◌-◌, ◌*◌, ◌<◌, ◌≤◌, ◌⊎◌, inl, inr, Bool, true, false, cond, ltb, List, [], ◌∷◌, length, refl, sym, ap, ◌∙◌, subst, arith, ◌||◌, Option, Some, None, MatchOption, not, ◌&&◌, nat_le, cases_Bool, nat_tests, Configuration, IsChecked, longest_hold, window_start, is_user, ThreadId, Phase, Work, Label, Choice, Refusal, Event, Entry, is_same, thread_of, payer, borrower, is_budget_of, is_out_of, quiet, Thread, family, Job, job, phase, rem, body_left, thread_body_left, held_by, is_held, is_holding, innermost_left, chosen, lock_refusal, first_refusal, Audited, Follows, HasChosenLabel, MayHave, label_of, work_of, row_of, the_job, job-charged, find-has, RowFits, family-fits, same-id, same-self, budget-labels, slack-labels, HasCause, ChoosesWithCause, ThreadsPlaced, ChosenHolds, ChoiceHolds, Always, greatest_share, NeverFits, IsRefused, LocksRefused, NeverLocked}
use Rattle.dk_trace.proofs.Whose.{label-payer, label-borrower}
use Rattle.dk_warnings.proofs.GreatestShares.{lent-room, share-below}

-- the least of what is used before a lock on budget, and no body left before one on slack
abbrev pub IsLate : ℕ → Job → ℕ → Type 0
IsLate W job spent = ((W ≤ job.used) × (spent ≡ 1)) ⊎ (body_left W job ≡ 0)

pub in-body : (W : ℕ) (j : Job) → Phase.Body ≡ phase W j → W ≤ j.used
in-body W j is =
    elim (cases_Bool j.closed) [
      | inl shut ↦ let out : Phase.Body ≡ Phase.Out = is ∙ rw shut refl in absurd (cc)
      | inr stands ↦
          elim (cases_Bool (ltb j.used W)) [
            | inl early ↦ let out : Phase.Body ≡ Phase.In = is ∙ rw (stands, early) refl in absurd (cc)
            | inr late ↦ grind (arith, nat_tests)
          ]
    ]

none-left : (W : ℕ) (j : Job) → rem W j ≡ 0 → body_left W j ≡ 0
none-left W j none = grind (arith, nat_tests)

-- what is left of the body after the tick
left-after : (W : ℕ) (j : Job) (spent outs : ℕ) → IsLate W j spent → body_left W (the_job j.share (spent + j.used) outs j.closed) ≤ j.share - (2 * W + 1)
left-after W j spent outs is = grind (arith, nat_tests)

-- Whoever is in a call has done with the switch to it, or has nothing left.
late-by : (c : Configuration) (past : List Entry) (e : Entry) (x : ThreadId) (row : Thread) (choice : Choice) → HasCause c past choice
    → (label : Label) → (work : Work) → label ≡ label_of choice work → thread_of label ≡ Some x → work_of label ≡ Work.Call
    → row_of c past x ≡ Some row → row.id ≡ x → e.label ≡ label
    → IsLate c.costs.switch (job c (length past) past row) (cond (is_budget_of row.id (quiet label)) 1 0)
late-by c past e x row (Choice.Kernel i) cause label work is thread call found id same = let none : None ≡ Some x = sym (ap thread_of is) ∙ thread in absurd (cc)
late-by c past e x row Choice.Idle cause label work is thread call found id same = let none : None ≡ Some x = sym (ap thread_of is) ∙ thread in absurd (cc)
late-by c past e x row (Choice.Budget y Phase.In) cause label work is thread call found id same = let off : Work.In ≡ Work.Call = sym (ap work_of is) ∙ call in absurd (cc)
late-by c past e x row (Choice.Budget y Phase.Out) cause label work is thread call found id same = let off : Work.In ≡ Work.Call = sym (ap work_of is) ∙ call in absurd (cc)
late-by c past e x row (Choice.Budget y Phase.Body) cause label work is thread call found id same =
    let pays : payer label ≡ Some y = ap payer is ∙ (budget-labels y Phase.Body work).0 in
    let his : Some y ≡ Some x = sym (label-payer label y pays) ∙ thread in
    let him : y ≡ x = cc in
    let there : row_of c past x ≡ Some cause.row = subst (λ i. row_of c past i ≡ Some cause.row) him cause.found in
    let is_row : cause.row ≡ row = cc in
    let own : is_budget_of row.id (quiet label) ≡ true = rw pays (subst (λ i. is_same row.id i ≡ true) (id ∙ sym him) (same-self row.id)) in
    let next : Phase.Body ≡ phase c.costs.switch (job c (length past) past row) =
    subst (λ (r : Thread). Phase.Body ≡ phase c.costs.switch (job c (length past) past r)) is_row cause.phase in
    inl (in-body c.costs.switch (job c (length past) past row) next, rw own refl)
late-by c past e x row (Choice.Slack y source part) cause label work is thread call found id same =
    let lends : borrower label ≡ Some y = ap borrower is ∙ (slack-labels y source part work).1 in
    let his : Some y ≡ Some x = sym (label-borrower label y lends) ∙ thread in
    let him : y ≡ x = cc in
    let there : row_of c past x ≡ Some cause.row = subst (λ i. row_of c past i ≡ Some cause.row) him cause.found in
    let is_row : cause.row ≡ row = cc in
    inr (none-left c.costs.switch (job c (length past) past row)
    (subst (λ (r : Thread). rem c.costs.switch (job c (length past) past r) ≡ 0) is_row cause.none))

-- a label says what the thread did
late : (c : Configuration) (past : List Entry) (e : Entry) (x : ThreadId) (row : Thread) → ChoosesWithCause c past → HasChosenLabel (chosen c past) e.label
    → thread_of e.label ≡ Some x → work_of e.label ≡ Work.Call → row_of c past x ≡ Some row → row.id ≡ x
    → IsLate c.costs.switch (job c (length past) past row) (cond (is_budget_of row.id (quiet e.label)) 1 0)
late c past e x row cause (inl run) thread call found id = late-by c past e x row (chosen c past) cause e.label Work.Run run thread call found id refl
late c past e x row cause (inr calls) thread call found id = late-by c past e x row (chosen c past) cause e.label Work.Call calls thread call found id refl

-- so too little of the body is left
pub too-little : (c : Configuration) (past : List Entry) (e : Entry) (x : ThreadId) (row : Thread) (m : ℕ) → IsChecked c → Audited c past → ChoosesWithCause c past
    → x.process < length c.processes
    → HasChosenLabel (chosen c past) e.label → thread_of e.label ≡ Some x → work_of e.label ≡ Work.Call → row_of c past x ≡ Some row
    → NeverFits c x.process m → thread_body_left c (length past) (quiet e.label ∷ past) row < longest_hold c m
too-little c past e x row m checked audited cause known labelled thread call found never =
    let n = length past in
    let W = c.costs.switch in
    let j = job c n past row in
    let f = find-has (λ z. is_same x z.id) (family c x.process past) row found in
    let id : x ≡ row.id = same-id x row.id f.1 in
    let fits : RowFits c row = (family-fits c x.process past checked known audited).rows row f.0 in
    let lent = lent-room c x.process past audited row f.0 in
    let below : j.share ≤ greatest_share c row.id.process = share-below c past row (window_start c row.level n) checked fits lent in
    let most : j.share ≤ greatest_share c x.process = subst (λ (i : ThreadId). j.share ≤ greatest_share c i.process) (sym id) below in
    let budgets = checked.budgets x.process known in
    let left = left-after W j (cond (is_budget_of row.id (quiet e.label)) 1 0) (cond (is_out_of row.id (quiet e.label)) 1 0 + j.out_ticks)
    (late c past e x row cause labelled thread call found (sym id)) in
    let after : thread_body_left c n (quiet e.label ∷ past) row ≤ j.share - (2 * W + 1) = grind (arith, nat_tests, job-charged) in
    omega arith

-- the first reason that holds is one of the three
by-last : (a b d : Bool) → d ≡ true
    → let answer = first_refusal ((a, Refusal.NotUser) ∷ (b, Refusal.Holding) ∷ (d, Refusal.TooLittle) ∷ []) in
    (answer ≡ Some Refusal.NotUser) ⊎ (answer ≡ Some Refusal.Holding) ⊎ (answer ≡ Some Refusal.TooLittle)
by-last true b d h = inl refl
by-last false true d h = inr (inl refl)
by-last false false d h = inr (inr (rw h refl))

-- the process of whoever has the tick is there
process-by : (c : Configuration) (past : List Entry) (x : ThreadId) (choice : Choice) → ThreadsPlaced c past → ChoiceHolds c past choice
    → (label : Label) (work : Work) → label ≡ label_of choice work → thread_of label ≡ Some x → x.process < length c.processes
process-by c past x choice placed holds label work is thread = grind (arith, nat_tests, label-payer, budget-labels, label-borrower, slack-labels)

pub process-of : (c : Configuration) (past : List Entry) (e : Entry) (x : ThreadId) → ThreadsPlaced c past → ChosenHolds c past → HasChosenLabel (chosen c past) e.label
    → thread_of e.label ≡ Some x → x.process < length c.processes
process-of c past e x placed holds (inl run) thread = process-by c past x (chosen c past) placed holds e.label Work.Run run thread
process-of c past e x placed holds (inr calls) thread = process-by c past x (chosen c past) placed holds e.label Work.Call calls thread

pub refused : (c : Configuration) (past : List Entry) → IsChecked c → Audited c past → ChoosesWithCause c past → ChosenHolds c past → ThreadsPlaced c past
    → LocksRefused c past
refused c past checked audited cause holds placed e x row m labelled thread call found never =
    let n = length past in
    let known = process-of c past e x placed holds labelled thread in
    let less = too-little c past e x row m checked audited cause known labelled thread call found never in
    let little : ltb (thread_body_left c n (quiet e.label ∷ past) row) (longest_hold c m) ≡ true = grind (arith, nat_tests) in
    let held = held_by row.id (quiet e.label ∷ past) in
    by-last (not (is_user c m row.id.process)) (is_held m held)
    (ltb (thread_body_left c n (quiet e.label ∷ past) row) (longest_hold c m) || (is_holding held && nat_le (innermost_left c held) (longest_hold c m)))
    (rw little refl)

not-refused : (c : Configuration) (past : List Entry) (e : Entry) (row : Thread) (m : ℕ)
    → lock_refusal c (length past) (quiet e.label ∷ past) row m ≡ None → IsRefused c past e row m → ⊥
not-refused c past e row m none is = grind (arith, nat_tests)

-- a tick with the event of a call is one of a call
call-work : (work : Work) (m : ℕ) → MayHave work (Some (Event.Lock m)) → work ≡ Work.Call
call-work work m may = grind (arith, nat_tests)

pub met-lock : (c : Configuration) (past : List Entry) (e : Entry) (x : ThreadId) (m : ℕ) → Follows c past e → thread_of e.label ≡ Some x → e.event ≡ Some (Event.Lock m)
    → MatchOption (row_of c past x) ⊥ (λ row. lock_refusal c (length past) (quiet e.label ∷ past) row m ≡ None)
met-lock c past e x m follows thread is = grind (arith, nat_tests)

-- a lock that is done isn't refused
unrefused : (c : Configuration) (past : List Entry) (e : Entry) (x : ThreadId) (m : ℕ) (found : Option Thread) → row_of c past x ≡ found
    → MatchOption found ⊥ (λ row. lock_refusal c (length past) (quiet e.label ∷ past) row m ≡ None)
    → ((row : Thread) → row_of c past x ≡ Some row → IsRefused c past e row m) → ⊥
unrefused c past e x m found is met each = grind (arith, nat_tests, not-refused)

-- so it is with each entry of a list that follows the rules
pub never : Always ChoosesWithCause → Always ChosenHolds → Always ThreadsPlaced → Always NeverLocked
never causes holds placed c [] checked accepted audited = tt
never causes holds placed c (e ∷ past) checked accepted (older, follows) = grind (arith, nat_tests, unrefused, met-lock, refused, call-work, never causes holds placed c past checked accepted older)
