-- What two configurations that give a process the same budget, or a greater one, leave the same of its ticks.
use Rattle.dk_impact.proofs.Names.{ℕ, suc, ◌≡◌, ◌-◌, ◌<◌, ◌≤◌, ◌⊎◌, inl, inr, Bool, true, false, cond, ◌&&◌, ltb, List, ◌∷◌, Some, refl, sym, ap, ◌∙◌, subst, arith, Configuration, budget, Phase, Work, Choice, Label, Event, Refusal, Entry, label_of, does, has_event, is_of, Job, rem, phase, body_left, main_id, main_row, the_job, job-charged, quiet_entry, alone, own, booked, ReadsNoBudget, is_for_want, nat_tests}
use Rattle.dk_impact.proofs.Seen.{Whose, charged, charged-same, left_in}

-- two jobs, of a budget and of another
pub record JobsAlike (B B' : ℕ) (j j' : Job) : Type 0 where
  pub used : j.used ≡ j'.used
  pub out_ticks : j.out_ticks ≡ j'.out_ticks
  pub closed : j.closed ≡ j'.closed
  pub shares : ((j.share ≡ 0) × (j'.share ≡ 0)) ⊎ ((j.share ≡ B) × (j'.share ≡ B'))

same-jobs : (j j' : Job) → j.share ≡ j'.share → j.used ≡ j'.used → j.out_ticks ≡ j'.out_ticks → j.closed ≡ j'.closed → j ≡ j'
same-jobs j j' share used outs shut = by j.share j'.share j.used j'.used j.out_ticks j'.out_ticks j.closed j'.closed share used outs shut
  where
    by : (s s' u u' o o' : ℕ) (k k' : Bool) → s ≡ s' → u ≡ u' → o ≡ o' → k ≡ k' → the_job s u o k ≡ the_job s' u' o' k'
    by s s' u u' o o' k k' a b d e = cc

equal-budgets : (B B' : ℕ) (j j' : Job) → B ≡ B' → JobsAlike B B' j j' → j ≡ j'
equal-budgets B B' j j' is alike = same-jobs j j' share alike.used alike.out_ticks alike.closed
  where
    share : j.share ≡ j'.share
    share = elim alike.shares [ inl none ↦ none.0 ∙ sym none.1 | inr whole ↦ whole.0 ∙ is ∙ sym whole.1 ]

no-less : (B B' : ℕ) (j j' : Job) → B ≤ B' → JobsAlike B B' j j' → j.share ≤ j'.share
no-less B B' j j' more alike =
    elim alike.shares [
      | inl none ↦ let one = none.0 in omega (arith, one)
      | inr whole ↦ let one = whole.0 in let other = whole.1 in omega (arith, one, other, more)
    ]

-- the second as the first but for the share
other-job : (B B' : ℕ) (j j' : Job) → JobsAlike B B' j j' → the_job j'.share j.used j.out_ticks j.closed ≡ j'
other-job B B' j j' alike = same-jobs (the_job j'.share j.used j.out_ticks j.closed) j' refl alike.used alike.out_ticks alike.closed

-- the job is over, or has no share, or has more left of it than the last part
abbrev pub HasRoom : ℕ → Job → Type 0
HasRoom W j = (j.closed ≡ true) ⊎ ((j.share ≡ 0) ⊎ (j.used < j.share - W))

abbrev pub Room : ℕ → ℕ → ℕ → Job → Type 0
Room W B B' j = (B ≡ B') ⊎ (((0 < B) × (B ≤ B')) × HasRoom W j)

works-more : (W s s' u o : ℕ) (shut : Bool) → s ≤ s' → HasRoom W (the_job s u o shut) → 0 < rem W (the_job s u o shut)
    → (0 < rem W (the_job s' u o shut)) × (phase W (the_job s u o shut) ≡ phase W (the_job s' u o shut))
works-more W s s' u o true more room some = (some, refl)
works-more W s s' u o false more (inl shut) some = cc
works-more W s s' u o false more (inr (inl none)) some = let left : 0 < s - u = some in absurd (omega (arith, left, none))
works-more W s s' u o false more (inr (inr less)) some =
    let left : 0 < s' - u = omega (arith, less, more) in
    (left, ap (λ b. cond (ltb u W) Phase.In (cond b Phase.Body Phase.Out)) (both less (omega (arith, less, more))))
  where
    both : u < s - W → u < s' - W → ltb u (s - W) ≡ ltb u (s' - W)
    both one other = grind (arith, nat_tests)

pub works-alike : (W B B' : ℕ) (j j' : Job) → Room W B B' j → JobsAlike B B' j j' → 0 < rem W j → (0 < rem W j') × (phase W j ≡ phase W j')
works-alike W B B' j j' (inl is) alike some =
    let same = equal-budgets B B' j j' is alike in
    (subst (λ i. 0 < rem W i) same some, ap (phase W) same)
works-alike W B B' j j' (inr more) alike some =
    let both = works-more W j.share j'.share j.used j.out_ticks j.closed (no-less B B' j j' more.0.1 alike) more.1 some in
    subst (λ i. (0 < rem W i) × (phase W j ≡ phase W i)) (other-job B B' j j' alike) both

rests-more : (W s s' u o : ℕ) (shut : Bool) → (s ≡ 0 → s' ≡ 0) → HasRoom W (the_job s u o shut) → rem W (the_job s u o shut) ≡ 0 → rem W (the_job s' u o shut) ≡ 0
rests-more W s s' u o true zeros room none = none
rests-more W s s' u o false zeros (inl shut) none = cc
rests-more W s s' u o false zeros (inr (inl empty)) none = let is = zeros empty in let goal : s' - u ≡ 0 = omega (arith, is) in goal
rests-more W s s' u o false zeros (inr (inr less)) none = let over : s - u ≡ 0 = none in absurd (omega (arith, over, less))

pub rests-alike : (W B B' : ℕ) (j j' : Job) → Room W B B' j → JobsAlike B B' j j' → rem W j ≡ 0 → rem W j' ≡ 0
rests-alike W B B' j j' (inl is) alike none = subst (λ i. rem W i ≡ 0) (equal-budgets B B' j j' is alike) none
rests-alike W B B' j j' (inr more) alike none =
    subst (λ i. rem W i ≡ 0) (other-job B B' j j' alike) (rests-more W j.share j'.share j.used j.out_ticks j.closed zeros more.1 none)
  where
    zeros : j.share ≡ 0 → j'.share ≡ 0
    zeros empty =
        elim alike.shares [
          | inl both ↦ both.1
          | inr whole ↦ let one = whole.0 in let some = more.0.0 in absurd (omega (arith, one, some, empty))
        ]

-- what a tick of the process by itself shows where its budget may be greater: there is room before it and after it, and it refuses no
-- lock for which too little is left
pub record Enough (c : Configuration) (p : ℕ) (program : List ℕ) (n : ℕ) : Type 0 where
  pub room : HasRoom c.costs.switch (own c p (alone c p program n).past).job
  pub asks : (e : Entry) → (alone c p program (suc n)).past ≡ e ∷ (alone c p program n).past → does is_for_want (main_id p) e ≡ false
  pub later : (e : Entry) → (alone c p program (suc n)).past ≡ e ∷ (alone c p program n).past → HasRoom c.costs.switch (booked c p e (alone c p program n).past).job

-- the budgets are the same, or the other is greater and the tick doesn't show it
abbrev pub Budgets : Configuration → ℕ → Configuration → ℕ → List ℕ → ℕ → Type 0
Budgets c p c' p' program n =
    (budget c p ≡ budget c' p') ⊎ (((0 < budget c p) × (budget c p ≤ budget c' p')) × ReadsNoBudget program × Enough c p program n)

pub room-of : (c : Configuration) (p : ℕ) (c' : Configuration) (p' : ℕ) (program : List ℕ) (n : ℕ) → Budgets c p c' p' program n
    → Room c.costs.switch (budget c p) (budget c' p') (own c p (alone c p program n).past).job
room-of c p c' p' program n (inl is) = inl is
room-of c p c' p' program n (inr more) = inr (more.0, more.2.room)

pub room-after : (c : Configuration) (p : ℕ) (c' : Configuration) (p' : ℕ) (program : List ℕ) (n : ℕ) → Budgets c p c' p' program n
    → (e : Entry) → (alone c p program (suc n)).past ≡ e ∷ (alone c p program n).past
    → Room c.costs.switch (budget c p) (budget c' p') (booked c p e (alone c p program n).past).job
room-after c p c' p' program n (inl is) e at = inl is
room-after c p c' p' program n (inr more) e at = inr (more.0, more.2.later e at)

body-left-more : (W s s' u o o' : ℕ) (shut : Bool) → s ≤ s' → body_left W (the_job s u o shut) ≤ body_left W (the_job s' u o' shut)
body-left-more W s s' u o o' true more = omega arith
body-left-more W s s' u o o' false more = let goal : s - u - W ≤ s' - u - W = omega (arith, more) in goal

charged-more : (W B B' p p' : ℕ) (label label' : Label) (j j' : Job) → Whose p p' label label' → B ≤ B' → JobsAlike B B' j j'
    → body_left W (charged p label j) ≤ body_left W (charged p' label' j')
charged-more W B B' p p' label label' j j' whose more alike =
    subst (λ i. body_left W (charged p label j) ≤ body_left W i)
    (ap (charged p label) (other-job B B' j j' alike) ∙ charged-same p p' label label' j' whose)
    (body-left-more W j.share j'.share (charged p label j).used (charged p label j).out_ticks (charged p label j).out_ticks j.closed (no-less B B' j j' more alike))

-- what is left in a tick with the label is the same, or there is no less of it
pub left-by : (c c' : Configuration) (p p' : ℕ) (program : List ℕ) → c.costs.switch ≡ c'.costs.switch → (one other : List Entry) (n : ℕ) (label label' : Label)
    → Whose p p' label label' → JobsAlike (budget c p) (budget c' p') (own c p one).job (own c' p' other).job → Budgets c p c' p' program n
    → (left_in c p label one ≡ left_in c' p' label' other)
    ⊎ ((left_in c p label one ≤ left_in c' p' label' other) × ReadsNoBudget program
    × ((e : Entry) → (alone c p program (suc n)).past ≡ e ∷ (alone c p program n).past → does is_for_want (main_id p) e ≡ false))
left-by c c' p p' program switch one other n label label' whose jobs budgets = by budgets
  where
    mine : left_in c p label one ≡ body_left c.costs.switch (charged p label (own c p one).job)
    mine = ap (body_left c.costs.switch) (job-charged c label one (main_row c p one))

    theirs : left_in c' p' label' other ≡ body_left c.costs.switch (charged p' label' (own c' p' other).job)
    theirs = ap (body_left c'.costs.switch) (job-charged c' label' other (main_row c' p' other)) ∙ ap (λ k. body_left k (charged p' label' (own c' p' other).job)) (sym switch)

    by : Budgets c p c' p' program n
        → (left_in c p label one ≡ left_in c' p' label' other)
        ⊎ ((left_in c p label one ≤ left_in c' p' label' other) × ReadsNoBudget program
        × ((e : Entry) → (alone c p program (suc n)).past ≡ e ∷ (alone c p program n).past → does is_for_want (main_id p) e ≡ false))
    by (inl is) =
        inl (mine ∙ ap (λ j. body_left c.costs.switch (charged p label j)) (equal-budgets (budget c p) (budget c' p') (own c p one).job (own c' p' other).job is jobs)
        ∙ ap (body_left c.costs.switch) (charged-same p p' label label' (own c' p' other).job whose) ∙ sym theirs)
    by (inr more) =
        let less = charged-more c.costs.switch (budget c p) (budget c' p') p p' label label' (own c p one).job (own c' p' other).job whose more.0.1 jobs in
        inr (omega (arith, mine, theirs, less), more.1, more.2.asks)

body-mine : (p : ℕ) (work : Work) → is_of (main_id p) (quiet_entry (label_of (Choice.Budget (main_id p) Phase.Body) work)) ≡ true
body-mine p work = grind (arith, nat_tests)

-- a refusal for want is seen in the main's entry
pub told-want : (p : ℕ) (e : Entry) (work : Work) → e.label ≡ label_of (Choice.Budget (main_id p) Phase.Body) work → e.event ≡ Some (Event.Refused Refusal.TooLittle)
    → does is_for_want (main_id p) e ≡ false → ⊥
told-want p e work label event none =
    let of : is_of (main_id p) e ≡ true = ap (λ l. is_of (main_id p) (quiet_entry l)) label ∙ body-mine p work in
    let told : has_event is_for_want e ≡ true = ap (λ o. has_event is_for_want (record { label = e.label; event = o })) event in
    both (is_of (main_id p) e) (has_event is_for_want e) of told none
  where
    both : (a b : Bool) → a ≡ true → b ≡ true → (a && b) ≡ false → ⊥
    both a b one other not_both = grind (arith, nat_tests)
