-- The first that anybody asks for is found by looking for work, and then for wishes of faster levels.
use Rattle.dk_dispatch.proofs.Names.{arith, inl, inr, ℕ, ◌≡◌, ◌<◌, ◌≤◌, ◌∙◌, true, false, List, [], Option, None, ap, refl, sym, subst, length, MatchOption, if◌then◌else◌, is_none, is_some, nat_lt, unwrap_or, option_or, cases_lt, first-at, first-none, none-of, Phase, Choice, queue_at, holder_at, RunsFirst, first_node, First, IsComputing, Tables, IsSound, node_in, HasNoWish, HasNoWork, budget_of, choice_in, choice_of, claims_in, claims_slack, first_worker, fits_in, kernel_left, loan_of, on_share, slack_in, work_in, asks-nothing, nobody-chosen, first_unfit, FirstWork, IsFirstWish, IsFirstWork}
use Rattle.std.proofs.Common.{slice_get}
use Rattle.std.specs.Prelude.{Some, option_map}

-- there is no work where neither the kernel, nor a holder, nor anybody ready is
pub no-work : (d : Tables) (k : ℕ) → kernel_left d k ≡ 0 → holder_at k d.mutexes ≡ None → queue_at d.jobs.ready.lists k ≡ [] → work_in d k ≡ None
no-work d k kernel holder queue =
    let worker : first_worker d k ≡ None =
    ap (λ o. option_or (option_map (node_in d.threads) o) (slice_get (queue_at d.jobs.ready.lists k) 0)) holder ∙ ap (λ (xs : List ℕ). slice_get xs 0) queue in
    ap (λ (n : ℕ). if nat_lt 0 n then Some (Choice.Kernel k) else option_map (budget_of d.jobs) (first_worker d k)) kernel ∙ ap (option_map (budget_of d.jobs)) worker

-- the first of the ready threads has the first work, at the level or before it, where it is the one that works there and the kernel and holders have none so far
works-at : (d : Tables) (first : First) (level : ℕ) → IsComputing d.jobs first → level ≤ first.level → ((k : ℕ) → k ≤ level → kernel_left d k ≡ 0)
    → ((k : ℕ) → k < level → holder_at k d.mutexes ≡ None) → first_worker d level ≡ Some first.node → IsSound d
    → IsFirstWork d (record { level = level; choice = Choice.Budget first.thread Phase.Body })
works-at d first level computes within kernel holders worker sound =
    let at = computes.stands in
    let queues = sound.queues in
    let parts = sound.kernel in
    let inside = at.known in
    let low : level < length d.kernel = omega (arith, queues, parts, inside, within) in
    let told : budget_of d.jobs first.node ≡ Choice.Budget first.thread Phase.Body =
    ap (on_share d.jobs first.node) computes.phase ∙ ap (λ x. Choice.Budget x Phase.Body) at.thread in
    record {
      within = omega (arith, low);
      before = λ k less. no-work d k (kernel k (omega (arith, less))) (holders k less) (at.before k (omega (arith, less, within)));
      there = λ below.
          ap (λ (n : ℕ). if nat_lt 0 n then Some (Choice.Kernel level) else option_map (budget_of d.jobs) (first_worker d level)) (kernel level (omega arith))
          ∙ ap (option_map (budget_of d.jobs)) worker
          ∙ ap Some told;
      nobody = λ end. absurd (omega (arith, low, end));
    }

-- it works at its own level where no holder does
pub first-works : (d : Tables) (first : First) → IsComputing d.jobs first → ((k : ℕ) → k ≤ first.level → kernel_left d k ≡ 0)
    → ((k : ℕ) → k ≤ first.level → holder_at k d.mutexes ≡ None) → IsSound d
    → IsFirstWork d (record { level = first.level; choice = Choice.Budget first.thread Phase.Body })
first-works d first computes kernel holders sound =
    let worker : first_worker d first.level ≡ Some first.node =
    ap (λ o. option_or (option_map (node_in d.threads) o) (slice_get (queue_at d.jobs.ready.lists first.level) 0)) (holders first.level (omega arith)) ∙ computes.stands.front in
    works-at d first first.level computes (omega arith) kernel (λ k less. holders k (omega (arith, less))) worker sound

-- and else at that of what it holds, on its own node
pub lead-works : (d : Tables) (first : First) (level : ℕ) → IsComputing d.jobs first → RunsFirst first.thread first.level level d.mutexes
    → ((k : ℕ) → k ≤ level → kernel_left d k ≡ 0) → first.node ≡ node_in d.threads first.thread → IsSound d
    → IsFirstWork d (record { level = level; choice = Choice.Budget first.thread Phase.Body })
lead-works d first level computes runs kernel node sound =
    let worker : first_worker d level ≡ Some first.node = elim runs.there [
      | inl holds ↦
          ap (λ o. option_or (option_map (node_in d.threads) o) (slice_get (queue_at d.jobs.ready.lists level) 0)) holds ∙ ap Some (sym node)
      | inr free ↦
          ap (λ o. option_or (option_map (node_in d.threads) o) (slice_get (queue_at d.jobs.ready.lists level) 0)) free.1
          ∙ ap (λ k. slice_get (queue_at d.jobs.ready.lists k) 0) free.0
          ∙ computes.stands.front
    ] in
    works-at d first level computes runs.within kernel runs.before worker sound

-- the first wish before all work is given slack where it fits
pub wish-chosen : (d : Tables) (k node : ℕ) → k < length d.kernel → ((j : ℕ) → j ≤ k → work_in d j ≡ None) → HasNoWish d k → first_node k d.slack.wishes ≡ Some node
    → fits_in d ≡ true → choice_of d ≡ loan_of d node
wish-chosen d k node within work wish here fits =
    let asked : choice_in d (fits_in d) k ≡ Some (loan_of d node) =
    ap (λ w. option_or w (if fits_in d then slack_in d k else None)) (work k (omega arith)) ∙ ap (λ b. if b then slack_in d k else None) fits ∙ ap (option_map (loan_of d)) here in
    ap (λ o. unwrap_or o Choice.Idle)
    (first-at (choice_in d (fits_in d)) k (length d.kernel) (loan_of d node) within
    (λ j less. asks-nothing d j (work j (omega (arith, less))) (λ (on : fits_in d ≡ true). wish j less)) asked)

-- and else the first work is done
pub work-chosen : (d : Tables) (k : ℕ) (choice : Choice) → k < length d.kernel → HasNoWork d k → (fits_in d ≡ true → HasNoWish d k) → work_in d k ≡ Some choice → choice_of d ≡ choice
work-chosen d k choice within work wish here =
    ap (λ o. unwrap_or o Choice.Idle)
    (first-at (choice_in d (fits_in d)) k (length d.kernel) choice within (λ j less. asks-nothing d j (work j less) (λ on. wish on j less))
    (ap (λ w. option_or w (if fits_in d then slack_in d k else None)) here))

-- slack is the first that is asked for exactly where a wish comes before all work
claims-nothing : (d : Tables) (k : ℕ) → work_in d k ≡ None → first_node k d.slack.wishes ≡ None → claims_in d k ≡ None
claims-nothing d k work wish =
    ap (λ w. option_or (option_map (λ (choice : Choice). false) w) (option_map (λ (node : ℕ). true) (first_node k d.slack.wishes))) work
    ∙ ap (option_map (λ (node : ℕ). true)) wish

pub wish-claims : (d : Tables) (k node : ℕ) → k < length d.kernel → ((j : ℕ) → j ≤ k → work_in d j ≡ None) → HasNoWish d k → first_node k d.slack.wishes ≡ Some node
    → claims_slack d ≡ true
wish-claims d k node within work wish here =
    let asked : claims_in d k ≡ Some true =
    ap (λ w. option_or (option_map (λ (choice : Choice). false) w) (option_map (λ (node : ℕ). true) (first_node k d.slack.wishes))) (work k (omega arith))
    ∙ ap (option_map (λ (node : ℕ). true)) here in
    ap (λ o. unwrap_or o false)
    (first-at (claims_in d) k (length d.kernel) true within (λ j less. claims-nothing d j (work j (omega (arith, less))) (wish j less)) asked)

pub work-claims : (d : Tables) (k : ℕ) (choice : Choice) → k < length d.kernel → HasNoWork d k → HasNoWish d k → work_in d k ≡ Some choice → claims_slack d ≡ false
work-claims d k choice within work wish here =
    let asked : claims_in d k ≡ Some false =
    ap (λ w. option_or (option_map (λ (choice : Choice). false) w) (option_map (λ (node : ℕ). true) (first_node k d.slack.wishes))) here in
    ap (λ o. unwrap_or o false) (first-at (claims_in d) k (length d.kernel) false within (λ j less. claims-nothing d j (work j less) (wish j less)) asked)

pub nobody-claims : (d : Tables) → HasNoWork d (length d.kernel) → HasNoWish d (length d.kernel) → claims_slack d ≡ false
nobody-claims d work wish =
    ap (λ o. unwrap_or o false) (first-none (claims_in d) (length d.kernel) (λ j less. claims-nothing d j (work j less) (wish j less)))

-- what is found answers who has the tick
pub slack-is-chosen : (d : Tables) (work : FirstWork) (node : ℕ) → IsFirstWork d work → IsFirstWish d work.level node → fits_in d ≡ true → choice_of d ≡ loan_of d node
slack-is-chosen d work node first wish fits =
    wish-chosen d wish.level node (omega (arith, wish.within, first.within)) (λ j less. first.before j (omega (arith, less, wish.within))) wish.before wish.there fits

pub work-is-chosen : (d : Tables) (work : FirstWork) → IsFirstWork d work → (fits_in d ≡ true → HasNoWish d work.level) → choice_of d ≡ work.choice
work-is-chosen d work first wish = elim (cases_lt work.level (length d.kernel)) [
  | inl low ↦ work-chosen d work.level work.choice low first.before wish (first.there low)
  | inr high ↦
      let end : work.level ≡ length d.kernel = omega (arith, high, first.within) in
      nobody-chosen d (subst (HasNoWork d) end first.before) (λ on. subst (HasNoWish d) end (wish on)) ∙ sym (first.nobody end)
]

-- and whether slack is the first that is asked for
pub is-claimed : (d : Tables) (work : FirstWork) (wish : Option ℕ) → IsFirstWork d work → MatchOption wish (HasNoWish d work.level) (IsFirstWish d work.level)
    → is_some wish ≡ claims_slack d
is-claimed d work (Some node) first wish =
    sym (wish-claims d wish.level node (omega (arith, wish.within, first.within)) (λ j less. first.before j (omega (arith, less, wish.within))) wish.before wish.there)
is-claimed d work None first wish = elim (cases_lt work.level (length d.kernel)) [
  | inl low ↦ sym (work-claims d work.level work.choice low first.before wish (first.there low))
  | inr high ↦
      let end : work.level ≡ length d.kernel = omega (arith, high, first.within) in
      sym (nobody-claims d (subst (HasNoWork d) end first.before) (subst (HasNoWish d) end wish))
]

pub fits-where-none : (d : Tables) (unfit : Option ℕ) → unfit ≡ first_unfit d.demand → is_some unfit ≡ false → fits_in d ≡ true
fits-where-none d unfit is none = ap is_none (sym is ∙ none-of unfit none)

pub unfit-where-some : (d : Tables) (unfit : Option ℕ) → unfit ≡ first_unfit d.demand → is_some unfit ≡ true → fits_in d ≡ false
unfit-where-some d unfit is some = ap is_none (sym is) ∙ go unfit some
  where
    go : (o : Option ℕ) → is_some o ≡ true → is_none o ≡ false
    go None on = absurd (cc)
    go (Some level) on = refl
