-- Two pasts that stand alike where all windows begin, and go on with the same entries, choose alike.
use Rattle.dk_repeat.proofs.Names.{ℕ, ◌≡◌, ◌+◌, ◌<◌, cond, ◌&&◌, eqb, ltb, List, ◌++◌, length, Option, Some, None, sym, ap, ◌∙◌, arith, length-append, find, filter, option_map, unwrap_or, option_or, Configuration, period, IsChecked, below, first_of, first-same, ThreadId, Phase, Choice, Entry, Thread, family, threads, Job, job, phase, thread_rem, kernel_rem, Hold, held_by, is_holding, level_holding, effective_level, fits, is_wishing, oldest, is_entering, source, chosen, holder_at}
use Rattle.dk_repeat.proofs.Since.{LevelsBegin}
use Rattle.dk_repeat.proofs.Pairs.{Pairs, Both, find-pairs, filter-pairs, both-or, both-map}
use Rattle.dk_repeat.proofs.Twins.{Twin, held-same, job-same, rem-same, kernel-same, threads-same, fits-same, entering-same, wishing-same, oldest-same, source-same}

-- the choice, with the tick that the windows are read at
abbrev works_now : Configuration → ℕ → List Entry → ℕ → Option Thread
works_now c now past k = option_or (holder_at c past k) (find (λ x. (eqb x.level k) && ltb 0 (thread_rem c now past x)) (threads c past))

abbrev work_now : Configuration → ℕ → List Entry → ℕ → Option Choice
work_now c now past k =
    cond (ltb 0 (kernel_rem c now past k)) (Some (Choice.Kernel k))
    (option_map (λ (x : Thread). Choice.Budget x.id (phase c.costs.switch (job c now past x))) (works_now c now past k))

abbrev wish_now : Configuration → ℕ → List Entry → ℕ → Option Thread
wish_now c now past k = oldest c now past (filter (is_wishing c now past k) (threads c past))

abbrev lend_now : Configuration → ℕ → List Entry → Thread → Choice
lend_now c now past x = Choice.Slack x.id (source c now past) (cond (is_entering c now past x) Phase.In Phase.Body)

abbrev slack_now : Configuration → ℕ → List Entry → ℕ → Option Choice
slack_now c now past k = cond (fits c now past) (option_map (lend_now c now past) (wish_now c now past k)) None

abbrev choice_now : Configuration → ℕ → List Entry → ℕ → Option Choice
choice_now c now past k = option_or (work_now c now past k) (slack_now c now past k)

abbrev chosen_now : Configuration → ℕ → List Entry → Choice
chosen_now c now past = unwrap_or (first_of (choice_now c now past) (below (length c.levels))) Choice.Idle

module _ (c : Configuration) (one other : List Entry) (begins : LevelsBegin c (length one)) (begins' : LevelsBegin c (length other))
    (held : (x : ThreadId) → held_by x one ≡ held_by x other) (checked : IsChecked c)
    (new : List Entry)
    (rows : (p : ℕ) → p < length c.processes → Pairs (Twin c (length one) (length other)) (family c p (new ++ one)) (family c p (new ++ other))) where
  abbrev Twins : Thread → Thread → Type 0
  Twins x y = Twin c (length one) (length other) x y

  abbrev d : ℕ
  d = length new

  level-same : (x y : Thread) → Twins x y → x.level ≡ y.level
  level-same x y t = ap (λ r. r.level) t.same

  all-same : Pairs Twins (threads c (new ++ one)) (threads c (new ++ other))
  all-same = threads-same c one other begins begins' held checked new rows d

  holder-same : (k : ℕ) → Both Twins (holder_at c (new ++ one) k) (holder_at c (new ++ other) k)
  holder-same k =
      find-pairs Twins (λ x. is_holding (held_by x.id (new ++ one)) && (eqb (effective_level c (new ++ one) x) k))
      (λ y. is_holding (held_by y.id (new ++ other)) && (eqb (effective_level c (new ++ other) y) k)) (threads c (new ++ one)) (threads c (new ++ other)) all-same
      (λ x y t.
      let h : held_by x.id (new ++ one) ≡ held_by y.id (new ++ other) = held-same x.id one other new (held x.id) ∙ ap (λ r. held_by r.id (new ++ other)) t.same in
      ap (λ (hs : List Hold). is_holding hs && (eqb (level_holding c x.level hs) k)) h
      ∙ ap (λ i. is_holding (held_by y.id (new ++ other)) && (eqb (level_holding c i (held_by y.id (new ++ other))) k)) (level-same x y t))

  works-same : (k : ℕ) → Both Twins (works_now c (d + length one) (new ++ one) k) (works_now c (d + length other) (new ++ other) k)
  works-same k =
      both-or Twins (holder_at c (new ++ one) k) (holder_at c (new ++ other) k)
      (find (λ x. (eqb x.level k) && ltb 0 (thread_rem c (d + length one) (new ++ one) x)) (threads c (new ++ one)))
      (find (λ y. (eqb y.level k) && ltb 0 (thread_rem c (d + length other) (new ++ other) y)) (threads c (new ++ other)))
      (holder-same k)
      (find-pairs Twins (λ x. (eqb x.level k) && ltb 0 (thread_rem c (d + length one) (new ++ one) x))
      (λ y. (eqb y.level k) && ltb 0 (thread_rem c (d + length other) (new ++ other) y)) (threads c (new ++ one)) (threads c (new ++ other)) all-same
      (λ x y t.
      ap (λ n. (eqb x.level k) && ltb 0 n) (rem-same c one other begins begins' held checked new rows d x y t)
      ∙ ap (λ i. (eqb i k) && ltb 0 (thread_rem c (d + length other) (new ++ other) y)) (level-same x y t)))

  work-same : (k : ℕ) → 0 < period c k → work_now c (d + length one) (new ++ one) k ≡ work_now c (d + length other) (new ++ other) k
  work-same k positive =
      ap (λ n. cond (ltb 0 n) (Some (Choice.Kernel k))
      (option_map (λ (x : Thread). Choice.Budget x.id (phase c.costs.switch (job c (d + length one) (new ++ one) x))) (works_now c (d + length one) (new ++ one) k)))
      (kernel-same c one other begins begins' held checked new rows d k positive)
      ∙ ap (λ o. cond (ltb 0 (kernel_rem c (d + length other) (new ++ other) k)) (Some (Choice.Kernel k)) o)
      (both-map Twins (λ (x : Thread). Choice.Budget x.id (phase c.costs.switch (job c (d + length one) (new ++ one) x)))
      (λ (y : Thread). Choice.Budget y.id (phase c.costs.switch (job c (d + length other) (new ++ other) y)))
      (works_now c (d + length one) (new ++ one) k) (works_now c (d + length other) (new ++ other) k) (works-same k)
      (λ x y t.
      ap (λ (j : Job). Choice.Budget x.id (phase c.costs.switch j)) (job-same c one other begins begins' held checked new rows d x y t)
      ∙ ap (λ r. Choice.Budget r.id (phase c.costs.switch (job c (d + length other) (new ++ other) y))) t.same))

  wish-same : (k : ℕ) → Both Twins (wish_now c (d + length one) (new ++ one) k) (wish_now c (d + length other) (new ++ other) k)
  wish-same k =
      oldest-same c one other begins begins' held checked new rows d (filter (is_wishing c (d + length one) (new ++ one) k) (threads c (new ++ one)))
      (filter (is_wishing c (d + length other) (new ++ other) k) (threads c (new ++ other)))
      (filter-pairs Twins (is_wishing c (d + length one) (new ++ one) k) (is_wishing c (d + length other) (new ++ other) k) (threads c (new ++ one)) (threads c (new ++ other)) all-same
      (λ x y t. wishing-same c one other begins begins' held checked new rows d k x y t))

  lend-same : (x y : Thread) → Twins x y → lend_now c (d + length one) (new ++ one) x ≡ lend_now c (d + length other) (new ++ other) y
  lend-same x y t =
      ap (λ s. Choice.Slack x.id s (cond (is_entering c (d + length one) (new ++ one) x) Phase.In Phase.Body)) (source-same c one other begins begins' held checked new rows d)
      ∙ ap (λ b. Choice.Slack x.id (source c (d + length other) (new ++ other)) (cond b Phase.In Phase.Body)) (entering-same c one other begins begins' held checked new rows d x y t)
      ∙ ap (λ r. Choice.Slack r.id (source c (d + length other) (new ++ other)) (cond (is_entering c (d + length other) (new ++ other) y) Phase.In Phase.Body)) t.same

  slack-same : (k : ℕ) → slack_now c (d + length one) (new ++ one) k ≡ slack_now c (d + length other) (new ++ other) k
  slack-same k =
      ap (λ b. cond b (option_map (lend_now c (d + length one) (new ++ one)) (wish_now c (d + length one) (new ++ one) k)) None)
      (fits-same c one other begins begins' held checked new rows d)
      ∙ ap (λ o. cond (fits c (d + length other) (new ++ other)) o None)
      (both-map Twins (lend_now c (d + length one) (new ++ one)) (lend_now c (d + length other) (new ++ other))
      (wish_now c (d + length one) (new ++ one) k) (wish_now c (d + length other) (new ++ other) k) (wish-same k) lend-same)

  choice-same : (k : ℕ) → 0 < period c k → choice_now c (d + length one) (new ++ one) k ≡ choice_now c (d + length other) (new ++ other) k
  choice-same k positive =
      ap (λ o. option_or o (slack_now c (d + length one) (new ++ one) k)) (work-same k positive)
      ∙ ap (option_or (work_now c (d + length other) (new ++ other) k)) (slack-same k)

  pub chosen-same : chosen c (new ++ one) ≡ chosen c (new ++ other)
  chosen-same =
      ap (λ n. chosen_now c n (new ++ one)) (length-append new one)
      ∙ ap (λ o. unwrap_or o Choice.Idle)
      (first-same (choice_now c (d + length one) (new ++ one)) (choice_now c (d + length other) (new ++ other)) 0 (length c.levels)
      (λ j less. choice-same j (checked.positive j (omega (arith, less)))))
      ∙ sym (ap (λ n. chosen_now c n (new ++ other)) (length-append new other))
