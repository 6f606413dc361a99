-- The rules of choice with other threads, another share, or another rest of a share.
use Rattle.dk_bound.proofs.Names.{ℕ, ◌≡◌, ◌+◌, ◌-◌, ◌==◌, ◌&&◌, Bool, true, List, length, refl, Option, Some, None, if◌then◌else◌, nat_lt, nat_le, sum_by, find, filter, option_map, unwrap_or, list_all, option_or, Configuration, below, first_of, sum_up_to, window_start, window_end, Choice, Entry, Thread, threads, share, Job, job, rem, phase, kernel_rem, blocking, want, oldest, sum_starts, kernel_demand, chosen, holder_at, on_slack}
use Rattle.dk_bound.proofs.Replay.{Chooser}

pub record Variant : Type 0 where
  pub threads_of : Configuration → List Entry → List Thread
  pub share_of : Configuration → List Entry → Thread → ℕ → ℕ
  pub rem_of : ℕ → Job → ℕ

abbrev pub right : Variant
right = record { threads_of = threads; share_of = share; rem_of = rem }

abbrev job_by : Variant → Configuration → List Entry → Thread → Job
job_by v c past x =
    let own = job c (length past) past x in
    record { share = v.share_of c past x (window_start c x.level (length past)); used = own.used; out_ticks = own.out_ticks; closed = own.closed }

abbrev rem_by : Variant → Configuration → List Entry → Thread → ℕ
rem_by v c past x = v.rem_of c.costs.switch (job_by v c past x)

abbrev own_by : Variant → Configuration → List Entry → ℕ → ℕ
own_by v c past j = kernel_rem c (length past) past j + sum_by (λ x. if x.level == j then rem_by v c past x else 0) (v.threads_of c past)

abbrev demand_by : Variant → Configuration → List Entry → ℕ → ℕ → ℕ
demand_by v c past before j =
    sum_up_to j (kernel_demand c (length past) past before)
    + sum_by
    (λ x. if nat_le x.level j then rem_by v c past x + sum_starts c x.level (length past) before (v.share_of c past x) else 0)
    (v.threads_of c past)

abbrev fits_by : Variant → Configuration → List Entry → Bool
fits_by v c past =
    let fits_at = λ (j : ℕ). let before = window_end c j (length past) in
    if own_by v c past j == 0 then true else nat_le (demand_by v c past before j + blocking c past j + 1) (before - length past) in
    list_all fits_at (below (length c.levels))

abbrev work_by : Variant → Configuration → List Entry → ℕ → Option Choice
work_by v c past k =
    let ready = find (λ x. (x.level == k) && nat_lt 0 (rem_by v c past x)) (v.threads_of c past) in
    if nat_lt 0 (kernel_rem c (length past) past k) then Some (Choice.Kernel k)
    else option_map (λ x. Choice.Budget x.id (phase c.costs.switch (job_by v c past x))) (option_or (holder_at c past k) ready)

abbrev slack_by : Variant → Configuration → List Entry → ℕ → Option Choice
slack_by v c past k =
    let wishes = λ (x : Thread). (x.level == k) && (rem_by v c past x == 0) && nat_lt 0 (want c (length past) past x) in
    if fits_by v c past then option_map (on_slack c past) (oldest c (length past) past (filter wishes (v.threads_of c past))) else None

abbrev pub chosen_under : Variant → Chooser
chosen_under v c past =
    unwrap_or (first_of (λ k. option_or (work_by v c past k) (slack_by v c past k)) (below (length c.levels))) Choice.Idle

right-variant : (c : Configuration) (past : List Entry) → chosen_under right c past ≡ chosen c past
right-variant c past = refl
