-- What the clock does: from a tick's entry, at its tick, to the next tick. Blocking doesn't depend on the clock.
use Rattle.std.specs.Prelude.{ℕ, ◌≡◌, ◌+◌, ◌*◌, ◌/◌, ◌<◌, Bool, true, false, ◌==◌, nat_le, if◌then◌else◌, List, ◌∷◌, length, sum_by}
use Rattle.dk_config.specs.Configuration.{Configuration}
use Rattle.dk_config.specs.Sums.{sum_from, sum_up_to}
use Rattle.dk_config.specs.Windows.{period, release, window_start}
use Rattle.dk_trace.specs.declared.Entry.{Entry}
use Rattle.dk_trace.specs.Members.{Has}
use Rattle.dk_trace.specs.Threads.{Thread, threads, family, share}
use Rattle.dk_trace.specs.Jobs.{job, thread_rem, kernel_rem}
use Rattle.dk_trace.specs.Demand.{own_demand, remaining_demand}
use Rattle.dk_bound.specs.Moves.{released, shares_to_come}

-- whether a window of level i begins at the tick
abbrev pub begins : Configuration → ℕ → ℕ → Bool
begins c i tick = window_start c i tick == tick

-- Of a level of which no window begins nothing moves, and what it needs stays also where windows of faster levels begin.
pub record ClockKeeps (c : Configuration) (e : Entry) (past : List Entry) : Type 0 where
  pub jobs : (x : Thread) → Has (threads c (e ∷ past)) x → begins c x.level (length (e ∷ past)) ≡ false
      → job c (length (e ∷ past)) (e ∷ past) x ≡ job c (length past) (e ∷ past) x
  pub kernel : (i : ℕ) → i < length c.levels → begins c i (length (e ∷ past)) ≡ false
      → kernel_rem c (length (e ∷ past)) (e ∷ past) i ≡ kernel_rem c (length past) (e ∷ past) i
  pub own : (j : ℕ) → j < length c.levels → begins c j (length (e ∷ past)) ≡ false
      → own_demand c (length (e ∷ past)) (e ∷ past) j ≡ own_demand c (length past) (e ∷ past) j
  pub remaining : (j : ℕ) → j < length c.levels → begins c j (length (e ∷ past)) ≡ false
      → remaining_demand c (length (e ∷ past)) (e ∷ past) j ≡ remaining_demand c (length past) (e ∷ past) j

-- Of a level of which a window begins at the next tick nothing is left.
pub record WindowsAreDone (c : Configuration) (e : Entry) (past : List Entry) : Type 0 where
  pub rems : (x : Thread) → Has (threads c (e ∷ past)) x → begins c x.level (length (e ∷ past)) ≡ true
      → thread_rem c (length past) (e ∷ past) x ≡ 0
  pub kernel : (i : ℕ) → i < length c.levels → begins c i (length (e ∷ past)) ≡ true
      → kernel_rem c (length past) (e ∷ past) i ≡ 0
  pub own : (j : ℕ) → j < length c.levels → begins c j (length (e ∷ past)) ≡ true
      → own_demand c (length past) (e ∷ past) j ≡ 0

-- the shares of the process's threads of levels up to j of the windows that start at the present tick
abbrev pub starting_shares : Configuration → List Entry → ℕ → ℕ → ℕ
starting_shares c past j p = sum_by (λ x. if nat_le x.level j then share c past x (length past) else 0)
    (family c p past)

-- Where a window of a level begins, also at tick 0, its jobs are fresh shares, it has all of the kernel's own work and of
-- its threads' shares to do, and the levels up to it need all that the kernel and the threads get in this window.
pub record WindowsRelease (c : Configuration) (past : List Entry) : Type 0 where
  pub jobs : (x : Thread) → Has (threads c past) x → begins c x.level (length past) ≡ true
      → job c (length past) past x ≡ released (share c past x (length past))
  pub kernel : (i : ℕ) → i < length c.levels → begins c i (length past) ≡ true
      → kernel_rem c (length past) past i ≡ release c i
  pub own : (j : ℕ) → j < length c.levels → begins c j (length past) ≡ true
      → own_demand c (length past) past j
      ≡ release c j + sum_by (λ x. if x.level == j then share c past x (length past) else 0) (threads c past)
  pub remaining : (j : ℕ) → j < length c.levels → begins c j (length past) ≡ true
      → remaining_demand c (length past) past j
      ≡ sum_up_to j (λ i. release c i * (period c j / period c i))
      + sum_from 0 (length c.processes) (λ p. starting_shares c past j p + shares_to_come c (length past) past j p)
