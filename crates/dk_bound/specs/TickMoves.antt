-- What the tick of a choice does, before its event is known.
use Rattle.std.specs.Prelude.{ℕ, ◌≡◌, ◌+◌, ◌-◌, Bool, false, ◌==◌, nat_le, if◌then◌else◌, List, ◌∷◌, length, Option, Some, None}
use Rattle.std.specs.Option.{option_or, option_map_or}
use Rattle.dk_config.specs.Configuration.{Configuration}
use Rattle.dk_trace.specs.declared.Label.{Label}
use Rattle.dk_trace.specs.declared.Entry.{Entry}
use Rattle.dk_trace.specs.Members.{Has}
use Rattle.dk_trace.specs.Entries.{payer, thread_of, kernel_level, is_budget_of, is_kernel_at, quiet}
use Rattle.dk_trace.specs.Threads.{Thread, threads, family, share}
use Rattle.dk_trace.specs.Jobs.{job, thread_rem, kernel_rem}
use Rattle.dk_trace.specs.Holds.{thread_blocking, blocking}
use Rattle.dk_trace.specs.Demand.{own_demand, remaining_demand}
use Rattle.dk_trace.specs.Slack.{level_of}
use Rattle.dk_trace.specs.JobSteps.{spent}
use Rattle.dk_bound.specs.Moves.{BlockingFollows}

-- makes and stops nobody, and changes no share
pub record TickKeepsThreads (c : Configuration) (label : Label) (past : List Entry) : Type 0 where
  pub families : (p : ℕ) → family c p (quiet label ∷ past) ≡ family c p past
  pub threads : threads c (quiet label ∷ past) ≡ threads c past
  pub shares : (x : Thread) (s : ℕ) → share c (quiet label ∷ past) x s ≡ share c past x s

-- is a tick of the job of the thread whose budget pays for it, and of no other
abbrev pub TickSpends : Configuration → Label → List Entry → Type 0
TickSpends c label past =
    (x : Thread) → Has (threads c past) x
    → job c (length past) (quiet label ∷ past) x
    ≡ (if is_budget_of x.id (quiet label) then spent c.costs.switch (job c (length past) past x)
    else job c (length past) past x)

-- and leaves it one tick less
abbrev pub TickLowersRem : Configuration → Label → List Entry → Type 0
TickLowersRem c label past =
    (x : Thread) → Has (threads c past) x
    → thread_rem c (length past) (quiet label ∷ past) x + (if is_budget_of x.id (quiet label) then 1 else 0)
    ≡ thread_rem c (length past) past x

-- as it leaves the kernel's own work of its level
abbrev pub TickLowersKernel : Configuration → Label → List Entry → Type 0
TickLowersKernel c label past =
    (i : ℕ) → kernel_rem c (length past) (quiet label ∷ past) i + (if is_kernel_at i (quiet label) then 1 else 0)
    ≡ kernel_rem c (length past) past i

-- the level whose work has the tick: the kernel's own, or a thread's on its budget
abbrev pub working_level : List Thread → Label → Option ℕ
working_level xs label = option_or (kernel_level label) (option_map_or (level_of xs) (payer label) None)

-- 1 where there is such a level and it passes the test
abbrev pub worked : (ℕ → Bool) → List Thread → Label → ℕ
worked test xs label = if option_map_or test (working_level xs label) false then 1 else 0

-- That level has a tick less to do, and no other.
abbrev pub TickLowersOwn : Configuration → Label → List Entry → Type 0
TickLowersOwn c label past =
    (j : ℕ) → own_demand c (length past) (quiet label ∷ past) j + worked (λ i. i == j) (threads c past) label
    ≡ own_demand c (length past) past j

-- It and all slower ones need a tick less before their windows end, and no other.
abbrev pub TickLowersRemaining : Configuration → Label → List Entry → Type 0
TickLowersRemaining c label past =
    (j : ℕ) → remaining_demand c (length past) (quiet label ∷ past) j
    + worked (λ i. nat_le i j) (threads c past) label ≡ remaining_demand c (length past) past j

-- Whoever has the tick, on budget or on slack, keeps each level waiting a tick less, and nobody else does.
pub record TickMovesBlocking (c : Configuration) (label : Label) (past : List Entry) : Type 0 where
  pub follows : (x : Thread) → Has (threads c past) x → thread_of label ≡ Some x.id
      → BlockingFollows c past (quiet label ∷ past) x
  pub lowers : (x : Thread) (j : ℕ) → thread_of label ≡ Some x.id
      → thread_blocking c (quiet label ∷ past) j x ≡ thread_blocking c past j x - 1
  pub keeps : (j : ℕ) → thread_of label ≡ None → blocking c (quiet label ∷ past) j ≡ blocking c past j
