-- When a tick is idle.
use Rattle.std.specs.Prelude.{ℕ, ◌≡◌, ◌<◌, ◌≤◌, true, List, length, Some}
use Rattle.dk_config.specs.Configuration.{Configuration}
use Rattle.dk_trace.specs.declared.Choice.{Choice}
use Rattle.dk_trace.specs.declared.Entry.{Entry}
use Rattle.dk_trace.specs.Members.{Has}
use Rattle.dk_trace.specs.Threads.{Thread, threads}
use Rattle.dk_trace.specs.Jobs.{thread_rem, kernel_rem}
use Rattle.dk_trace.specs.Slack.{want, is_wishing}
use Rattle.dk_trace.specs.Demand.{fits}
use Rattle.dk_trace.specs.Choices.{choice_at, chosen}

-- nobody has anything left, and nobody asks for slack
pub record IsAtRest (c : Configuration) (past : List Entry) : Type 0 where
  pub kernel : (i : ℕ) → i < length c.levels → kernel_rem c (length past) past i ≡ 0
  pub shares : (x : Thread) → Has (threads c past) x → thread_rem c (length past) past x ≡ 0
  pub wishes : (x : Thread) → Has (threads c past) x → want c (length past) past x ≡ 0

-- A tick is idle exactly there.
abbrev pub IdleAtRest : Configuration → List Entry → Type 0
IdleAtRest c past =
    (chosen c past ≡ Choice.Idle → IsAtRest c past) × (IsAtRest c past → chosen c past ≡ Choice.Idle)

-- A thread that has used its share and asks is not passed over by an idle tick, and where slack fits only for its own level
-- or a faster one.
abbrev pub WishIsHeard : Configuration → List Entry → Type 0
WishIsHeard c past =
    (k : ℕ) (x : Thread) → k < length c.levels → Has (threads c past) x
    → is_wishing c (length past) past k x ≡ true
    → (chosen c past ≡ Choice.Idle → ⊥)
    × (fits c (length past) past ≡ true → (i : ℕ) × (i ≤ k) × (choice_at c past i ≡ Some (chosen c past)))
