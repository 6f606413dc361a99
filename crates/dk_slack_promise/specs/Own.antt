-- What a thread has of its own window: its share, and the allotment that it asks for.
use Rattle.std.specs.Prelude.{ℕ, ◌≡◌, ◌+◌, ◌%◌, ◌<◌, ◌≤◌, ◌⊎◌, false, List, length}
use Rattle.dk_config.specs.Configuration.{Configuration}
use Rattle.dk_config.specs.Windows.{period, main_level}
use Rattle.dk_trace.specs.declared.Entry.{Entry}
use Rattle.dk_trace.specs.Entries.{window}
use Rattle.dk_trace.specs.Members.{Has}
use Rattle.dk_trace.specs.Threads.{Thread, threads, share}
use Rattle.dk_trace.specs.Jobs.{is_closed}
use Rattle.dk_trace.specs.Slack.{last_request, want}
use Rattle.dk_trace.specs.Guarantees.{past_at, job_from}
use Rattle.dk_slack_promise.specs.Long.{is_lent_to, counted_from}
use Rattle.dk_slack_promise.specs.Allotted.{IsAllotted, KeepsTo}

-- the entries up to the end of the window of level i that starts at r
abbrev pub ended_at : Configuration → List Entry → ℕ → ℕ → List Entry
ended_at c past i r = past_at past (r + period c i)

-- All keep to allotments that hold, and a window of the level of process p has ended, with thread x of the process and the
-- level in it.
pub record IsOwnWindow (c : Configuration) (past : List Entry) (s : ℕ → ℕ) (p r : ℕ) (x : Thread) : Type 0 where
  pub known : p < length c.processes
  pub fit : IsAllotted c s
  pub keeps : KeepsTo c s past
  pub begins : r % period c (main_level c p) ≡ 0
  pub ended : r + period c (main_level c p) ≤ length past
  pub among : Has (threads c (ended_at c past (main_level c p) r)) x
  pub process : x.id.process ≡ p
  pub level : x.level ≡ main_level c p

-- Then the process was lent its allotment in the window, or the thread asks for nothing more at its end: nothing that it asked
-- for in a window, up to the allotment, is left where the window ends.
abbrev pub WishesMet : Configuration → List Entry → Type 0
WishesMet c past =
    (s : ℕ → ℕ) (p r : ℕ) (x : Thread) → IsOwnWindow c past s p r x
    → (s p ≤ counted_from (is_lent_to p) c past (main_level c p) r)
    ⊎ (want c r (ended_at c past (main_level c p) r) x ≡ 0)

-- And where the thread neither waited nor was stopped in the window, and last asked in it for at least the allotment, it had
-- its whole share of the window, and its process was lent the allotment or more in it.
abbrev pub OwnAllotted : Configuration → List Entry → Type 0
OwnAllotted c past =
    (s : ℕ → ℕ) (p r : ℕ) (x : Thread) → IsOwnWindow c past s p r x
    → let i = main_level c p in
    let ended = ended_at c past i r in
    is_closed c r ended x ≡ false
    → s p ≤ (last_request x.id (window c r ended i)).amount
    → ((job_from c past x r).used ≡ share c (past_at past r) x r) × (s p ≤ counted_from (is_lent_to p) c past i r)
