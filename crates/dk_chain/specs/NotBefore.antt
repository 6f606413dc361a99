-- A main doesn't have its ticks sooner than the kernel's own work lets it.
use Rattle.std.specs.Prelude.{ℕ, ◌≡◌, ◌+◌, ◌%◌, ◌<◌, ◌≤◌, false, List, length}
use Rattle.dk_config.specs.Configuration.{Configuration}
use Rattle.dk_config.specs.Windows.{main_level, budget}
use Rattle.dk_trace.specs.declared.Entry.{Entry}
use Rattle.dk_trace.specs.Threads.{main_thread}
use Rattle.dk_trace.specs.Audit.{Audited}
use Rattle.dk_trace.specs.Guarantees.{past_at, job_from}
use Rattle.dk_when.specs.Earliest.{HasRoom, MayHave, may_hold_off}
use Rattle.dk_chain.specs.Chain.{window_length}

-- some number of ticks up to f, and up to a whole window of p, has room for k ticks of its main
pub record HasRoomBy (c : Configuration) (p k f : ℕ) : Type 0 where
  pub by : ℕ
  pub early : by ≤ f
  pub within : by ≤ window_length c p
  pub room : HasRoom c p k by

-- Where a main has had k ticks of its window that starts at s, so many ticks of the window are over as have room for them.
abbrev pub NotBefore : Configuration → List Entry → Type 0
NotBefore c past =
    (p s f k : ℕ) → p < length c.processes → s % window_length c p ≡ 0 → s + f ≤ length past → 0 < k
    → k ≤ (job_from c (past_at past (s + f)) (main_thread c p) s).used → HasRoomBy c p k f

-- no thread of p may hold off the kernel's own work of a level up to its own
abbrev pub NeverHoldsOff : Configuration → ℕ → Type 0
NeverHoldsOff c p = (i : ℕ) → i ≤ main_level c p → may_hold_off c p i ≡ false

-- There is a list of entries that follows the rules and ends after f ticks of a window of p, in which its main has had k ticks of it.
pub record CanHave (c : Configuration) (p k f : ℕ) : Type 0 where
  pub past : List Entry
  pub audited : Audited c past
  pub start : ℕ
  pub begins : start % window_length c p ≡ 0
  pub ticks : length past ≡ start + f
  pub had : k ≤ (job_from c past (main_thread c p) start).used

-- The bound is met: as soon as there is room for k ticks, and for no more than its budget, the main can have had them.
abbrev pub SoonestIsMet : Configuration → Type 0
SoonestIsMet c =
    (p k f : ℕ) → p < length c.processes → NeverHoldsOff c p → k ≤ budget c p → f ≤ window_length c p → HasRoom c p k f → CanHave c p k f

-- No run has k ticks of a main sooner than after the least number of ticks that have room for them.
abbrev pub NoSooner : Configuration → List Entry → Type 0
NoSooner c past =
    (p s f k from : ℕ) → p < length c.processes → s % window_length c p ≡ 0 → s + f ≤ length past → 0 < k
    → k ≤ (job_from c (past_at past (s + f)) (main_thread c p) s).used → ((g : ℕ) → MayHave c p k g → from ≤ g) → from ≤ f

-- And that number is met, where no thread of p may hold off the kernel's own work: then a run has them.
abbrev pub SoonestIsHad : Configuration → Type 0
SoonestIsHad c =
    (p k from : ℕ) → p < length c.processes → NeverHoldsOff c p → k ≤ budget c p → MayHave c p k from → CanHave c p k from
