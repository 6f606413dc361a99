-- By when in its window a main has had so many ticks of its share.
use Rattle.std.specs.Prelude.{ℕ, ◌≡◌, ◌+◌, ◌%◌, ◌<◌, ◌≤◌, ◌⊎◌, true, false, IsTrue, List, length}
use Rattle.dk_config.specs.Configuration.{Configuration}
use Rattle.dk_config.specs.Certification.{level_blocking}
use Rattle.dk_config.specs.Windows.{period, main_level, slots, budget}
use Rattle.dk_config.specs.Ahead.{NoFasterSlack, IsEnough, IsEnoughForAll}
use Rattle.dk_trace.specs.declared.Entry.{Entry}
use Rattle.dk_trace.specs.Members.{Has}
use Rattle.dk_trace.specs.Threads.{Thread, threads, main_thread, is_main}
use Rattle.dk_trace.specs.Audit.{Audited}
use Rattle.dk_trace.specs.Guarantees.{past_at, job_from}

-- in the window that starts at s the thread has had at least k ticks of its share, or its share is less, or it is closed
abbrev pub HasHad : Configuration → List Entry → Thread → ℕ → ℕ → Type 0
HasHad c past x s k = let had = job_from c past x s in (k ≤ had.used) ⊎ (had.share < k) ⊎ IsTrue had.closed

-- Once so many ticks of a main's window are over as are enough for k ticks of it, it has had k ticks.
abbrev pub ByWhen : Configuration → List Entry → Type 0
ByWhen c past =
    (x : Thread) (s f k : ℕ) → Has (threads c (past_at past (s + f))) x → is_main x ≡ true
    → s % period c x.level ≡ 0 → s + f ≤ length past → IsEnough c x.id.process k f
    → HasHad c (past_at past (s + f)) x s k

-- Once so many ticks of a level's window are over as are enough for all its threads, children too, each has had its whole share.
abbrev pub AllByWhen : Configuration → List Entry → Type 0
AllByWhen c past =
    (x : Thread) (s f k : ℕ) → Has (threads c (past_at past (s + f))) x → s % period c x.level ≡ 0
    → s + f ≤ length past → IsEnoughForAll c x.level f → HasHad c (past_at past (s + f)) x s k

-- nothing but the kernel and the budgets of mains can come before the main of p
pub record IsPlainFor (c : Configuration) (p : ℕ) : Type 0 where
  pub holds : level_blocking c (main_level c p) ≡ 0
  pub children : (q : ℕ) → q < length c.processes → slots c q ≡ 0
  pub slack : NoFasterSlack c (main_level c p)

-- There is a list of t entries that follows the rules, in which the main of p has had fewer than k ticks of its first window,
-- though its share is not less and it is not closed.
pub record CanLack (c : Configuration) (p k t : ℕ) : Type 0 where
  pub past : List Entry
  pub audited : Audited c past
  pub ticks : length past ≡ t
  pub among : Has (threads c past) (main_thread c p)
  pub some : (job_from c past (main_thread c p) 0).used < k
  pub enough : k ≤ (job_from c past (main_thread c p) 0).share
  pub running : (job_from c past (main_thread c p) 0).closed ≡ false

-- There no number of ticks that is less than each that is enough will do: the bound is met.
abbrev pub BoundIsMet : Configuration → Type 0
BoundIsMet c =
    (p k t : ℕ) → p < length c.processes → IsPlainFor c p → 0 < k → k ≤ budget c p
    → ((f : ℕ) → IsEnough c p k f → t < f) → CanLack c p k t
