-- The jobs of mains in order: a job of a main is its share of one window of its level.
use Rattle.std.specs.Prelude.{ℕ, ◌≡◌, ◌+◌, ◌%◌, ◌<◌, ◌≤◌, ◌⊎◌, true, IsTrue, List, length}
use Rattle.dk_config.specs.Configuration.{Configuration}
use Rattle.dk_config.specs.Windows.{period, main_level, budget}
use Rattle.dk_config.specs.Ahead.{comes_before, IsEnough}
use Rattle.dk_trace.specs.declared.Entry.{Entry}
use Rattle.dk_trace.specs.Members.{Has}
use Rattle.dk_trace.specs.Threads.{Thread, threads, main_thread, is_main}
use Rattle.dk_trace.specs.Guarantees.{past_at, job_from}

-- the job of p in the window that starts at s is over: the main has had its whole share, or it waited or was stopped
abbrev pub IsOver : Configuration → List Entry → ℕ → ℕ → Type 0
IsOver c past p s =
    (x : Thread) → Has (threads c past) x → x.id.process ≡ p → is_main x ≡ true
    → let had = job_from c past x s in (had.share ≤ had.used) ⊎ IsTrue had.closed

-- the job of p in the window that starts at s has begun: the main has had a tick of its share
abbrev pub HasBegun : Configuration → List Entry → ℕ → ℕ → Type 0
HasBegun c past p s = 0 < (job_from c past (main_thread c p) s).used

-- at every tick at which the job of q in the window from r has begun, the job of p in the window from s is over
abbrev pub IsBefore : Configuration → List Entry → ℕ → ℕ → ℕ → ℕ → Type 0
IsBefore c past p s q r = (u : ℕ) → u ≤ length past → HasBegun c (past_at past u) q r → IsOver c (past_at past u) p s

-- The window of q starts when that of p does and p comes before q, or once so many ticks are over as are enough for the whole
-- budget of p.
abbrev pub StartsLater : Configuration → ℕ → ℕ → ℕ → ℕ → Type 0
StartsLater c p s q r =
    ((comes_before c p q ≡ true) × (r ≡ s)) ⊎ ((f : ℕ) × IsEnough c p (budget c p) f × (s + f ≤ r))

-- Then the job of q begins only when that of p is over.
abbrev pub BeginsInOrder : Configuration → List Entry → Type 0
BeginsInOrder c past =
    (p s q r : ℕ) → p < length c.processes → q < length c.processes → s % period c (main_level c p) ≡ 0
    → r % period c (main_level c q) ≡ 0 → StartsLater c p s q r → IsBefore c past p s q r

-- Once so many ticks of the window are over as are enough for the whole budget of p, its job is over, and stays so.
abbrev pub OverInTime : Configuration → List Entry → Type 0
OverInTime c past =
    (p s f u : ℕ) → p < length c.processes → s % period c (main_level c p) ≡ 0 → IsEnough c p (budget c p) f
    → s + f ≤ u → u ≤ length past → IsOver c (past_at past u) p s
