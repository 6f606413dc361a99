-- The slack that the processes of a run take in their windows.
use Rattle.std.specs.Prelude.{ℕ, ◌≡◌, ◌+◌, ◌%◌, ◌<◌, ◌≤◌, ◌∷◌, ◌⊎◌, List, length, take, count_by, Option, Some}
use Rattle.dk_config.specs.Configuration.{Configuration}
use Rattle.dk_config.specs.Checked.{IsAccepted, IsChecked}
use Rattle.dk_config.specs.Windows.{main_level, period}
use Rattle.dk_trace.specs.declared.Entry.{Entry}
use Rattle.dk_world.specs.Run.{trace}
use Rattle.dk_repeat.specs.Repeat.{RunStandsAgain}
use Rattle.dk_trace.specs.Entries.{window}
use Rattle.dk_trace.specs.Guarantees.{past_at}
use Rattle.dk_allotment.specs.Soon.{IsEnoughSlack}
use Rattle.dk_slack_promise.specs.Long.{IsOpen, counted_from, is_lent_to}
use Rattle.dk_slack_promise.specs.Allotted.{IsAllotted, IsOpenUntil, KeepsTo, own_lent}
use Rattle.dk_cycle.specs.declared.Cycle.{Cycle}
use Rattle.dk_needs_always.specs.declared.TheConstants.{ALWAYS_TICKS}
use Rattle.dk_needs_always.specs.declared.lending.LentWatch.{LentWatch}

-- the ticks of slack of process q in the window of its level that tick t of the run lies in, up to that tick
abbrev pub slack_had_at : Configuration → List (List ℕ) → ℕ → ℕ → ℕ
slack_had_at c programs q t = own_lent c t (trace c programs (t + 1)) q

-- in the first so many ticks it had no more in any window
abbrev pub TakesAtMost : Configuration → List (List ℕ) → ℕ → ℕ → ℕ → Type 0
TakesAtMost c programs q ticks most = (t : ℕ) → t < ticks → slack_had_at c programs q t ≤ most

-- in the first so many ticks it had no more in any window, and as many in one of them
pub record IsMostTaken (c : Configuration) (programs : List (List ℕ)) (q ticks most : ℕ) : Type 0 where
  pub bound : TakesAtMost c programs q ticks most
  pub reached : 0 < most → (t : ℕ) × (t < ticks) × (slack_had_at c programs q t ≡ most)

-- What a watch has seen of the run up to the tick: how many ticks of slack its process had in the present window so far, and
-- the most that it had in one.
pub record IsLentWatch (c : Configuration) (programs : List (List ℕ)) (tick : ℕ) (w : LentWatch) : Type 0 where
  pub long : w.period ≡ period c (main_level c w.process)
  pub over : w.passed ≡ tick % period c (main_level c w.process)
  pub within : w.passed < w.period
  pub had : w.lent ≡ count_by (is_lent_to w.process) (take w.passed (trace c programs tick))
  pub few : w.lent ≤ w.passed
  pub most : IsMostTaken c programs w.process tick w.most

-- a watch of a run that sees the entry of the next tick is one up to that tick
abbrev pub Follows : LentWatch → Entry → LentWatch → Type 0
Follows before entry after =
    (c : Configuration) (programs : List (List ℕ)) (tick : ℕ) → IsLentWatch c programs tick before
    → trace c programs (tick + 1) ≡ entry ∷ trace c programs tick → IsLentWatch c programs (tick + 1) after

-- in the first so many ticks no process takes more slack in a window than its allotment
abbrev pub KeepBefore : Configuration → List (List ℕ) → (ℕ → ℕ) → ℕ → Type 0
KeepBefore c programs s ticks = (q : ℕ) → q < length c.processes → TakesAtMost c programs q ticks (s q)

-- in the first so many ticks some process takes more slack in a window than its allotment
pub record TakesMoreBefore (c : Configuration) (programs : List (List ℕ)) (s : ℕ → ℕ) (ticks : ℕ) : Type 0 where
  pub process : ℕ
  pub tick : ℕ
  pub known : process < length c.processes
  pub early : tick < ticks
  pub more : s process < slack_had_at c programs process tick

-- at no tick of the run a process has taken more
abbrev pub KeepForEver : Configuration → List (List ℕ) → (ℕ → ℕ) → Type 0
KeepForEver c programs s = (n : ℕ) → KeepsTo c s (trace c programs n)

-- up to the second start of the cycle that is told some process takes more, if one is told whose second start is so early
abbrev pub TakesMoreIn : Configuration → List (List ℕ) → (ℕ → ℕ) → Option Cycle → Type 0
TakesMoreIn c programs s cycle =
    (y : Cycle) → cycle ≡ Some y → y.start + y.length ≤ ALWAYS_TICKS → TakesMoreBefore c programs s (y.start + y.length)

-- in each window of its level each process that goes on asking until it had its allotment gets it
abbrev pub SlackIsHad : Configuration → List (List ℕ) → (ℕ → ℕ) → Type 0
SlackIsHad c programs s =
    (n p r : ℕ) → p < length c.processes → r % period c (main_level c p) ≡ 0 → r + period c (main_level c p) ≤ n
    → IsOpenUntil c (trace c programs n) s p r
    → s p ≤ counted_from (is_lent_to p) c (trace c programs n) (main_level c p) r

-- and it has had it once so many ticks of the window are over as are enough
abbrev pub SlackIsHadIn : Configuration → List (List ℕ) → (ℕ → ℕ) → Type 0
SlackIsHadIn c programs s =
    (n p r f : ℕ) → p < length c.processes → r % period c (main_level c p) ≡ 0 → IsEnoughSlack c s (main_level c p) f → r + f ≤ n
    → ((u : ℕ) → r ≤ u → u < r + f
    → IsOpen c (past_at (trace c programs n) u) p ⊎ (s p ≤ own_lent c u (past_at (trace c programs n) u) p))
    → s p ≤ count_by (is_lent_to p) (window c r (past_at (trace c programs n) (r + f)) (main_level c p))

-- A run that stands again keeps to allotments for ever, where it does until it stands again.
abbrev pub FirstTicksTell : Type 0
FirstTicksTell =
    (c : Configuration) (programs : List (List ℕ)) (s : ℕ → ℕ) (start every : ℕ) → IsChecked c → IsAccepted c
    → RunStandsAgain c programs start every → KeepBefore c programs s (start + every) → KeepForEver c programs s

-- And then each process has its allotment, where they hold together.
abbrev pub HadWhereKept : Type 0
HadWhereKept =
    (c : Configuration) (programs : List (List ℕ)) (s : ℕ → ℕ) → IsChecked c → IsAccepted c → IsAllotted c s
    → KeepForEver c programs s → SlackIsHad c programs s × SlackIsHadIn c programs s
