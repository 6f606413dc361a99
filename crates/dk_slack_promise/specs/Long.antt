-- What a window of the slowest level lends, whatever anybody does.
use Rattle.std.specs.Prelude.{ℕ, ◌≡◌, ◌+◌, ◌-◌, ◌%◌, ◌<◌, ◌≤◌, ◌⊎◌, Bool, true, false, ◌==◌, List, length, count_by}
use Rattle.std.specs.Option.{option_map_or}
use Rattle.dk_config.specs.Configuration.{Configuration}
use Rattle.dk_config.specs.Windows.{period, main_level, may_ask}
use Rattle.dk_config.specs.Certification.{spare}
use Rattle.dk_trace.specs.declared.Label.{Label}
use Rattle.dk_trace.specs.declared.Entry.{Entry}
use Rattle.dk_trace.specs.Entries.{borrower, window}
use Rattle.dk_trace.specs.Threads.{Thread, threads}
use Rattle.dk_trace.specs.Members.{Has}
use Rattle.dk_trace.specs.Jobs.{thread_rem}
use Rattle.dk_trace.specs.Slack.{want}
use Rattle.dk_trace.specs.Guarantees.{past_at}
use Rattle.dk_slack_promise.specs.Lent.{is_lent}

abbrev pub slowest : Configuration → ℕ
slowest c = length c.levels - 1

-- whether nobody had the tick
abbrev pub is_idle_label : Label → Bool
is_idle_label Label.Idle = true
is_idle_label _ = false

abbrev pub is_idle : Entry → Bool
is_idle e = is_idle_label e.label

-- whether the tick was lent to a thread of process p
abbrev pub is_lent_to : ℕ → Entry → Bool
is_lent_to p e = option_map_or (λ x. x.process == p) (borrower e.label) false

-- the entries that pass the test, in the window of level i that starts at s, as far as the past goes
abbrev pub counted_from : (Entry → Bool) → Configuration → List Entry → ℕ → ℕ → ℕ
counted_from test c past i s = count_by test (window c s (past_at past (s + period c i)) i)

-- In each window of the slowest level that has ended the ticks that were lent or idle are at least its spare.
abbrev pub LeavesSpare : Configuration → List Entry → Type 0
LeavesSpare c past =
    (s : ℕ) → 0 < length c.levels → s % period c (slowest c) ≡ 0 → s + period c (slowest c) ≤ length past
    → spare c (slowest c) ≤ counted_from is_lent c past (slowest c) s + counted_from is_idle c past (slowest c) s

-- a thread of process p, of its main's level, has something left or asks for slack
abbrev pub IsOpen : Configuration → List Entry → ℕ → Type 0
IsOpen c past p =
    (x : Thread) × Has (threads c past) x × (x.id.process ≡ p) × (x.level ≡ main_level c p)
    × ((0 < thread_rem c (length past) past x) ⊎ (0 < want c (length past) past x))

-- at each tick of the window of level i that starts at s
abbrev pub IsOpenThrough : Configuration → List Entry → ℕ → ℕ → ℕ → Type 0
IsOpenThrough c past p i s = (u : ℕ) → s ≤ u → u < s + period c i → IsOpen c (past_at past u) p

-- no other process of the level of p or of a faster one has the right to slack
abbrev pub NoneBefore : Configuration → ℕ → Type 0
NoneBefore c p =
    (q : ℕ) → q < length c.processes → main_level c q ≤ main_level c p → may_ask c q ≡ true → q ≡ p

-- A process that none with the right stands before, and that goes on asking, gets the spare of the slowest level in each of its windows.
abbrev pub LendsSpare : Configuration → List Entry → Type 0
LendsSpare c past =
    (p s : ℕ) → p < length c.processes → NoneBefore c p → s % period c (slowest c) ≡ 0
    → s + period c (slowest c) ≤ length past → IsOpenThrough c past p (slowest c) s
    → spare c (slowest c) ≤ counted_from (is_lent_to p) c past (slowest c) s
