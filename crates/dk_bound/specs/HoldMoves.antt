-- Holds and blocking, level by level.
use Rattle.std.specs.Prelude.{ℕ, ◌≡◌, ◌+◌, Bool, true, ◌&&◌, nat_lt, nat_le, if◌then◌else◌, List, [], ◌∷◌, map, Some}
use Rattle.dk_config.specs.Configuration.{Configuration}
use Rattle.dk_config.specs.Windows.{ceiling, longest_hold}
use Rattle.dk_trace.specs.declared.ThreadId.{ThreadId}
use Rattle.dk_trace.specs.declared.Label.{Label}
use Rattle.dk_trace.specs.declared.Event.{Event}
use Rattle.dk_trace.specs.declared.Entry.{Entry}
use Rattle.dk_trace.specs.Members.{Has}
use Rattle.dk_trace.specs.Entries.{thread_of, is_of, quiet}
use Rattle.dk_trace.specs.Threads.{Thread, threads}
use Rattle.dk_trace.specs.Holds.{Hold, aged, held_by, hold_left, innermost_left, level_holding, effective_level, thread_blocking, blocking}

-- whether level j is one from the first up to but without the second
abbrev pub lies_between : ℕ → ℕ → ℕ → Bool
lies_between first second j = nat_le first j && nat_lt j second

-- A tick ages the holds of its thread, and no others.
abbrev pub TickAgesHolds : Configuration → Label → List Entry → Type 0
TickAgesHolds c label past =
    (x : ThreadId) → held_by x (quiet label ∷ past)
    ≡ (if is_of x (quiet label) then map aged (held_by x past) else held_by x past)

-- What the holds keep level j waiting, for a thread of the level own: the innermost one at the levels from its ceiling up to
-- the one at which the thread runs without it, and so on.
abbrev pub holds_part : Configuration → ℕ → ℕ → List Hold → ℕ
holds_part c j own [] = 0
holds_part c j own (h ∷ held) =
    holds_part c j own held + (if lies_between (ceiling c h.mutex) (level_holding c own held) j then hold_left c h
    else 0)

-- That is a thread's part of blocking, between ticks and while the event isn't known.
abbrev pub BlockingIsByHolds : Configuration → List Entry → Type 0
BlockingIsByHolds c past =
    (x : Thread) (j : ℕ) → Has (threads c past) x
    → thread_blocking c past j x ≡ holds_part c j x.level (held_by x.id past)

abbrev pub TickBlocksByHolds : Configuration → Label → List Entry → Type 0
TickBlocksByHolds c label past = BlockingIsByHolds c (quiet label ∷ past)

-- At the start nobody waits.
abbrev pub NothingBlocksAtStart : Type 0
NothingBlocksAtStart = (c : Configuration) (j : ℕ) → blocking c [] j ≡ 0

-- A tick of a thread lowers blocking by one at the levels from the one at which it runs up to its own: at none where it holds nothing.
abbrev pub TickLowersBlocking : Configuration → Label → List Entry → Type 0
TickLowersBlocking c label past =
    (x : Thread) (j : ℕ) → Has (threads c past) x → thread_of label ≡ Some x.id
    → blocking c (quiet label ∷ past) j + (if lies_between (effective_level c past x) x.level j then 1 else 0)
    ≡ blocking c past j

-- A lock raises blocking by the longest hold at the levels from the ceiling up to the one at which the thread ran before.
abbrev pub LockRaisesBlocking : Configuration → Entry → List Entry → Type 0
LockRaisesBlocking c e past =
    (x : Thread) (m j : ℕ) → Has (threads c past) x → is_of x.id e ≡ true → e.event ≡ Some (Event.Lock m)
    → blocking c (e ∷ past) j
    ≡ blocking c (quiet e.label ∷ past) j
    + (if lies_between (ceiling c m) (effective_level c (quiet e.label ∷ past) x) j then longest_hold c m else 0)

-- An unlock lowers it by what was left of the hold at the levels from the ceiling up to the one at which the thread runs after.
abbrev pub UnlockLowersBlocking : Configuration → Entry → List Entry → Type 0
UnlockLowersBlocking c e past =
    (x : Thread) (m j : ℕ) → Has (threads c past) x → is_of x.id e ≡ true → e.event ≡ Some (Event.Unlock m)
    → blocking c (e ∷ past) j
    + (if lies_between (ceiling c m) (effective_level c (e ∷ past) x) j
    then innermost_left c (held_by x.id (quiet e.label ∷ past)) else 0)
    ≡ blocking c (quiet e.label ∷ past) j
