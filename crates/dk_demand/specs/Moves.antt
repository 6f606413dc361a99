-- What the calls of the demand table make of its cells, and that this is what ticks and events do.
use Rattle.std.specs.Prelude.{ℕ, ◌≡◌, ◌+◌, ◌*◌, ◌/◌, ◌==◌, true, false, if◌then◌else◌, List, [], ◌∷◌, length, sum_by, slice_index, Some, None}
use Rattle.dk_config.specs.Configuration.{Configuration}
use Rattle.dk_config.specs.Checked.{IsChecked, IsAccepted}
use Rattle.dk_config.specs.Sums.{below, sum_from, sum_up_to}
use Rattle.dk_config.specs.Windows.{period, release, ceiling, longest_hold}
use Rattle.dk_trace.specs.declared.Label.{Label}
use Rattle.dk_trace.specs.declared.Event.{Event}
use Rattle.dk_trace.specs.declared.Entry.{Entry}
use Rattle.dk_trace.specs.Members.{Has}
use Rattle.dk_trace.specs.Entries.{payer, borrower, thread_of, kernel_level, is_of, stops, quiet}
use Rattle.dk_trace.specs.Threads.{Thread, threads, family, share}
use Rattle.dk_trace.specs.Holds.{Hold, held_by, hold_left, innermost_left, level_holding, effective_level, is_holder}
use Rattle.dk_bound.specs.Moves.{shares_to_come}
use Rattle.dk_bound.specs.ClockMoves.{begins, starting_shares}
use Rattle.dk_bound.specs.EventMoves.{given_up}
use Rattle.dk_bound.specs.EventCases.{may_close, changes_holds, IsClosedAlone, IsMainsEnd}
use Rattle.dk_demand.specs.Cells.{Cells, cells_at_start, dropped_cells, future_cells, held_cells, next_tick, released_cells}
use Rattle.dk_demand.specs.Recount.{IsRecount}

-- each hold of a thread of the level is given back, the outermost one first
abbrev pub freed_cells : Configuration → ℕ → List Hold → Cells → Cells
freed_cells c level [] d = d
freed_cells c level (h ∷ held) d = held_cells (level_holding c level held) (ceiling c h.mutex) (hold_left c h) 0
    (freed_cells c level held d)

-- the cells are the recount of the past at the tick
abbrev pub CountsAt : Configuration → ℕ → List Entry → Cells → Type 0
CountsAt c now past d = IsRecount c past d × (d.windows.tick ≡ now)

-- The cells after a tick with the label.
pub record TickMovesCells (c : Configuration) (label : Label) (past : List Entry) : Type 0 where
  pub kernel : (d : Cells) (k : ℕ) → CountsAt c (length past) past d → kernel_level label ≡ Some k
      → CountsAt c (length past) (quiet label ∷ past) (dropped_cells k 1 d)
  pub holder : (d : Cells) (x : Thread) → CountsAt c (length past) past d → Has (threads c past) x
      → payer label ≡ Some x.id
      → CountsAt c (length past) (quiet label ∷ past)
      (held_cells x.level (effective_level c past x) 1 0 (dropped_cells x.level 1 d))
  pub free : (d : Cells) (x : Thread) → CountsAt c (length past) past d → Has (threads c past) x
      → payer label ≡ Some x.id → is_holder past x ≡ false
      → CountsAt c (length past) (quiet label ∷ past) (dropped_cells x.level 1 d)
  pub slack : (d : Cells) (x : Thread) → CountsAt c (length past) past d → Has (threads c past) x
      → borrower label ≡ Some x.id → is_holder past x ≡ false
      → CountsAt c (length past) (quiet label ∷ past) d
  pub idle : (d : Cells) → CountsAt c (length past) past d → thread_of label ≡ None → kernel_level label ≡ None
      → CountsAt c (length past) (quiet label ∷ past) d

-- The cells after the event, where it isn't the end of a main.
pub record EventMovesCells (c : Configuration) (e : Entry) (past : List Entry) : Type 0 where
  pub keeps : (d : Cells) → CountsAt c (length past) (quiet e.label ∷ past) d → may_close e.event ≡ false
      → changes_holds e.event ≡ false
      → CountsAt c (length past) (e ∷ past) d
  pub lock : (d : Cells) (x : Thread) (m : ℕ) → CountsAt c (length past) (quiet e.label ∷ past) d
      → Has (threads c past) x → is_of x.id e ≡ true
      → e.event ≡ Some (Event.Lock m)
      → CountsAt c (length past) (e ∷ past)
      (held_cells (effective_level c (quiet e.label ∷ past) x) (ceiling c m) 0 (longest_hold c m) d)
  pub unlock : (d : Cells) (x : Thread) (m : ℕ) → CountsAt c (length past) (quiet e.label ∷ past) d
      → Has (threads c past) x → is_of x.id e ≡ true
      → e.event ≡ Some (Event.Unlock m)
      → CountsAt c (length past) (e ∷ past)
      (held_cells (effective_level c (e ∷ past) x) (ceiling c m)
      (innermost_left c (held_by x.id (quiet e.label ∷ past))) 0 d)
  -- a wait, or the end of a child
  pub closed : (d : Cells) (x : Thread) → CountsAt c (length past) (quiet e.label ∷ past) d → Has (threads c past) x
      → IsClosedAlone e x
      → CountsAt c (length past) (e ∷ past)
      (freed_cells c x.level (if stops x.id e then held_by x.id (quiet e.label ∷ past) else [])
      (dropped_cells x.level (given_up c e past x) d))

-- the threads give up what the event takes of them, and all their holds
abbrev pub closed_cells : Configuration → Entry → List Entry → List Thread → Cells → Cells
closed_cells c e past [] d = d
closed_cells c e past (y ∷ ys) d =
    freed_cells c y.level (held_by y.id (quiet e.label ∷ past))
    (dropped_cells y.level (given_up c e past y) (closed_cells c e past ys d))

-- each level's remaining demand falls by what it loses of the windows to come
abbrev pub lost_cells : (ℕ → ℕ) → List ℕ → Cells → Cells
lost_cells lost [] d = d
lost_cells lost (j ∷ js) d = lost_cells lost js (future_cells j (lost j) 0 d)

-- The cells after the end of a main.
abbrev pub EndMovesCells : Configuration → Entry → List Entry → Type 0
EndMovesCells c e past =
    (d : Cells) (x : Thread) → CountsAt c (length past) (quiet e.label ∷ past) d → IsMainsEnd c e past x
    → CountsAt c (length past) (e ∷ past)
    (lost_cells (λ j. shares_to_come c (length past) (quiet e.label ∷ past) j x.id.process) (below (length c.levels))
    (closed_cells c e past (family c x.id.process past) d))

-- what a level has to do, and what the levels up to it need, where its window begins
abbrev pub released_own : Configuration → List Entry → ℕ → ℕ
released_own c past j = release c j
    + sum_by (λ x. if x.level == j then share c past x (length past) else 0) (threads c past)

abbrev pub released_remaining : Configuration → List Entry → ℕ → ℕ
released_remaining c past j =
    sum_up_to j (λ i. release c i * (period c j / period c i))
    + sum_from 0 (length c.processes) (λ p. starting_shares c past j p + shares_to_come c (length past) past j p)

-- each level of which a window begins at the present tick is released, and slower holders keep it waiting as before
abbrev pub opened_cells : Configuration → List Entry → List ℕ → Cells → Cells
opened_cells c past [] d = d
opened_cells c past (j ∷ js) d =
    opened_cells c past js
    (if begins c j (length past) then released_cells j (released_own c past j) (released_remaining c past j)
    (slice_index d.blocking j) d else d)

abbrev pub next_cells : Configuration → List Entry → Cells → Cells
next_cells c past d = opened_cells c past (below (length c.levels)) (record d { windows = next_tick d.windows })

-- The cells at the next tick.
abbrev pub ClockMovesCells : Configuration → Entry → List Entry → Type 0
ClockMovesCells c e past = (d : Cells) → CountsAt c (length past) (e ∷ past) d
    → CountsAt c (length (e ∷ past)) (e ∷ past) (next_cells c (e ∷ past) d)

-- The cells at the start, where a window of each level begins.
abbrev pub CellsStart : Type 0
CellsStart =
    (c : Configuration) → IsChecked c → IsAccepted c
    → CountsAt c 0 [] (opened_cells c [] (below (length c.levels)) (cells_at_start c))
