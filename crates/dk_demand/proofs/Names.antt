-- The names of other libraries and of this crate's specs that proofs here speak of.
pub use Rattle.dk_bound.specs.ClockMoves.{ClockKeeps, WindowsRelease, begins}
pub use Rattle.dk_bound.specs.EventCases.{EventKeeps, OneIsClosed, ProcessIsClosed, may_close}
pub use Rattle.dk_bound.specs.EventMoves.{given_up}
pub use Rattle.dk_bound.specs.HoldMoves.{LockRaisesBlocking, NothingBlocksAtStart, TickBlocksByHolds, TickLowersBlocking, UnlockLowersBlocking, holds_part, lies_between}
pub use Rattle.dk_bound.specs.Laws.{Always}
pub use Rattle.dk_bound.specs.Moves.{shares_to_come}
pub use Rattle.dk_bound.specs.Rows.{IdsTellLevels, RowsAreNamed}
pub use Rattle.dk_bound.specs.TickMoves.{TickKeepsThreads, TickLowersOwn, TickLowersRemaining, TickMovesBlocking, working_level}
pub use Rattle.dk_config.proofs.Refills.{refill-whole}
pub use Rattle.dk_config.specs.Configuration.{Configuration}
pub use Rattle.dk_config.specs.Mutex.{Mutex}
pub use Rattle.dk_config.specs.Sums.{below, numbers}
pub use Rattle.dk_config.specs.Windows.{ceiling, longest_hold, window_end}
pub use Rattle.dk_config.specs.declared.TheConstants.{MAX_LEVELS}
pub use Rattle.dk_config.specs.declared.rows.LevelRow.{LevelRow}
pub use Rattle.dk_config.specs.declared.rows.ProcessRow.{ProcessRow}
pub use Rattle.dk_demand.specs.Cells.{Cells, cells_at_start, dropped_cells, first_unfit, future_cells, is_unfit, next_tick, no_ticks, released_cells}
pub use Rattle.dk_demand.specs.Counters.{ahead, own_by, remaining_by, run_up_to}
pub use Rattle.dk_demand.specs.Levels.{adjusted, at_level, between, by_level, from_level, less, set_to}
pub use Rattle.dk_demand.specs.Moves.{CellsStart, ClockMovesCells, CountsAt, EndMovesCells, EventMovesCells, TickMovesCells, closed_cells, freed_cells, lost_cells, opened_cells, released_own, released_remaining}
pub use Rattle.dk_demand.specs.Recount.{IsRecount, NoneIsLate, each_level}
pub use Rattle.dk_demand.specs.Waiting.{CanWaitBefore, at_tick}
pub use Rattle.dk_trace.proofs.Whose.{label-payer}
pub use Rattle.dk_trace.specs.Demand.{fits, fits_at, is_tight_at, own_demand, remaining_demand}
pub use Rattle.dk_trace.specs.Entries.{borrower, kernel_level, payer, quiet, stops, thread_of}
pub use Rattle.dk_trace.specs.Holds.{Hold, blocking, effective_level, held_by, hold_left, innermost_left, is_holder, is_holding, level_holding, thread_blocking}
pub use Rattle.dk_trace.specs.Members.{Has}
pub use Rattle.dk_trace.specs.Slack.{level_of}
pub use Rattle.dk_trace.specs.Threads.{Thread, family, threads}
pub use Rattle.dk_trace.specs.declared.Entry.{Entry}
pub use Rattle.dk_trace.specs.declared.Event.{Event}
pub use Rattle.dk_trace.specs.declared.Label.{Label}
pub use Rattle.dk_trace.specs.declared.Source.{Source}
pub use Rattle.dk_trace.specs.declared.ThreadId.{ThreadId}
pub use Rattle.dk_trace.specs.declared.Work.{Work}
pub use Rattle.dk_windows.specs.Clock.{Clock, clock_at, end_at}
pub use Rattle.std.proofs.Common.{Bool, List, [], add-one, ap, arith, cond, eqb, false, get_or, get_or-take, inl, inr, leb, length, length-take, ltb, map, not, refl, rules, set, subst, suc, sym, take, true, zero, ℕ, ◌%◌, ◌&&◌, ◌++◌, ◌+◌, ◌-◌, ◌<◌, ◌^◌, ◌∙◌, ◌∷◌, ◌≡◌, ◌≢◌, ◌≤◌, ◌⊎◌}
pub use Rattle.std.proofs.Math.ListN.{length-set}
pub use Rattle.std.proofs.Math.Seq.{take-set-lt}
pub use Rattle.std.proofs.lemmas.Bool.{cases_Bool, cases_lt}
pub use Rattle.std.proofs.lemmas.Bool.Decides.{eqb_tells, nat_tests}
pub use Rattle.std.proofs.lemmas.List.{ext_get_or, get_or-set_other, get_or-set_same, length-map, length-take-le, map_more, take-set-le, take_all}
pub use Rattle.std.proofs.lemmas.List.Sums.{sum_by-cons, sum_by-set, sum_by_more}
pub use Rattle.std.specs.List.{find, list_all, refill}
pub use Rattle.std.specs.Option.{option_map, option_map_or, option_or}
pub use Rattle.std.specs.Prelude.{None, Some, if◌then◌else◌, is_none, nat_le, nat_lt, slice_get, slice_index, sum, sum_by, ◌==◌}
