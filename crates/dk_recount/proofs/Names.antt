-- The names of other libraries and of this crate's specs that proofs here speak of.
pub use Rattle.dk_bound.proofs.Bodies.{row-same}
pub use Rattle.dk_bound.proofs.ClockMoves.{begins-faster, begins-start, not-now, window-new, within-start}
pub use Rattle.dk_bound.proofs.EventMoves.{after-open}
pub use Rattle.dk_bound.proofs.LastingAskers.{request-kept, want-before, want-shut}
pub use Rattle.dk_bound.proofs.Nesting.{level-aged, nested-above, nested-quiet}
pub use Rattle.dk_bound.proofs.Sound.{tick-thread}
pub use Rattle.dk_bound.proofs.TickMoves.{threads-charged}
pub use Rattle.dk_bound.proofs.Unborn.{no-request, payer-low, serial-low}
pub use Rattle.dk_bound.specs.Callers.{AreNested, CallerStands, CallersRun, CallersStand, HoldsNest}
pub use Rattle.dk_bound.specs.ClockMoves.{ClockKeeps, WindowsRelease, begins, starting_shares}
pub use Rattle.dk_bound.specs.EventCases.{IsClosedAlone, IsMainsEnd, OneIsClosed, ProcessIsClosed, WhoCloses}
pub use Rattle.dk_bound.specs.EventMoves.{EventCloses, EventLowersRem, EventMovesHolds, GivenUp, NewHaveNothing, closed_if, closes, given_up}
pub use Rattle.dk_bound.specs.HoldMoves.{TickLowersBlocking}
pub use Rattle.dk_bound.specs.Lasting.{AskersLast}
pub use Rattle.dk_bound.specs.Laws.{Always}
pub use Rattle.dk_bound.specs.Moves.{AtEachEntry, AtEachTick, shares_to_come as past_to_come}
pub use Rattle.dk_bound.specs.ReadyMoves.{ClockMovesReady, EventKeepsReady}
pub use Rattle.dk_bound.specs.Rows.{AbsentHaveNothing, FamiliesStand, FamilyStands, IdsTellLevels, RowsAreNamed}
pub use Rattle.dk_bound.specs.Standing.{AskersThere, ChoiceHolds, ChosenHolds, HoldersKnown, IsPlaced, IsThere, StartsWithBudgets, StartsWithDemand, ThreadsPlaced}
pub use Rattle.dk_bound.specs.Statements.{BlocksAtMost, HoldersStand}
pub use Rattle.dk_bound.specs.TickMoves.{TickLowersOwn, TickLowersRem, TickLowersRemaining, TickSpends, worked, working_level}
pub use Rattle.dk_budget.proofs.Keeping.{changed-lenders, quiet-lender, quiet-loans}
pub use Rattle.dk_budget.proofs.Starting.{periods-sound}
pub use Rattle.dk_budget.specs.Book.{Book, book_of}
pub use Rattle.dk_budget.specs.Calls.{all_given_back, changed_at as changed_lender, lend_refusal, lent_to, new_loan, stopped_child, stopped_process, with_loans}
pub use Rattle.dk_budget.specs.Laws.{ChildsStopEndsLoan, CreateAddsLoan, MainsStopEndsLoans, OpeningGivesBack, QuietKeepsLoans, RefusesLoans, TellsChildShares, TellsFutureShares, TellsMainShares}
pub use Rattle.dk_budget.specs.Loans.{is_ended_at}
pub use Rattle.dk_budget.specs.Recount.{HasSlowerChildren, IsFamilyOf, IsRecount as AreLoans, counted_lender, counted_loan, counted_stop, recount}
pub use Rattle.dk_budget.specs.Shares.{future_shares, present_child_share, present_main_share}
pub use Rattle.dk_budget.specs.Sound.{ArePeriods}
pub use Rattle.dk_budget.specs.declared.lender.Lender.{Lender}
pub use Rattle.dk_budget.specs.declared.loan.Loan.{Loan}
pub use Rattle.dk_config.proofs.CheckedConfig.{user-mutex}
pub use Rattle.dk_config.proofs.Counting.{at_index, length-map-numbers, length-numbers, rows-numbers, set-level}
pub use Rattle.dk_config.proofs.FirstOf.{first-none, first-same}
pub use Rattle.dk_config.proofs.Lists.{eqb-flip, eqb-not, filter-all, filter-twice, front-found, map-none, map-places-stay, none-stop, number-at, raised-all, slice_set-length}
pub use Rattle.dk_config.proofs.Sums.{sum_every-as, sum_from-add, sum_from-eq, sum_from-same}
pub use Rattle.dk_config.specs.Certification.{is_user, level_demand}
pub use Rattle.dk_config.specs.Checked.{IsAccepted, IsChecked, IsWithinLimits}
pub use Rattle.dk_config.specs.Configuration.{Configuration}
pub use Rattle.dk_config.specs.Sums.{below, first_of, numbers, sum_from, sum_up_to}
pub use Rattle.dk_config.specs.Windows.{budget, ceiling, longest_hold, main_level, max_level, may_ask, period, release, window_end, window_start}
pub use Rattle.dk_config.specs.declared.TheConstants.{MAX_CHILDREN, MAX_PROCESSES, MAX_SPAN, MAX_THREADS, MAX_TICKS}
pub use Rattle.dk_config.specs.declared.rows.LevelRow.{LevelRow}
pub use Rattle.dk_config.specs.declared.rows.ProcessRow.{ProcessRow}
pub use Rattle.dk_demand.proofs.Changing.{between-start, get_or-by_level, length-by_level}
pub use Rattle.dk_demand.proofs.EachLevel.{by-twice}
pub use Rattle.dk_demand.specs.Cells.{Cells, dropped_cells, first_unfit, held_cells, released_cells}
pub use Rattle.dk_demand.specs.Levels.{adjusted, at_level, between, by_level, from_level, less, set_to}
pub use Rattle.dk_demand.specs.Moves.{ClockMovesCells, CountsAt, EventMovesCells, TickMovesCells, freed_cells, opened_cells, released_own, released_remaining}
pub use Rattle.dk_demand.specs.Recount.{IsRecount as AreCells, NoneIsLate, each_level}
pub use Rattle.dk_isa.specs.declared.FaultKind.{FaultKind}
pub use Rattle.dk_mutex.specs.Laws.{EventEndsHolds, OthersKeepHolds, TellsInnermost, TellsLevels, TellsWithin, TickSpendsHolds}
pub use Rattle.dk_mutex.specs.Recount.{AreMutexes, HasLevels, HoldersFit, IsRecount as AreHolders, LastIsLeast, counted_left, emptied, hold_at, last_locked}
pub use Rattle.dk_mutex.specs.Rows.{freed, holder_left, is_by, is_holder, left_under, left_up_to, spent as spent_row}
pub use Rattle.dk_mutex.specs.Table.{effective_level, given_to, hold_left, hold_of, holder_at, holds_within, innermost, is_free, left_at, unlock_refusal}
pub use Rattle.dk_mutex.specs.declared.row.Holder.{Holder}
pub use Rattle.dk_mutex.specs.declared.row.Lockable.{Lockable}
pub use Rattle.dk_rail.specs.Queues.{holder, holds, pushed, queue_at, unlinked}
pub use Rattle.dk_ready.proofs.Closing.{holder-other, leaves, one-queue, one-seat, seat-shut}
pub use Rattle.dk_ready.proofs.Moving.{Absent, filter-same, holds-append, jobs-keep, jobs-more, jobs-none, no-holder, none-holds, queued-lists, seat-then}
pub use Rattle.dk_ready.proofs.Numbers.{map-same, set-other}
pub use Rattle.dk_ready.proofs.Seated.{is-seated, nowhere}
pub use Rattle.dk_ready.specs.Laws.{BudgetTickSpends, EventKeepsParts, JobsKeepSeats, KernelTickSpends, MainsAreSeated, OthersKeepParts, PartsAreReleased, QueuesWorkers}
pub use Rattle.dk_ready.specs.Recount.{AreSeated, IsRecount as AreJobs}
pub use Rattle.dk_ready.specs.Roster.{Roster, closed, closed_on, dropped_on, left_on, new_job, released, released as sat_down, seat_at, spent_on, told_phase, vacant}
pub use Rattle.dk_ready.specs.declared.seat.Seat.{Seat}
pub use Rattle.dk_recount.specs.Charging.{HasWork, MayBudget, MayCharge, MayCount, MayKernel, MaySlack, charged, counts, first_in, level_in}
pub use Rattle.dk_recount.specs.Choosing.{HasNoWish, HasNoWork, budget_of, choice_in, choice_of, claims_in, claims_slack, denial_of, first_worker, fits_in, kernel_left, loan_of, slack_in, work_in}
pub use Rattle.dk_recount.specs.Closing.{moved_on}
pub use Rattle.dk_recount.specs.Counts.{is_moved, moved, starts_at, stopped, stops_in}
pub use Rattle.dk_recount.specs.Creating.{MayCreate, child_row, create_refusal_in, free_node, new_seat, with_child}
pub use Rattle.dk_recount.specs.Events.{CallIsRight, IsCalling, IsUntold, MayAsk, MayLock, MayUnlock, MayWait, asked, body_in, entry_of, has_right, lock_refusal_in, locked, refusal_of, rows_locked, rows_unlocked, runs_at, slack_refusal_in, unlock_refusal_in, unlocked, wait_refusal_in, waited, with_event}
pub use Rattle.dk_recount.specs.Facing.{Adds, CallerIsThere, Creates, HasOwn, IsNewRow, Keeps, create_refusal_of, slots}
pub use Rattle.dk_recount.specs.Jobs.{MayClose, job_closed}
pub use Rattle.dk_recount.specs.Needed.{CallerLaws, HoldLaws, StoppingLaws as Laws}
pub use Rattle.dk_recount.specs.Opening.{AreKnown, CanAllSit, MayBegin, all_rows, begin_steps, begun, begun_if, cell_steps, cells_begun, cells_set, counts_begun, due, due_threads, given, given_one, given_steps, is_between, kernel_work, open_steps, opened, own_in, parts_begun, quieted, quieted_one, remaining_in, rows_from, rows_in, seat_in, share_in, shares_in, shares_to_come, steps_of}
pub use Rattle.dk_recount.specs.Premises.{WhereClosed, WhereReady}
pub use Rattle.dk_recount.specs.Process.{MayShutAll, MayStopProcess, StopsProcess, cells_lost, running_at, running_children, shut_all, without_process}
pub use Rattle.dk_recount.specs.Questions.{TellsOf, booked, phase_in, ready, ready as tells-ready, ready_in, ready_thread, rem_in}
pub use Rattle.dk_recount.specs.Recount.{IsBooked, IsCharged, IsClosed, IsReady, IsRecount, IsRuled, clocked, is_ready, kernel_part, ready_nodes, releases_of, seat_of}
pub use Rattle.dk_recount.specs.Start.{own_of, tables_at_start}
pub use Rattle.dk_recount.specs.Stopping.{MayShut, MayStopChild, RunsByRow, StopsChild, child_of, delete_refusal_in, node_on, running_child, shut, unblocked, without_child}
pub use Rattle.dk_recount.specs.Stretching.{Computes, EndsAfter, IsPassed, Lends, MayComputeFor, MayCountFor, Passes, Rests, computed, lent, rested}
pub use Rattle.dk_recount.specs.Tables.{HasFamilies, IsSound, Tables, node_in, slot_in}
pub use Rattle.dk_slack.proofs.Lasting.{counted-more, counted-none}
pub use Rattle.dk_slack.proofs.Lent.{spent-more, spent-none}
pub use Rattle.dk_slack.specs.Laws.{AskingAddsWish, DropsWishes, OthersKeepWishes, SlackSpendsWish, TellsAmounts, TickCountsUnclaimed, UnclaimedBegin, UnclaimedStay, WishesBegin, WishesStay}
pub use Rattle.dk_slack.specs.Recount.{AreCounted, AreOldestFirst, HaveOwnNodes, IsRecount as AreWishes, ShutsAskers, asking, claiming_level, counted_wish, spares_of, unclaimed_of}
pub use Rattle.dk_slack.specs.Slack.{Slack, at_start as no_wishes}
pub use Rattle.dk_slack.specs.Unclaimed.{counted, counted_for, raised, source}
pub use Rattle.dk_slack.specs.Wishes.{Wish, asked as asked_wish, dropped, first_node, is_entering, is_of as is_wish_of, lowered, spent as spent_wish, spent_for, want as want_in, want as wants, wishes_at}
pub use Rattle.dk_threads.proofs.Births.{begun-found, some-family}
pub use Rattle.dk_threads.proofs.Descent.{Descend, changed-here, changed-there, process-descends, stop-descends}
pub use Rattle.dk_threads.proofs.Finding.{RowOf, find-left, paired-sum, row-before, row-lasts, row-of-thread, row-runs, row-says, row-was, rows-apart, rows-lent, running-row, running-rows, unplaced-running}
pub use Rattle.dk_threads.proofs.NamedRows.{HasRow, child-later, child-slot, family-of, names-apart, one-row, row-slot, row-there, rows-family, same-owner, slot-apart, slots-differ}
pub use Rattle.dk_threads.proofs.Recounting.{first-at}
pub use Rattle.dk_threads.proofs.Stops.{named, named-one, process-ends-by}
pub use Rattle.dk_threads.specs.Laws.{ChildsEndStopsRow, CreateAddsRow, DeleteStopsRow, FreesSlots, OpeningMovesRows, TickKeepsRows}
pub use Rattle.dk_threads.specs.Recount.{IsRecount as AreThreads, counted_row, counted_rows, end_in_row, has_row, main_id, row_at, state_of, unplaced}
pub use Rattle.dk_threads.specs.Rows.{AreChildren, ends_at, has_slot, is_row_of, is_stopped, is_taken, kept, started}
pub use Rattle.dk_threads.specs.Table.{AreFamilies, Table, all_stopped, changed_at, changed_at as changed_family, child_stopped, children_at, family_ended, family_started, find_row, free_slot, has_room, has_serials, is_child, is_running, most_at, new_row, next_id, rows_of, runs, serials_at, stands, table_at_start}
pub use Rattle.dk_threads.specs.declared.family.Family.{Family}
pub use Rattle.dk_threads.specs.declared.row.State.{State}
pub use Rattle.dk_threads.specs.declared.row.ThreadRow.{ThreadRow}
pub use Rattle.dk_trace.proofs.Charged.{family-charged, quiet-follows, quiet-stops, same-job}
pub use Rattle.dk_trace.proofs.Events.{IsPlain, end-no-delete, end-plain, levels-slots, none-of-one, none-of-three, none-of-two, not-main-of, some-event, whose}
pub use Rattle.dk_trace.proofs.Holds.{aged-held, between-given, between-is, ceiling-given, ceiling-most, has-aged, holding-some, innermost-aged, no-blocking, quiet-held, quiet-holds}
pub use Rattle.dk_trace.proofs.Labels.{Says, budget-says, idle-says, kernel-says, slack-label, slack-says}
pub use Rattle.dk_trace.proofs.Loans.{is-lent}
pub use Rattle.dk_trace.proofs.Mains.{after-stopped}
pub use Rattle.dk_trace.proofs.Members.{any-has, contains-has, filter-has, filter-rests, filter_map-has, filter_map-rests, find-grown, find-has, find-none, find-nothing, find-some, flat-has, has-append, has-contains, has-filter, has-filter_map, has-flat_from, has-map, list_any-has, map-alike, map-has, map-rests, new-from, nothing-in, old-there, sum-filter, sum_by-flat, sum_by-map, sum_by-same, sum_by-term}
pub use Rattle.dk_trace.proofs.Orders.{body-less}
pub use Rattle.dk_trace.proofs.Requests.{quiet-want}
pub use Rattle.dk_trace.proofs.Rows.{after-has, dvd-end, family-after, family-among, family-few, family-sum, levels-stay, threads-after, window_end-above}
pub use Rattle.dk_trace.proofs.Same.{same-id, same-self}
pub use Rattle.dk_trace.proofs.Whose.{label-payer, of-thread}
pub use Rattle.dk_trace.proofs.Windows.{unclaimed-few, window-stays}
pub use Rattle.dk_trace.specs.Audit.{Audited, Follows, HasChosenLabel, HasNextSerial, MayHave, ThreadFollows, done_refusal, label_of, row_of, work_of}
pub use Rattle.dk_trace.specs.Choices.{choice_at, chosen, claims_slack_at, denied, holder_at as past_holder_at, on_budget, on_slack, ready_at, slack_at, wish_at, work_at}
pub use Rattle.dk_trace.specs.Demand.{fits, is_tight_at, kernel_demand, own_demand, remaining_demand, sum_starts, thread_demand, windows_left}
pub use Rattle.dk_trace.specs.Entries.{borrower, does, has_event, is_budget_of, is_delete_of, is_end, is_of, is_out_of, is_same, is_wait, kernel_level, main_of, payer, quiet, stops, thread_of, window}
pub use Rattle.dk_trace.specs.Holds.{Hold, aged, blocking, effective_level as past_level, ends_hold, given_back, greatest_left, held_after, held_by, hold_left as past_left, innermost_left, is_held, is_holding, is_innermost as is_past_innermost, least_ceiling, level_holding, thread_blocking}
pub use Rattle.dk_trace.specs.JobSteps.{spent}
pub use Rattle.dk_trace.specs.Jobs.{Job, is_closed, is_stopped_in, job, kernel_rem, rem, thread_body_left, thread_rem}
pub use Rattle.dk_trace.specs.Members.{Has}
pub use Rattle.dk_trace.specs.Refusals.{create_refusal, delete_refusal, first_refusal, is_running_child, lock_refusal as past_lock_refusal, standing_children, unlock_refusal as past_unlock_refusal}
pub use Rattle.dk_trace.specs.Slack.{Request, is_claimed_up_to, is_entering as is_past_entering, is_wishing, last_request, level_of, no_request, older, oldest, request, source as past_source, unclaimed, want, want as past_want}
pub use Rattle.dk_trace.specs.Threads.{Thread, after_entry, child_share, end_of, family, is_ended_by, is_main, is_stopped_before, is_void, lent_at, made_by, main_share, new_rows, share, threads}
pub use Rattle.dk_trace.specs.declared.Choice.{Choice}
pub use Rattle.dk_trace.specs.declared.Entry.{Entry}
pub use Rattle.dk_trace.specs.declared.Event.{Event}
pub use Rattle.dk_trace.specs.declared.Label.{Label}
pub use Rattle.dk_trace.specs.declared.Phase.{Phase}
pub use Rattle.dk_trace.specs.declared.Refusal.{Refusal}
pub use Rattle.dk_trace.specs.declared.Source.{Source}
pub use Rattle.dk_trace.specs.declared.ThreadId.{ThreadId}
pub use Rattle.dk_trace.specs.declared.Work.{Work}
pub use Rattle.dk_windows.specs.Clock.{Clock, begins_at, clock_at, end_at, passed, period_at, start_at}
pub use Rattle.std.proofs.Common.{Bool, List, None, Option, Some, [], add-one, ap, arith, cond, drop, eqb, false, get_or, inl, inr, is_none, leb, length, length-set, ltb, map, max, option_map, refl, set, subst, suc, sym, take, true, zero, ℕ, ◌%◌, ◌&&◌, ◌*◌, ◌++◌, ◌+◌, ◌-◌, ◌/◌, ◌<◌, ◌^◌, ◌||◌, ◌∙◌, ◌∷◌, ◌≡◌, ◌≢◌, ◌≤◌, ◌⊎◌}
pub use Rattle.std.proofs.Math.Bool.{and-false, and-true, or-false, or-true}
pub use Rattle.std.proofs.Math.Nat.{mod-add-mod, mod-eq_of_lt, mod-le, mod-lt}
pub use Rattle.std.proofs.lemmas.Bool.{and_parts, both_ways, cases_Bool, cases_lt, cond-false, cond-true, eq-eqb, eqb-true, leb-false, leb-true, lt-ltb, ltb-false, ltb-true, ne_eqb, not-false, or_parts}
pub use Rattle.std.proofs.lemmas.Bool.Decides.{nat_tests}
pub use Rattle.std.proofs.lemmas.List.{append-nil, append_assoc, get_or-set_same, get_or_past, length-map, length-replicate, map-append}
pub use Rattle.std.proofs.lemmas.List.Elements.{filter-append}
pub use Rattle.std.proofs.lemmas.List.Folds.{find-append}
pub use Rattle.std.proofs.lemmas.List.FromFn.{get_or-map-range_with_len, length-map-range_with_len}
pub use Rattle.std.proofs.lemmas.List.Sums.{sum_by-append, sum_by-cons}
pub use Rattle.std.proofs.lemmas.Option.{slice_get-get_or, slice_get-map, slice_get_within}
pub use Rattle.std.proofs.lemmas.Simd.{map-map}
pub use Rattle.std.specs.Int.{◌∣◌}
pub use Rattle.std.specs.List.{cons_option, flat_map, list_any, range_with_len}
pub use Rattle.std.specs.Option.{option_map_or, option_or}
pub use Rattle.std.specs.Prelude.{All, Contains, IfSome, IsSome, MatchOption, count_by, filter, filter_map, find, if◌then◌else◌, is_some, nat_le, nat_lt, not, replicate, slice_get, slice_index, slice_set, sum_by, unwrap_or, ◌==◌, ◌↔◌}
