-- The names of other libraries and of this crate's specs that proofs here speak of.
pub use Rattle.dk_bound.proofs.Accepted.{no-failing}
pub use Rattle.dk_budget.specs.Book.{Book}
pub use Rattle.dk_budget.specs.Calls.{changed_at as changed_lender, lend_refusal, lent_to, new_loan, stopped_child, stopped_process}
pub use Rattle.dk_budget.specs.Shares.{future_shares}
pub use Rattle.dk_budget.specs.Sound.{ArePeriods}
pub use Rattle.dk_certify.specs.Verdicts.{answer_of, row_of}
pub use Rattle.dk_certify.specs.declared.certifying.Verdict.TheVariants.{Accepted, Fails}
pub use Rattle.dk_certify.specs.declared.table.TableRow.{TableRow}
pub use Rattle.dk_config.proofs.Counting.{length-map-numbers as many-numbers, length-numbers, numbers-next, rows-numbers}
pub use Rattle.dk_config.proofs.FirstOf.{first-at, first-none}
pub use Rattle.dk_config.proofs.Lists.{drop-next, drop-none, drop-some, none-of, slice_set-length}
pub use Rattle.dk_config.proofs.Sums.{sum-next}
pub use Rattle.dk_config.specs.Certification.{budgets_at, level_demand, spare}
pub use Rattle.dk_config.specs.Checked.{IsWithinLimits}
pub use Rattle.dk_config.specs.Configuration.{Configuration}
pub use Rattle.dk_config.specs.Sums.{below, numbers, sum_from}
pub use Rattle.dk_config.specs.Windows.{release, window_end}
pub use Rattle.dk_config.specs.declared.TheConstants.{MAX_CHILDREN, MAX_LEVELS, MAX_SPAN, MAX_THREADS, MAX_TICKS}
pub use Rattle.dk_config.specs.declared.rows.LevelRow.{LevelRow}
pub use Rattle.dk_config.specs.declared.rows.ProcessRow.{ProcessRow}
pub use Rattle.dk_demand.proofs.Changing.{get_or-by_level}
pub use Rattle.dk_demand.specs.Cells.{Cells, dropped_cells, first_unfit, held_cells, no_ticks}
pub use Rattle.dk_demand.specs.Levels.{adjusted, at_level, between, by_level, less, set_to}
pub use Rattle.dk_demand.specs.Waiting.{at_tick}
pub use Rattle.dk_dispatch.specs.Calls.{IsAnswered, IsCreated, IsDone, IsEnding, IsFree, IsInCall, IsNotCreated, IsRefused, Makes, call_refusal, no_child}
pub use Rattle.dk_dispatch.specs.Leading.{Borrows as BorrowsBy, Leads, Runs as RunsBy}
pub use Rattle.dk_dispatch.specs.Levels.{IsFirstWish, IsFirstWork}
pub use Rattle.dk_dispatch.specs.Questions.{IsTelling, IsTellingAt}
pub use Rattle.dk_dispatch.specs.Standing.{Dispatched, HasSlot, Stands, StandsAt, dispatched, slots as seen}
pub use Rattle.dk_dispatch.specs.Sums.{IsAdded}
pub use Rattle.dk_dispatch.specs.Ticks.{Borrows, Goes, HasRow, IsShut, IsWhole, MayLend, MayRun, Runs}
pub use Rattle.dk_dispatch.specs.contracts.tables.AllTables.{the_view}
pub use Rattle.dk_dispatch.specs.declared.tables.choosing.FirstWork.{FirstWork}
pub use Rattle.dk_dispatch.specs.declared.tables.leading.Lead.{Lead}
pub use Rattle.dk_dispatch.specs.declared.tables.lending.Borrower.{Borrower}
pub use Rattle.dk_dispatch.specs.declared.tables.running.Runner.{Runner}
pub use Rattle.dk_mutex.specs.Front.{RunsFirst}
pub use Rattle.dk_mutex.specs.Recount.{hold_at, last_locked}
pub use Rattle.dk_mutex.specs.Rows.{ceiling_of, holder_left, is_by, is_holder, is_within, joined, least, left_up_to, lowered, spent as spent_row}
pub use Rattle.dk_mutex.specs.Table.{effective_level, given_to, hold_left, hold_of, holder_at, holds_within, innermost, is_free, left_at, lock_refusal}
pub use Rattle.dk_mutex.specs.declared.row.Holder.{Holder}
pub use Rattle.dk_mutex.specs.declared.row.Lockable.{Lockable}
pub use Rattle.dk_past.specs.Noted.{noted}
pub use Rattle.dk_past.specs.Past.{Booked, Charged, Closed, Past, Ready, Tick, call_entry, call_label, choice_at, closed, entries_after, later, told, told_at, with_entry, with_event}
pub use Rattle.dk_past.specs.declared.history.Note.{Note}
pub use Rattle.dk_rail.specs.Queues.{holder, queue_at}
pub use Rattle.dk_ready.proofs.Moving.{seat-then}
pub use Rattle.dk_ready.proofs.Numbers.{map-same}
pub use Rattle.dk_ready.proofs.Seated.{is-seated, next-free}
pub use Rattle.dk_ready.specs.First.{IsComputing, IsComputingFor}
pub use Rattle.dk_ready.specs.Recount.{seat_of}
pub use Rattle.dk_ready.specs.Roster.{Roster, closed_on, dropped_on, left_on, new_job, released, seat_at, spent_on, told_phase, vacant}
pub use Rattle.dk_ready.specs.declared.first.First.{First}
pub use Rattle.dk_ready.specs.declared.seat.Seat.{Seat}
pub use Rattle.dk_recount.proofs.Cells.{by-nothing, by-same, by-twice, freed-more, freed-none, held-none, unfreed-at}
pub use Rattle.dk_recount.proofs.Closing.{booked-closed}
pub use Rattle.dk_recount.proofs.Computing.{sound-computed}
pub use Rattle.dk_recount.proofs.Facing.{found-own}
pub use Rattle.dk_recount.proofs.Open.RowByRow.{given-append, known-split, quieted-append, rows-next, shares-append, sit-split, steps-append}
pub use Rattle.dk_recount.proofs.Open.Sizes.{cells-windows, counts-length, given-lists, given-seats, parts-length, quieted-length}
pub use Rattle.dk_recount.proofs.Slots.{keeps-slots}
pub use Rattle.dk_recount.proofs.Start.Building.{fill-all, fill-more, fill-none, filled, part_filled}
pub use Rattle.dk_recount.proofs.Start.Recount.{start-sound}
pub use Rattle.dk_recount.proofs.Stop.Shut.{may-first, may-rest, next-running, one-more, shut-join, shut-kernel, shut-loans, shut-threads, shut-windows}
pub use Rattle.dk_recount.proofs.Stretching.{asks-nothing, nobody-chosen}
pub use Rattle.dk_recount.specs.Charging.{HasWork, MayBudget, MayCharge, MayCount, MayKernel, MaySlack, OwnsFront, charged, counts, level_in}
pub use Rattle.dk_recount.specs.Choosing.{HasNoWish, HasNoWork, budget_of, choice_in, choice_of, claims_in, claims_slack, first_worker, fits_in, kernel_left, loan_of, on_share, slack_in, work_in}
pub use Rattle.dk_recount.specs.Counts.{moved, stopped}
pub use Rattle.dk_recount.specs.Creating.{MayCreate, child_row, free_node, new_seat, with_child}
pub use Rattle.dk_recount.specs.Events.{CallIsRight, IsCalling, IsUntold, MayAsk, asked, body_in, cells_held, has_right, locked, slack_refusal_in}
pub use Rattle.dk_recount.specs.Facing.{CallerIsThere, CallersHaveSlots, Creates, HasOwn, IsNewRow, Keeps, slots}
pub use Rattle.dk_recount.specs.Jobs.{MayClose, job_closed}
pub use Rattle.dk_recount.specs.Opening.{AreKnown, CanAllSit, MayBegin, all_rows, begin_steps, begun_if, cell_steps, cells_begun, cells_set, counts_begun, due, given, given_steps, is_between, kernel_work, opened, own_in, parts_begun, quieted, quieted_one, remaining_in, rows_from, rows_in, share_in, shares_in, shares_to_come}
pub use Rattle.dk_recount.specs.Premises.{WhereReady}
pub use Rattle.dk_recount.specs.Process.{MayShutAll, StopsProcess, cells_lost, running_at, running_children, shut_all, without_process, without_thread}
pub use Rattle.dk_recount.specs.Questions.{TellsOf, booked, ready, ready_in}
pub use Rattle.dk_recount.specs.Recount.{IsBooked, IsCharged, IsClosed, IsReady, IsRecount, IsRuled, kernel_part}
pub use Rattle.dk_recount.specs.Start.{own_of, seated}
pub use Rattle.dk_recount.specs.Stopping.{StopsChild, cells_freed, child_of, delete_refusal_in, node_on, running_child, shut, without_child, without_running}
pub use Rattle.dk_recount.specs.Stretching.{Computes, EndsAfter, HasRoomFor, IsPassed, Lends, MayCountFor, MayLend as MayLendBy, MayRun as MayRunBy, Passes, computed, counts_for, lent, rested}
pub use Rattle.dk_recount.specs.Tables.{HasFamilies, IsSound, Tables, node_in}
pub use Rattle.dk_slack.proofs.Lent.{entered-lowered, first-lowered}
pub use Rattle.dk_slack.specs.Ahead.{IsAhead}
pub use Rattle.dk_slack.specs.Recount.{spares_of}
pub use Rattle.dk_slack.specs.Slack.{Slack, at_start}
pub use Rattle.dk_slack.specs.Unclaimed.{counted_for, source as source_of}
pub use Rattle.dk_slack.specs.Wishes.{asked as asked_wish, dropped, first_node, is_entering, spent as spent_wish, spent_for, want}
pub use Rattle.dk_slack.specs.declared.table.ahead.Ahead.{Ahead}
pub use Rattle.dk_threads.proofs.Births.{begun-found}
pub use Rattle.dk_threads.proofs.Descent.{process-descends, stop-descends}
pub use Rattle.dk_threads.proofs.NamedRows.{few-children, found-fits}
pub use Rattle.dk_threads.proofs.Stops.{steps-next}
pub use Rattle.dk_threads.specs.Recount.{counted_rows, entry_of, has_row, is_there, main_id, unplaced}
pub use Rattle.dk_threads.specs.Rows.{AreChildren, ends_at, is_row_of, kept, started}
pub use Rattle.dk_threads.specs.Table.{AreFamilies, Table, all_stopped, begun, changed_at, changed_at as changed_family, child_stopped, children_at, family_ended, family_started, find_row, free_slot, is_child, is_running, new_row, next_id, rows_of, runs, serials_at, stands}
pub use Rattle.dk_threads.specs.declared.family.Family.{Family}
pub use Rattle.dk_threads.specs.declared.row.State.{State}
pub use Rattle.dk_threads.specs.declared.row.ThreadRow.{ThreadRow}
pub use Rattle.dk_trace.proofs.Charged.{quiet-follows}
pub use Rattle.dk_trace.proofs.Members.{any-has, find-has}
pub use Rattle.dk_trace.proofs.Orders.{body-less}
pub use Rattle.dk_trace.proofs.Same.{same-id, same-self}
pub use Rattle.dk_trace.specs.Audit.{Audited, HasChosenLabel, label_of, work_of}
pub use Rattle.dk_trace.specs.Choices.{chosen, denied}
pub use Rattle.dk_trace.specs.Entries.{is_of, is_same, main_of, quiet, thread_of}
pub use Rattle.dk_trace.specs.Holds.{Hold, held_by, hold_left as past_left, innermost_left}
pub use Rattle.dk_trace.specs.JobSteps.{HasBody, spent, worked_for}
pub use Rattle.dk_trace.specs.Jobs.{Job, body_left, phase, rem, thread_body_left}
pub use Rattle.dk_trace.specs.Members.{Has}
pub use Rattle.dk_trace.specs.Refusals.{first_refusal}
pub use Rattle.dk_trace.specs.Slack.{want as past_want}
pub use Rattle.dk_trace.specs.Threads.{Thread, threads}
pub use Rattle.dk_trace.specs.declared.Choice.{Choice}
pub use Rattle.dk_trace.specs.declared.Entry.{Entry}
pub use Rattle.dk_trace.specs.declared.Event.{Event}
pub use Rattle.dk_trace.specs.declared.Label.{Label}
pub use Rattle.dk_trace.specs.declared.Phase.{Phase}
pub use Rattle.dk_trace.specs.declared.Refusal.{Refusal}
pub use Rattle.dk_trace.specs.declared.Source.{Source}
pub use Rattle.dk_trace.specs.declared.ThreadId.{ThreadId}
pub use Rattle.dk_trace.specs.declared.Work.{Work}
pub use Rattle.dk_windows.specs.Clock.{Clock, begins_at, clock_at, end_at, passed, period_at}
pub use Rattle.std.proofs.Common.{Bool, List, None, Option, Some, [], add-one, ap, arith, cond, drop, eqb, false, get_or, inl, inr, leb, length, length-append, ltb, map, not, option_map, refl, rules, set, subst, suc, sym, take, true, zero, ℕ, ◌%◌, ◌&&◌, ◌*◌, ◌++◌, ◌+◌, ◌-◌, ◌/◌, ◌<◌, ◌^◌, ◌∙◌, ◌∷◌, ◌≡◌, ◌≢◌, ◌≤◌}
pub use Rattle.std.proofs.Math.ListN.{length-set}
pub use Rattle.std.proofs.Math.Nat.{mul-le-mul_left}
pub use Rattle.std.proofs.lemmas.Bool.{and_parts, cases_Bool, cases_lt, cond-false, cond-true, eq-eqb as eqb-on, or_parts}
pub use Rattle.std.proofs.lemmas.Bool.Decides.{nat_tests}
pub use Rattle.std.proofs.lemmas.List.{get_or-set_other, get_or-set_same, get_or_past, length-map, length-replicate, map_more, take_all}
pub use Rattle.std.proofs.lemmas.List.Sums.{sum_by-cons, sum_by-le}
pub use Rattle.std.proofs.lemmas.Option.{slice_get-get_or, slice_get-map, slice_get_past, slice_get_within}
pub use Rattle.std.specs.List.{cons_option, list_any, position_from}
pub use Rattle.std.specs.Option.{option_map_or, option_or}
pub use Rattle.std.specs.Prelude.{Err, IfOk, IfSome, IsSome, MatchOption, MatchResult, Ok, Result, filter, filter_map, find, if◌then◌else◌, is_none, is_some, nat_lt, replicate, slice_get, slice_index, slice_set, sum_by, unwrap_or, ◌==◌, ◌||◌}
