-- The names of other libraries and of this crate's specs that proofs here speak of.
pub use Rattle.dk_bound.specs.ByWhen.{AllByWhen, BoundIsMet, ByWhen, HasHad, IsPlainFor}
pub use Rattle.dk_bound.specs.Callers.{AreNested, CallerStands, CallersRun, CallersStand, HoldsNest}
pub use Rattle.dk_bound.specs.ClockMoves.{ClockKeeps, WindowsAreDone, WindowsRelease, begins, starting_shares}
pub use Rattle.dk_bound.specs.EventCases.{EventKeeps, IsClosedAlone, IsMainsEnd, OneIsClosed, ProcessIsClosed, StopsFreeBlocking, WhoCloses, changes_holds, may_close}
pub use Rattle.dk_bound.specs.EventMoves.{EventCloses, EventKeepsKernel, EventLowersOwn, EventLowersRem, EventLowersRemaining, EventMovesBlocking, EventMovesHolds, GivenUp, NewHaveNothing, closed_if, closes, given_up, given_up_by, lost_shares}
pub use Rattle.dk_bound.specs.HoldMoves.{BlockingIsByHolds, LockRaisesBlocking, NothingBlocksAtStart, TickAgesHolds, TickBlocksByHolds, TickLowersBlocking, UnlockLowersBlocking, holds_part, lies_between}
pub use Rattle.dk_bound.specs.Lasting.{AskersLast}
pub use Rattle.dk_bound.specs.Laws.{AcceptsUnfailing, Always, AlwaysGranted}
pub use Rattle.dk_bound.specs.Moves.{AtEachEntry, AtEachTick, released, shares_to_come}
pub use Rattle.dk_bound.specs.ReadyMoves.{ClockMovesReady, EventKeepsReady, ids_of, is_ready, ready}
pub use Rattle.dk_bound.specs.Rows.{AbsentHaveNothing, FamiliesStand, IdsTellLevels, RowsAreNamed, is_gone}
pub use Rattle.dk_bound.specs.Standing.{AskersThere, ChoiceHolds, ChosenHolds, HasWork, HoldersKnown, IsThere, StartsWithBudgets, StartsWithDemand, ThreadsPlaced}
pub use Rattle.dk_bound.specs.Statements.{BeginsFree, BlocksAtMost, ChoosesKnown, ChoosesWithCause, DemandFits, DenialIsTight, DeniedFor, EndsSpent, HasCause, HolderStands, HoldersStand, IsDenied, IsKnown, LastTickExecutes, LevelsDiffer, LockFindsFree, OneBlocks, SourceFits, TimelineFits, chosen_thread}
pub use Rattle.dk_bound.specs.TickMoves.{TickKeepsThreads, TickLowersKernel, TickLowersOwn, TickLowersRem, TickLowersRemaining, TickMovesBlocking, TickSpends, worked, working_level}
pub use Rattle.dk_config.proofs.CheckedConfig.{use_of}
pub use Rattle.dk_config.proofs.FirstOf.{IsFirst, NoAnswer, first-none, first_of-is, option_map-some, option_or-none}
pub use Rattle.dk_config.proofs.Lists.{or-none}
pub use Rattle.dk_config.proofs.Progressions.{from_start, sum_every-add, sum_every-below, sum_every-each, sum_every-eq, sum_every-rows, sum_every-same, sum_every-zero}
pub use Rattle.dk_config.proofs.Sums.{sum_every-at_most, sum_from-add, sum_from-eq, sum_from-le, sum_from-same, sum_from-term, sum_from-zero}
pub use Rattle.dk_config.specs.Ahead.{IsEnough, NoFasterSlack, ahead, budgets_begun, level_ahead, may_come_before, process_ahead, slowest_before, slowest_up_to, stands_after, windows_begun}
pub use Rattle.dk_config.specs.Certification.{can_block, fails_at, first_failing, is_user, level_blocking, level_demand, uses}
pub use Rattle.dk_config.specs.Checked.{IsAccepted, IsChecked}
pub use Rattle.dk_config.specs.Configuration.{Configuration}
pub use Rattle.dk_config.specs.Sums.{below, first_of, greatest, numbers, sum_every, sum_from, sum_up_to}
pub use Rattle.dk_config.specs.Windows.{budget, ceiling, longest_hold, main_level, max_level, may_ask, period, release, slots, window_end, window_start}
pub use Rattle.dk_config.specs.declared.TheConstants.{MAX_SPAN}
pub use Rattle.dk_trace.proofs.Charged.{family-charged, job-charged, quiet-stops, same-job, share-charged, the_job}
pub use Rattle.dk_trace.proofs.Chosen.{Passed, Reason, Turn, by_hold, by_share, chosen-reason, kernel_first, no-demand, no-work, nothing, now_rem, slack_first, thread_first, turn-of, wishing-none}
pub use Rattle.dk_trace.proofs.Distinct.{Distinct, Numbered-Distinct, Numbered-serial, same-row, sum-one}
pub use Rattle.dk_trace.proofs.Entered.{Kind, acts-of, done-event, idle, kernel, kind, kind-label, lent, paid, same-thread, ticks-of}
pub use Rattle.dk_trace.proofs.Events.{actor-follows, new-row, none-holds, not-main-of, whose}
pub use Rattle.dk_trace.proofs.Exchange.{sum-exchange, sum-only}
pub use Rattle.dk_trace.proofs.Fair.{AllFair, Fair, kernel_works, nobody, thread_borrows, thread_works}
pub use Rattle.dk_trace.proofs.Families.{IsToCome, both-zero, child_row, children, claim_of, claims, family-children, lent_at-children, lent_of, rows-step}
pub use Rattle.dk_trace.proofs.Holds.{aged-held, aged-holding, ceiling-aged, ceiling-most, held-mine, held-other, held-stopped, quiet-held}
pub use Rattle.dk_trace.proofs.Labels.{budget-labels, chosen-says, kernel-none, kernel_paid-level, slack-labels, spent-payer}
pub use Rattle.dk_trace.proofs.LevelDemand.{budget_at, budgets_at-sum, kernel-begins, level_demand-sum, paid_by_kernel, term-at_level}
pub use Rattle.dk_trace.proofs.Loans.{lent-fits}
pub use Rattle.dk_trace.proofs.Mains.{main_id, main_row, main_stop, stopped_before-same, window_start-within}
pub use Rattle.dk_trace.proofs.Members.{find-flat, find-has, find-some, flat-has, get-has, has-flat, has-length, has-numbers, list_any-has, numbers-has, sum_by-add, sum_by-flat, sum_by-le, sum_by-less, sum_by-map, sum_by-same, sum_by-term, sum_by-zero}
pub use Rattle.dk_trace.proofs.Orderly.{begin-order, begins-open, charge-new, charge-row, charged-order, job-moves, job_at, jobs-in-order, new-quiet, new-silent, stays-closed}
pub use Rattle.dk_trace.proofs.Orders.{InOrder, Ticks, rem-shut}
pub use Rattle.dk_trace.proofs.Requests.{request-left, request-window}
pub use Rattle.dk_trace.proofs.Rows.{IsChild, child-has, child-new, child-of, dvd-end, family-some, has-next, main-has, main-or-child, main_stop-old, row-of, rows-of, window_end-above}
pub use Rattle.dk_trace.proofs.RowsFit.{RowFits, ThreadsFit, among-threads, family-fits, new-numbered, row-stays, threads-fit}
pub use Rattle.dk_trace.proofs.Same.{make-id, same-id, same-self}
pub use Rattle.dk_trace.proofs.Shares.{child-same_at, lent-same, share-child, share-main, share-new, share-same}
pub use Rattle.dk_trace.proofs.Silent.{Quiet, children-with-main, closed-stopped, gone-not-acting, gone-quiet, quiet-drop, quiet-outs, quiet-take, quiet-used, stopped-no-event, stopped-share, stopped-test, stops-child, stops-main, want-closed, want-gone, wish-wants}
pub use Rattle.dk_trace.proofs.Spans.{shares-as-claims, starts-before, window_end-slower}
pub use Rattle.dk_trace.proofs.Starts.{begins-together, kernel_paid, left-at_start, one_or_none, pays, starts-begins, starts-within}
pub use Rattle.dk_trace.proofs.Whose.{budget-not, label-borrower, label-nobody, label-payer, of-borrower, of-nobody, of-payer, of-thread, payer-budget_of, payer-none, thread-of}
pub use Rattle.dk_trace.proofs.Windows.{count-begins, count-charged, mod-next, paid-le, spent, window-begins, window-charged, window_start-le}
pub use Rattle.dk_trace.specs.Audit.{Audited, Follows, HasChosenLabel, HasNextSerial, MayHave, ThreadFollows, done_refusal, label_of, next_serial, row_of, without_event, work_of}
pub use Rattle.dk_trace.specs.Choices.{choice_at, chosen, claims_slack_at, denied, holder_at, on_budget, on_slack, ready_at, slack_at, wish_at, work_at}
pub use Rattle.dk_trace.specs.Demand.{fits, fits_at, is_tight_at, kernel_demand, own_demand, remaining_demand, sum_starts, thread_demand, windows_left}
pub use Rattle.dk_trace.specs.Entries.{borrower, does, has_event, is_budget_of, is_delete_of, is_end, is_kernel_at, is_of, is_out_of, is_same, is_wait, kernel_level, main_of, payer, quiet, stops, thread_of, window}
pub use Rattle.dk_trace.specs.Guarantees.{Bounded, Granted, HadShare, KernelBounded, KernelReceived, Received, ThreadsBounded, ThreadsReceived, job_from, kernel_from, past_at}
pub use Rattle.dk_trace.specs.Holds.{Hold, aged, blocking, effective_level, ends_hold, given_back, greatest_left, held_after, held_by, hold_left, hold_left as past_left, innermost_left, is_held, is_holder, is_holding, is_innermost, least_ceiling, level_holding, thread_blocking}
pub use Rattle.dk_trace.specs.JobSteps.{spent as spent_job}
pub use Rattle.dk_trace.specs.Jobs.{Job, body_left, is_closed, job, kernel_rem, phase, rem, thread_body_left, thread_rem}
pub use Rattle.dk_trace.specs.Members.{Has}
pub use Rattle.dk_trace.specs.Refusals.{delete_reasons, is_running_child, lock_reasons, lock_refusal}
pub use Rattle.dk_trace.specs.Slack.{asked, is_entering, is_wishing, last_request, level_of, no_request, oldest, request, source, want}
pub use Rattle.dk_trace.specs.Threads.{Thread, after_entry, child_share, family, is_ended_by, is_main, is_void, main_thread, new_rows, share, threads}
pub use Rattle.dk_trace.specs.declared.Choice.{Choice}
pub use Rattle.dk_trace.specs.declared.Entry.{Entry}
pub use Rattle.dk_trace.specs.declared.Event.{Event}
pub use Rattle.dk_trace.specs.declared.Label.{Label}
pub use Rattle.dk_trace.specs.declared.Phase.{Phase}
pub use Rattle.dk_trace.specs.declared.Refusal.{Refusal}
pub use Rattle.dk_trace.specs.declared.Source.{Source}
pub use Rattle.dk_trace.specs.declared.ThreadId.{ThreadId}
pub use Rattle.dk_trace.specs.declared.Work.{Work}
pub use Rattle.std.proofs.Common.{Bool, IsTrue, List, [], ap, arith, cond, drop, eqb, false, inl, inr, leb, length, ltb, not, refl, subst, suc, sym, take, true, zero, ℕ, ◌%◌, ◌&&◌, ◌*◌, ◌++◌, ◌+◌, ◌-◌, ◌/◌, ◌<◌, ◌==◌, ◌||◌, ◌∙◌, ◌∷◌, ◌≡◌, ◌≤◌, ◌⊎◌}
pub use Rattle.std.proofs.Math.Bool.{and-false}
pub use Rattle.std.proofs.Math.Nat.{div_self, mod-mod_of_dvd, zero-div, zero-mod}
pub use Rattle.std.proofs.lemmas.Bool.{and_from, and_parts, and_right, cases_Bool, cases_eq, cases_lt, not-false, or_parts}
pub use Rattle.std.proofs.lemmas.Bool.Decides.{nat_tests}
pub use Rattle.std.proofs.lemmas.List.{length-append, length-drop, length-map}
pub use Rattle.std.proofs.lemmas.List.Sums.{sum_by-append, sum_by-cons}
pub use Rattle.std.proofs.lemmas.Nat.Gcd.{dvd_of_mod-eq-zero, dvd_trans, mod-eq-zero_of_dvd}
pub use Rattle.std.specs.Bool.{then_some}
pub use Rattle.std.specs.Int.{◌∣◌}
pub use Rattle.std.specs.List.{list_all, list_any}
pub use Rattle.std.specs.Option.{option_map_or, option_or}
pub use Rattle.std.specs.Prelude.{MatchOption, None, Option, Some, count_by, filter, find, flat_map, if◌then◌else◌, is_none, is_some, map, min, nat_le, nat_lt, option_map, sum_by, unwrap_or}
