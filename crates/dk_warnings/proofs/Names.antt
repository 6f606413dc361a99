-- The names of other libraries and of this crate's specs that proofs here speak of.
pub use Rattle.dk_bound.specs.Laws.{Always}
pub use Rattle.dk_bound.specs.Standing.{ChoiceHolds, ChosenHolds, ThreadsPlaced}
pub use Rattle.dk_bound.specs.Statements.{ChoosesWithCause, HasCause, Works}
pub use Rattle.dk_config.specs.Certification.{can_block, is_user, spare, uses}
pub use Rattle.dk_config.specs.Checked.{IsAccepted, IsChecked, IsWithinLimits}
pub use Rattle.dk_config.specs.Configuration.{Configuration}
pub use Rattle.dk_config.specs.Mutex.{Mutex}
pub use Rattle.dk_config.specs.Sums.{below, first_of, greatest, numbers}
pub use Rattle.dk_config.specs.Windows.{budget, ceiling, longest_hold, main_level, max_level, may_ask, period, process_name, slots, window_end, window_start}
pub use Rattle.dk_config.specs.declared.rows.ProcessRow.{ProcessRow}
pub use Rattle.dk_trace.proofs.Charged.{family-charged, job-charged, quiet-stops, share-charged, the_job}
pub use Rattle.dk_trace.proofs.Events.{IsNew, new-row, none-holds}
pub use Rattle.dk_trace.proofs.Labels.{budget-labels, slack-labels}
pub use Rattle.dk_trace.proofs.Members.{find-has, has-append, has-flat, has-map, has-numbers, numbers-has}
pub use Rattle.dk_trace.proofs.RowsFit.{RowFits, among-threads, family-fits}
pub use Rattle.dk_trace.proofs.Same.{make-id, same-id, same-self}
pub use Rattle.dk_trace.specs.Audit.{Audited, Follows, HasChosenLabel, MayHave, ThreadFollows, done_refusal, label_of, row_of, work_of}
pub use Rattle.dk_trace.specs.Choices.{chosen}
pub use Rattle.dk_trace.specs.Entries.{borrower, does, is_budget_of, is_out_of, is_same, is_wait, payer, quiet, thread_of, window}
pub use Rattle.dk_trace.specs.Guarantees.{Received, ThreadsReceived, job_from, past_at}
pub use Rattle.dk_trace.specs.Holds.{held_by, innermost_left, is_held, is_holding}
pub use Rattle.dk_trace.specs.Jobs.{Job, body_left, is_closed, is_stopped_in, job, phase, rem, thread_body_left}
pub use Rattle.dk_trace.specs.Members.{Has}
pub use Rattle.dk_trace.specs.Refusals.{create_refusal, first_refusal, least_share, lock_reasons, lock_refusal, standing_children}
pub use Rattle.dk_trace.specs.Threads.{Thread, child_share, family, is_ended_by, is_main, is_stopped_before, is_void, main_thread, share, threads}
pub use Rattle.dk_trace.specs.declared.Choice.{Choice}
pub use Rattle.dk_trace.specs.declared.Entry.{Entry}
pub use Rattle.dk_trace.specs.declared.Event.{Event}
pub use Rattle.dk_trace.specs.declared.Label.{Label}
pub use Rattle.dk_trace.specs.declared.Phase.{Phase}
pub use Rattle.dk_trace.specs.declared.Refusal.{Refusal}
pub use Rattle.dk_trace.specs.declared.ThreadId.{ThreadId}
pub use Rattle.dk_trace.specs.declared.Work.{Work}
pub use Rattle.dk_warnings.specs.Fitting.{IsLocked}
pub use Rattle.dk_warnings.specs.Found.{body, fastest_of, fastest_user, full_level, has_no_child, is_long_hold, is_own_mutex, long_hold, no_child, no_spare, of_mutex, of_process, of_user, own_mutex, room, short_body, user_count, warnings}
pub use Rattle.dk_warnings.specs.Told.{CreatesRefused, IsFirstFull, LocksAsMain, LocksNever, MakesNoChild, OfEachEntry, Says, TakesNoSpare, main_named}
pub use Rattle.dk_warnings.specs.Warnings.{IsRefused, IsRoom, LocksRefused, NeverFits, NeverLocked, greatest_child_share, greatest_share}
pub use Rattle.std.proofs.Common.{Bool, List, [], ap, append-nil, append_assoc, arith, cond, drop, eqb, false, flat_map, inl, inr, leb, length, ltb, max, refl, rules, subst, suc, sym, take, true, zero, ℕ, ◌%◌, ◌*◌, ◌++◌, ◌+◌, ◌-◌, ◌/◌, ◌<◌, ◌||◌, ◌∙◌, ◌∷◌, ◌≡◌, ◌≤◌, ◌⊎◌}
pub use Rattle.std.proofs.Math.Nat.{add-mod, div-mul-le_self, le_of_dvd, mod-eq_of_lt, mul-le-mul, zero-mod}
pub use Rattle.std.proofs.lemmas.Bool.{and_parts, cases_Bool, cases_lt, eq-eqb, le-ltb, lt-leb, not-false, or_from}
pub use Rattle.std.proofs.lemmas.Bool.Decides.{nat_tests}
pub use Rattle.std.specs.List.{list_any}
pub use Rattle.std.specs.Option.{option_map_or, option_or}
pub use Rattle.std.specs.Prelude.{IsTrue, MatchOption, None, Option, Some, count_by, filter, find, if◌then◌else◌, map, nat_le, not, option_map, option_to_list, slice_get, ◌&&◌}
