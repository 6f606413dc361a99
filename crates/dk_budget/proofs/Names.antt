-- The names of other libraries and of this crate's specs that proofs here speak of.
pub use Rattle.arrayvec.specs.ArrayVec.{ArrayVec}
pub use Rattle.dk_budget.specs.Book.{Book, book_of, lender_of, period_in}
pub use Rattle.dk_budget.specs.Calls.{all_given_back, changed_at, changed_row, given_back, lend_reasons, lend_refusal, lent_to, new_loan, stopped_child, stopped_process, with_loans}
pub use Rattle.dk_budget.specs.Loans.{after_stop, is_before, is_ended_at, is_in_force, lent, lent_at, not_ended_at, stopped, stopped_one}
pub use Rattle.dk_budget.specs.Recount.{HasSlowerChildren, IsChildOf, IsFamilyOf, MakesChild, StopsOnly, counted_lender, counted_loan, counted_stop, recount}
pub use Rattle.dk_budget.specs.Shares.{child_future, child_share, future_shares, main_future, main_share, of_lender, present_child_share, present_main_share, quota_at, sum_over, sum_starts, windows_left}
pub use Rattle.dk_budget.specs.Sound.{ArePeriods, IsSound, IsSoundLender}
pub use Rattle.dk_budget.specs.declared.lender.Lender.{Lender}
pub use Rattle.dk_budget.specs.declared.loan.Loan.{Loan}
pub use Rattle.dk_budget.specs.declared.starts.Starts.{Starts}
pub use Rattle.dk_config.proofs.Budgets.{of_row}
pub use Rattle.dk_config.proofs.Progressions.{sum_every-add, sum_every-each, sum_every-rows, sum_every-zero}
pub use Rattle.dk_config.proofs.Refills.{refill-whole}
pub use Rattle.dk_config.specs.Certification.{budgets_at}
pub use Rattle.dk_config.specs.Checked.{IsAccepted, IsChecked, IsWithinLimits}
pub use Rattle.dk_config.specs.Configuration.{Configuration}
pub use Rattle.dk_config.specs.Sums.{sum_every, sum_from}
pub use Rattle.dk_config.specs.Windows.{budget, main_level, max_level, period, release, slots, window_end, window_start}
pub use Rattle.dk_config.specs.declared.TheConstants.{MAX_LEVELS, MAX_PROCESSES, MAX_SPAN}
pub use Rattle.dk_config.specs.declared.rows.LevelRow.{LevelRow}
pub use Rattle.dk_config.specs.declared.rows.ProcessRow.{ProcessRow}
pub use Rattle.dk_trace.proofs.Charged.{family-charged}
pub use Rattle.dk_trace.proofs.Rows.{window_end-above}
pub use Rattle.dk_trace.specs.Entries.{is_of, quiet, stops}
pub use Rattle.dk_trace.specs.Members.{Has}
pub use Rattle.dk_trace.specs.Refusals.{create_refusal, first_refusal, least_share, standing_children}
pub use Rattle.dk_trace.specs.Threads.{Thread, after_entry, end_of, family, is_ended_by, is_lent_at, is_main, is_stopped_before, is_void, made_by, main_thread, share}
pub use Rattle.dk_trace.specs.declared.Entry.{Entry}
pub use Rattle.dk_trace.specs.declared.Label.{Label}
pub use Rattle.dk_trace.specs.declared.Refusal.{Refusal}
pub use Rattle.dk_trace.specs.declared.ThreadId.{ThreadId}
pub use Rattle.dk_windows.specs.Clock.{Clock, clock_at, end_at, period_at, periods_of, start_at}
pub use Rattle.std.proofs.Common.{Bool, List, None, Option, Some, [], add-one, ap, arith, cond, drop, eqb, false, get_or, inl, inr, length, length-append, map, min, option_to_list, refl, set, subst, suc, sym, take, true, zero, ℕ, ◌%◌, ◌*◌, ◌++◌, ◌+◌, ◌-◌, ◌/◌, ◌<◌, ◌^◌, ◌||◌, ◌∙◌, ◌∷◌, ◌≡◌, ◌≤◌}
pub use Rattle.std.proofs.Math.ListN.{length-set}
pub use Rattle.std.proofs.Math.Nat.{div-add-mod, div-add-mod', div-eq_of_lt, div_self, dvd-add, dvd-mul_right, dvd-sub, dvd_refl, dvd_trans, le-div_iff_mul-le, le_of_dvd, mod-lt, mul-div_cancel', mul-le-mul}
pub use Rattle.std.proofs.lemmas.Bool.{cases_Bool, cases_lt, eq-eqb}
pub use Rattle.std.proofs.lemmas.Bool.Decides.{nat_tests}
pub use Rattle.std.proofs.lemmas.List.{append-nil, at_drop_more, length-map, length-take-le, map-append, take_all, take_more}
pub use Rattle.std.proofs.lemmas.List.Edits.{map_over_more}
pub use Rattle.std.proofs.lemmas.List.Elements.{All-filter, All-from_get_or, All-head, All-map, All-nil, All-push, All-set, All-tail, All-weaker, filter-append}
pub use Rattle.std.proofs.lemmas.List.Folds.{find-append}
pub use Rattle.std.proofs.lemmas.List.FromFn.{get_or-map-range_with_len, get_or-range_with_len, length-map-range_with_len, length-range_with_len, map-range_with_len_more}
pub use Rattle.std.proofs.lemmas.List.Sums.{count_by-le-length, get_or-le-sum_by, length-filter, sum_by-cons, sum_by_more, sum_by_push}
pub use Rattle.std.proofs.lemmas.Option.{get_or_from_slice_get, slice_get-get_or, slice_get_within}
pub use Rattle.std.specs.Bool.{then_some}
pub use Rattle.std.specs.Int.{◌∣◌}
pub use Rattle.std.specs.List.{cons_option, filter_map, list_any, range_with_len, refill}
pub use Rattle.std.specs.Option.{option_map_or, option_or}
pub use Rattle.std.specs.Prelude.{All, filter, find, if◌then◌else◌, is_some, nat_le, nat_lt, not, option_map, slice_get, slice_set, sum_by, ◌&&◌, ◌==◌}
