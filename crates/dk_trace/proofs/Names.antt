-- The names of other libraries and of this crate's specs that proofs here speak of.
pub use Rattle.dk_config.proofs.FirstOf.{IsFirst, NoAnswer, first_of-is, option_map-none, option_map-some, option_or-none}
pub use Rattle.dk_config.proofs.Lists.{or-none}
pub use Rattle.dk_config.proofs.Progressions.{from_start, shares-in-windows, starts-whole, sum_every-each, sum_every-eq, sum_every-same, sum_every-split}
pub use Rattle.dk_config.proofs.Sums.{sum_by-places, sum_from-add, sum_from-eq, sum_from-swap, sum_from-term, sum_from-times}
pub use Rattle.dk_config.specs.Certification.{budgets_at, level_demand}
pub use Rattle.dk_config.specs.Checked.{IsChecked}
pub use Rattle.dk_config.specs.Configuration.{Configuration}
pub use Rattle.dk_config.specs.Sums.{below, first_of, numbers, sum_every, sum_from}
pub use Rattle.dk_config.specs.Windows.{budget, ceiling, main_level, max_level, period, release, slots, window_end, window_start}
pub use Rattle.dk_config.specs.declared.ProcessRow.{ProcessRow}
pub use Rattle.dk_trace.specs.Audit.{Audited, Follows, HasChosenLabel, HasNextSerial, MayHave, ThreadFollows, done_refusal, label_of, row_of, without_event, work_of}
pub use Rattle.dk_trace.specs.Choices.{choice_at, chosen, holder_at, on_budget, on_slack, ready_at, slack_at, wish_at, work_at}
pub use Rattle.dk_trace.specs.Demand.{fits, kernel_demand, own_demand, sum_starts, windows_left}
pub use Rattle.dk_trace.specs.Entries.{borrower, does, is_budget_of, is_delete_of, is_end, is_kernel_at, is_of, is_out, is_out_of, is_same, is_slack_of, is_wait, kernel_level, main_of, payer, quiet, stops, thread_of, window}
pub use Rattle.dk_trace.specs.Holds.{Hold, aged, blocking, effective_level, given_back, held_after, held_by, innermost_left, is_held, is_holder, is_holding, is_innermost as is_past_innermost, least_ceiling, level_holding}
pub use Rattle.dk_trace.specs.JobSteps.{HasBody, spent, worked_for}
pub use Rattle.dk_trace.specs.Jobs.{Job, is_closed, job, kernel_rem, phase, rem, thread_rem}
pub use Rattle.dk_trace.specs.Members.{Has}
pub use Rattle.dk_trace.specs.Refusals.{create_refusal, first_refusal, standing_children}
pub use Rattle.dk_trace.specs.Slack.{Request, asked, is_entering, is_wishing, last_request, level_of, no_request, older, oldest, request, source, unclaimed, want}
pub use Rattle.dk_trace.specs.Threads.{Thread, after_entry, child_share, family, is_ended_by, is_lent_at, is_main, is_stopped_before, is_void, lent_at, made_by, new_rows, share, threads}
pub use Rattle.dk_trace.specs.declared.Choice.{Choice}
pub use Rattle.dk_trace.specs.declared.Entry.{Entry}
pub use Rattle.dk_trace.specs.declared.Event.{Event}
pub use Rattle.dk_trace.specs.declared.Label.{Label}
pub use Rattle.dk_trace.specs.declared.Phase.{Phase}
pub use Rattle.dk_trace.specs.declared.Refusal.{Refusal}
pub use Rattle.dk_trace.specs.declared.Source.{Source}
pub use Rattle.dk_trace.specs.declared.ThreadId.{ThreadId}
pub use Rattle.dk_trace.specs.declared.Work.{Work}
pub use Rattle.std.proofs.Common.{Bool, List, [], ap, append-nil, arith, cond, drop, eqb, false, get_or, inl, inr, leb, length, length-append, ltb, refl, subst, suc, sym, take, true, zero, ℕ, ◌%◌, ◌&&◌, ◌*◌, ◌++◌, ◌+◌, ◌-◌, ◌/◌, ◌<◌, ◌||◌, ◌∙◌, ◌∷◌, ◌≡◌, ◌≤◌, ◌⊎◌}
pub use Rattle.std.proofs.Math.Bool.{and-false}
pub use Rattle.std.proofs.Math.Nat.{div-add-mod, div-eq-sub-div, div-mul-le_self, dvd-add, dvd-mod_iff, dvd-mul_right, dvd-sub, dvd_of_mod-eq-zero, dvd_refl, dvd_trans, le_of_dvd, mod-lt, mod-mod_of_dvd, mul-div_assoc, mul-div_cancel, mul-div_cancel', zero-mod}
pub use Rattle.std.proofs.lemmas.Bool.{and_from, and_parts, cases_Bool, cases_eq, cases_lt}
pub use Rattle.std.proofs.lemmas.Bool.Decides.{nat_tests}
pub use Rattle.std.proofs.lemmas.List.{length-map, map-append}
pub use Rattle.std.proofs.lemmas.List.Folds.{find-append as find-joined}
pub use Rattle.std.proofs.lemmas.List.Sums.{sum_by-append, sum_by-cons}
pub use Rattle.std.proofs.lemmas.Nat.Gcd.{dvd-zero}
pub use Rattle.std.specs.Bool.{then_some}
pub use Rattle.std.specs.Int.{◌∣◌}
pub use Rattle.std.specs.List.{cons_option, list_any}
pub use Rattle.std.specs.Option.{option_map_or, option_or}
pub use Rattle.std.specs.Prelude.{Contains, MatchOption, None, Option, Some, count_by, filter, filter_map, find, flat_map, if◌then◌else◌, is_some, map, min, nat_le, nat_lt, not, option_map, slice_get, sum_by, unwrap_or, ◌==◌}
