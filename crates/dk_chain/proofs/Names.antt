-- The names of other libraries and of this crate's specs that proofs here speak of.
pub use Rattle.dk_bound.proofs.Before.{main-among, not-after, passed-faster}
pub use Rattle.dk_bound.proofs.Laws.{begins_free, received}
pub use Rattle.dk_bound.specs.Laws.{Always}
pub use Rattle.dk_chain.specs.Age.{AgesInTime, ComesTo, IsAge, IsMet, last_of}
pub use Rattle.dk_chain.specs.Chain.{AreDone, AreThere, GoesOn, IsReaction, ReactsInTime, answered, free_from, next_start, through, window_length}
pub use Rattle.dk_chain.specs.InOrder.{BeginsInOrder, HasBegun, IsOver, OverInTime, StartsLater}
pub use Rattle.dk_chain.specs.Pace.{IsCourse, start_by}
pub use Rattle.dk_chain.specs.Rounding.{round_up}
pub use Rattle.dk_chain.specs.declared.reacting.Course.{Course}
pub use Rattle.dk_config.specs.Ahead.{IsEnough, comes_before}
pub use Rattle.dk_config.specs.Checked.{IsAccepted, IsChecked}
pub use Rattle.dk_config.specs.Configuration.{Configuration}
pub use Rattle.dk_config.specs.Sums.{below, first_of, sum_from}
pub use Rattle.dk_config.specs.Windows.{budget, main_level, period, release, window_start}
pub use Rattle.dk_config.specs.declared.TheConstants.{MAX_PROCESSES, MAX_SPAN}
pub use Rattle.dk_trace.proofs.Chosen.{Passed, Reason, Turn, by_hold, by_share, chosen-reason, kernel_first, no-work, nothing, now_rem, slack_first, thread_first, turn-of}
pub use Rattle.dk_trace.proofs.Distinct.{same-row}
pub use Rattle.dk_trace.proofs.Entered.{Kind, idle, kernel, kind, lent, paid}
pub use Rattle.dk_trace.proofs.Labels.{budget-labels, budget-says, chosen-says, idle-says, kernel-says, slack-labels, slack-says}
pub use Rattle.dk_trace.proofs.Mains.{main_id, main_row}
pub use Rattle.dk_trace.proofs.RowsFit.{threads-fit}
pub use Rattle.dk_trace.proofs.Whose.{budget-not, of-borrower, of-nobody, of-payer}
pub use Rattle.dk_trace.proofs.Windows.{count-charged, count_by-cons, spent, take-newest, window_start-le}
pub use Rattle.dk_trace.specs.Audit.{Audited, HasChosenLabel}
pub use Rattle.dk_trace.specs.Choices.{choice_at, chosen, holder_at, on_budget, ready_at, slack_at, work_at}
pub use Rattle.dk_trace.specs.Entries.{borrower, is_budget_of, is_kernel_at, is_of, kernel_level, payer, window}
pub use Rattle.dk_trace.specs.Guarantees.{HadShare, job_from, past_at}
pub use Rattle.dk_trace.specs.Holds.{held_by, is_holding}
pub use Rattle.dk_trace.specs.Jobs.{Job, job, kernel_rem, phase, rem}
pub use Rattle.dk_trace.specs.Members.{Has}
pub use Rattle.dk_trace.specs.Threads.{Thread, is_main, main_thread, share, threads}
pub use Rattle.dk_trace.specs.declared.Choice.{Choice}
pub use Rattle.dk_trace.specs.declared.Entry.{Entry}
pub use Rattle.dk_trace.specs.declared.Label.{Label}
pub use Rattle.dk_trace.specs.declared.Phase.{Phase}
pub use Rattle.dk_trace.specs.declared.ThreadId.{ThreadId}
pub use Rattle.std.proofs.Common.{Bool, List, None, Option, Some, [], ap, arith, cond, drop, eqb, false, inl, inr, length, ltb, refl, subst, suc, sym, take, true, zero, ℕ, ◌%◌, ◌&&◌, ◌*◌, ◌+◌, ◌-◌, ◌/◌, ◌<◌, ◌∙◌, ◌∷◌, ◌≡◌, ◌≤◌, ◌⊎◌}
pub use Rattle.std.proofs.Math.Nat.{dvd-add, dvd-mul_left, dvd-sub, mod-lt, mul-le-mul_left}
pub use Rattle.std.proofs.lemmas.Bool.{and_parts, cases_Bool, cases_lt}
pub use Rattle.std.proofs.lemmas.Bool.Decides.{nat_tests}
pub use Rattle.std.proofs.lemmas.List.{length-drop}
pub use Rattle.std.proofs.lemmas.Nat.{div-add-mod'}
pub use Rattle.std.proofs.lemmas.Nat.Gcd.{dvd-zero, dvd_of_mod-eq-zero, dvd_refl, dvd_trans, le_of_dvd, mod-eq-zero_of_dvd}
pub use Rattle.std.specs.Int.{◌∣◌}
pub use Rattle.std.specs.Prelude.{MatchOption, count_by, option_map, slice_index_or, unwrap_or}
