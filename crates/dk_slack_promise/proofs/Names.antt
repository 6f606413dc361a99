-- The names of other libraries and of this crate's specs that proofs here speak of.
pub use Rattle.dk_bound.specs.Laws.{Always}
pub use Rattle.dk_bound.specs.Statements.{BlocksAtMost, DemandFits}
pub use Rattle.dk_bound.proofs.Laws.{holders_stand, blocks_at_most}
pub use Rattle.dk_bound.proofs.Fits.{Steady, steady-fair, ready-of}
pub use Rattle.dk_bound.proofs.Joint.{holders-fit, steady, thread-counts, kernel-counts}
pub use Rattle.dk_bound.proofs.Holding.{Rising, HoldersFit}
pub use Rattle.dk_bound.proofs.Begins.{remaining-begins}
pub use Rattle.dk_bound.proofs.Demands.{paid_by_threads, remaining-entry, remaining-moves, own-entry, own-moves}
pub use Rattle.dk_config.proofs.FirstOf.{IsFirst, NoAnswer, first-none, first_of-is, option_map-none, option_map-some, option_or-none}
pub use Rattle.dk_config.specs.Checked.{IsAccepted, IsChecked}
pub use Rattle.dk_config.specs.Configuration.{Configuration}
pub use Rattle.dk_config.specs.Sums.{below, first_of, numbers}
pub use Rattle.dk_config.specs.Windows.{main_level, period, window_end, window_start}
pub use Rattle.dk_config.specs.Certification.{level_blocking, level_demand, spare}
pub use Rattle.dk_trace.proofs.Chosen.{NoWorkAt, Passed, Reason, Turn, by_hold, by_share, chosen-reason, kernel_first, no-demand, no-work, nothing, now_rem, slack_first, thread_first}
pub use Rattle.dk_trace.proofs.Entered.{Kind, idle, kernel, kind, lent, paid}
pub use Rattle.dk_trace.proofs.Fair.{AllFair}
pub use Rattle.dk_trace.proofs.LevelDemand.{paid_by_kernel}
pub use Rattle.dk_trace.proofs.Mains.{window_start-within}
pub use Rattle.dk_trace.proofs.Members.{find-nothing, has-filter, filter-has, has-flat, nothing-in, sum_by-term, sum_by-zero}
pub use Rattle.dk_trace.proofs.RowsFit.{ThreadsFit, threads-fit}
pub use Rattle.dk_trace.proofs.Whose.{payer-budget_of}
pub use Rattle.dk_trace.proofs.Windows.{count-begins, count-charged, count_by-cons, mod-next, window-charged, window-goes-on, window_start-le}
pub use Rattle.dk_trace.specs.Audit.{Audited, Follows, HasChosenLabel, label_of}
pub use Rattle.dk_trace.specs.Choices.{choice_at, chosen, holder_at, on_budget, on_slack, ready_at, slack_at, wish_at, work_at}
pub use Rattle.dk_trace.specs.Demand.{fits, fits_at, own_demand, remaining_demand}
pub use Rattle.dk_trace.specs.Entries.{borrower, is_budget_of, is_of, kernel_level, payer, stops, window}
pub use Rattle.dk_trace.specs.Guarantees.{past_at}
pub use Rattle.dk_trace.specs.Holds.{Hold, blocking, effective_level, held_by, is_holder, is_holding, thread_blocking}
pub use Rattle.dk_trace.specs.Jobs.{kernel_rem, thread_rem}
pub use Rattle.dk_trace.specs.Members.{Has}
pub use Rattle.dk_trace.specs.Slack.{is_wishing, older, oldest, want}
pub use Rattle.dk_trace.specs.Threads.{Thread, after_entry, family, threads}
pub use Rattle.dk_trace.specs.declared.Choice.{Choice}
pub use Rattle.dk_trace.specs.declared.Entry.{Entry}
pub use Rattle.dk_trace.specs.declared.Label.{Label}
pub use Rattle.dk_trace.specs.declared.ThreadId.{ThreadId}
pub use Rattle.std.proofs.Common.{Bool, List, None, Option, Some, [], ap, arith, cond, eqb, false, inl, inr, leb, length, ltb, refl, subst, suc, sym, true, zero, ℕ, ◌%◌, ◌&&◌, ◌*◌, ◌+◌, ◌-◌, ◌/◌, ◌<◌, ◌∙◌, ◌∷◌, ◌≡◌, ◌≤◌, ◌⊎◌}
pub use Rattle.std.proofs.Math.Nat.{zero-mod, mod-lt}
pub use Rattle.std.proofs.lemmas.Bool.{and_from, and_parts, cases_Bool, cases_eq, cases_lt, le-leb}
pub use Rattle.std.proofs.lemmas.Bool.Decides.{nat_tests}
pub use Rattle.std.specs.List.{list_all}
pub use Rattle.std.specs.Option.{option_or}
pub use Rattle.std.specs.Prelude.{MatchOption, count_by, filter, find, is_some, option_map, unwrap_or}
