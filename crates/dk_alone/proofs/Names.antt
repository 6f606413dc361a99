-- The names of other libraries and of this crate's specs that proofs here speak of.
pub use Rattle.dk_alone.specs.Again.{ProcessStandsAgain, ProcessStandsAlike, StandsAgainAlone, WindowBegins, main_is_stopped, overruns, own_window, window_from}
pub use Rattle.dk_alone.specs.Alone.{IsBehind, IsSameFor, KeepsToItself, ReadsNoTick, alone, choice_alone, entries_of, is_of_process, step_alone}
pub use Rattle.dk_alone.specs.Laws.{NeverOverruns, OwnTimeAlone, ProcessesRepeat, StandsAgainAsAlone, WindowsAsAlone}
pub use Rattle.dk_bound.proofs.Accepted.{accepted}
pub use Rattle.dk_bound.specs.Laws.{Always}
pub use Rattle.dk_bound.specs.Statements.{BeginsFree, ChoosesWithCause, EndsSpent, HasCause}
pub use Rattle.dk_config.proofs.CheckedConfig.{checked}
pub use Rattle.dk_config.specs.Certification.{is_user}
pub use Rattle.dk_config.specs.Checked.{IsAccepted, IsChecked}
pub use Rattle.dk_config.specs.Configuration.{Configuration}
pub use Rattle.dk_config.specs.Rules.{again_tests, all_tests, budget_tests, count_tests, level_tests, name_tests, period_tests, range_tests, slowest_tests, user_tests, version_tests}
pub use Rattle.dk_config.specs.Tests.{first_broken}
pub use Rattle.dk_config.specs.Windows.{budget, longest_hold, main_level, max_level, may_ask, period, slots, window_start}
pub use Rattle.dk_config.specs.declared.rows.ProcessRow.{ProcessRow}
pub use Rattle.dk_cpu.specs.Machine.{Tick, body_tick, call_of, reg}
pub use Rattle.dk_cpu.specs.declared.Context.{Context}
pub use Rattle.dk_cpu.specs.declared.Outcome.{Outcome}
pub use Rattle.dk_cpu.specs.declared.kernel_call.KernelCall.{KernelCall}
pub use Rattle.dk_isa.specs.Table.{bytes_of}
pub use Rattle.dk_isa.specs.declared.FaultKind.{FaultKind}
pub use Rattle.dk_isa.specs.declared.Instr.{Instr}
pub use Rattle.dk_isa.specs.declared.Instr.TheVariants.{Addi, Jmp, Ld, Li, Nop, St, Trap}
pub use Rattle.dk_trace.proofs.Charged.{family-charged, job-charged, same-job, the_job}
pub use Rattle.dk_trace.proofs.Entered.{Unrefused, done-event}
pub use Rattle.dk_trace.proofs.Events.{main-row-of, none-holds}
pub use Rattle.dk_trace.proofs.Families.{children, family-children, lent_at-children, lent_of}
pub use Rattle.dk_trace.proofs.Labels.{budget-labels, slack-labels}
pub use Rattle.dk_trace.proofs.Mains.{main_id, main_row, main_stop, stopped_before-same}
pub use Rattle.dk_trace.proofs.Members.{find-has, flat-has}
pub use Rattle.dk_trace.proofs.Orderly.{job_at}
pub use Rattle.dk_trace.proofs.Rows.{main-has, main_stop-old}
pub use Rattle.dk_trace.proofs.Same.{same-id}
pub use Rattle.dk_trace.proofs.Whose.{budget-not, label-borrower, label-payer, thread-of}
pub use Rattle.dk_trace.proofs.Windows.{count-begins, count-charged, count_by-cons, mod-next, window-begins, window-charged, window_start-le}
pub use Rattle.dk_trace.specs.Audit.{Audited, Follows, label_of, next_serial, row_of, without_event}
pub use Rattle.dk_trace.specs.Choices.{chosen, on_budget}
pub use Rattle.dk_trace.specs.Entries.{does, is_budget_of, is_end, is_of, is_out_of, is_same, is_wait, stops, thread_of, window}
pub use Rattle.dk_trace.specs.Holds.{Hold, aged, held_after, held_by, innermost_left, is_held, is_holding, is_innermost}
pub use Rattle.dk_trace.specs.Jobs.{Job, body_left, is_closed, is_stopped_in, job, phase, rem, thread_body_left, thread_rem}
pub use Rattle.dk_trace.specs.Members.{Has}
pub use Rattle.dk_trace.specs.Refusals.{create_reasons, create_refusal, delete_refusal, first_refusal, is_running_child, least_share, lock_refusal, standing_children, unlock_refusal, wait_refusal}
pub use Rattle.dk_trace.specs.Slack.{asked, last_request, source, want}
pub use Rattle.dk_trace.specs.Threads.{Thread, family, is_ended_by, is_main, is_stopped_before, is_void, made_by, main_thread, share, threads}
pub use Rattle.dk_trace.specs.declared.Choice.{Choice}
pub use Rattle.dk_trace.specs.declared.Entry.{Entry}
pub use Rattle.dk_trace.specs.declared.Event.{Event}
pub use Rattle.dk_trace.specs.declared.Label.{Label}
pub use Rattle.dk_trace.specs.declared.Phase.{Phase}
pub use Rattle.dk_trace.specs.declared.Refusal.{Refusal}
pub use Rattle.dk_trace.specs.declared.Source.{Source}
pub use Rattle.dk_trace.specs.declared.ThreadId.{ThreadId}
pub use Rattle.dk_trace.specs.declared.Work.{Work}
pub use Rattle.dk_world.proofs.Audits.{held-quiet, label-thread}
pub use Rattle.dk_world.proofs.Lengths.{length-trace}
pub use Rattle.dk_world.proofs.Outcomes.{own-tick}
pub use Rattle.dk_world.proofs.Refused.{update-same}
pub use Rattle.dk_world.specs.Calls.{Child, Effect, answers, call_effect, creates, done, effect, or_refused}
pub use Rattle.dk_world.specs.Laws.{RunsAreAudited}
pub use Rattle.dk_world.specs.Run.{Image, Turn, World, body_step, breaks_hold, executes, image_after, quiet_entry, quiet_step, step_of, thread_at, thread_turn, tick_in, trace, update, with_child, with_reply, work_done, world}
pub use Rattle.std.proofs.Common.{Bool, List, None, Option, Some, [], ap, arith, cond, eqb, false, inl, inr, leb, length, ltb, map, not, refl, subst, suc, sym, true, zero, ℕ, ◌%◌, ◌&&◌, ◌*◌, ◌++◌, ◌+◌, ◌-◌, ◌/◌, ◌<◌, ◌||◌, ◌∙◌, ◌∷◌, ◌≡◌, ◌≤◌, ◌⊎◌}
pub use Rattle.std.proofs.Math.Nat.{add-mod-mod, div-add-mod, mod-lt, mod_self, mul-mod_left}
pub use Rattle.std.proofs.lemmas.Bool.{cases_Bool, cases_eq, cases_lt}
pub use Rattle.std.proofs.lemmas.Bool.Decides.{eqb_tells, nat_tests}
pub use Rattle.std.proofs.lemmas.List.{append_cancel_right, take-append-le}
pub use Rattle.std.proofs.lemmas.List.Elements.{filter-append}
pub use Rattle.std.specs.Bool.{then_some}
pub use Rattle.std.specs.List.{list_any}
pub use Rattle.std.specs.Option.{option_map_or, option_or}
pub use Rattle.std.specs.Prelude.{count_by, filter, flat_map, is_some, replicate, reverse, slice_index_or, sum_by, take, unwrap_or}
