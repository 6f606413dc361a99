-- The names of other libraries and of this crate's specs that proofs here speak of.
pub use Rattle.dk_alone.proofs.Again.{holds-none}
pub use Rattle.dk_alone.proofs.Premises.{call_of, earlier-call, program, spinner, value_of}
pub use Rattle.dk_alone.proofs.Same.{lock_with, unlock_with, wait_with}
pub use Rattle.dk_alone.proofs.Steps.{no-tick, turn-code, turn-label}
pub use Rattle.dk_alone.specs.Alone.{ReadsNoTick}
pub use Rattle.dk_bound.proofs.Accepted.{accepted}
pub use Rattle.dk_bound.specs.Laws.{Always}
pub use Rattle.dk_bound.specs.Standing.{AskersThere, ChoiceHolds, ChosenHolds, HoldersKnown, ThreadsPlaced}
pub use Rattle.dk_bound.specs.Statements.{BeginsFree, ChoosesWithCause, HasCause}
pub use Rattle.dk_config.proofs.CheckedConfig.{checked}
pub use Rattle.dk_config.proofs.FirstOf.{first-same, option_or-none}
pub use Rattle.dk_config.proofs.Lists.{or-none}
pub use Rattle.dk_config.proofs.Progressions.{sum_every-each}
pub use Rattle.dk_config.proofs.Sums.{sum_from-same}
pub use Rattle.dk_config.specs.Certification.{spare}
pub use Rattle.dk_config.specs.Checked.{IsAccepted, IsChecked}
pub use Rattle.dk_config.specs.Configuration.{Configuration}
pub use Rattle.dk_config.specs.Rules.{again_tests, all_tests, budget_tests, count_tests, level_tests, name_tests, period_tests, range_tests, slowest_tests, user_tests, version_tests}
pub use Rattle.dk_config.specs.Sums.{below, first_of, numbers, sum_every, sum_up_to}
pub use Rattle.dk_config.specs.Tests.{first_broken}
pub use Rattle.dk_config.specs.Windows.{budget, main_level, max_level, period, release, slots, window_end, window_start}
pub use Rattle.dk_config.specs.declared.rows.LevelRow.{LevelRow}
pub use Rattle.dk_cpu.specs.Machine.{Tick, body_tick, reg}
pub use Rattle.dk_cpu.specs.declared.Context.{Context}
pub use Rattle.dk_cpu.specs.declared.Outcome.{Outcome}
pub use Rattle.dk_cpu.specs.declared.kernel_call.KernelCall.{KernelCall}
pub use Rattle.dk_isa.specs.declared.FaultKind.{FaultKind}
pub use Rattle.dk_isa.specs.declared.Instr.TheVariants.{Addi, Jmp, Ld, Li, Nop, St, Trap}
pub use Rattle.dk_repeat.specs.Laws.{ProgramsReadNoTick, RunsRepeat}
pub use Rattle.dk_repeat.specs.Repeat.{ReadsNoTickNext, RunStandsAgain, RunStandsAlike, Standing, WindowsBegin, entry_at, keeps_threads, newest, standing}
pub use Rattle.dk_trace.proofs.Charged.{family-charged, same-job}
pub use Rattle.dk_trace.proofs.Events.{new-row}
pub use Rattle.dk_trace.proofs.Families.{children, dvd-start}
pub use Rattle.dk_trace.proofs.Mains.{main_id}
pub use Rattle.dk_trace.proofs.Members.{append-right, find-has}
pub use Rattle.dk_trace.proofs.Rows.{child-of, has-next, main-or-child, row-of, window_end-above}
pub use Rattle.dk_trace.proofs.Same.{same-id}
pub use Rattle.dk_trace.proofs.Silent.{closed-stopped, stopped-share, stopped-test, want-closed}
pub use Rattle.dk_trace.proofs.Windows.{count_by-cons}
pub use Rattle.dk_trace.specs.Audit.{Audited, label_of, next_serial, row_of}
pub use Rattle.dk_trace.specs.Choices.{chosen, holder_at}
pub use Rattle.dk_trace.specs.Demand.{fits, fits_at, kernel_demand, own_demand, remaining_demand, sum_starts, thread_demand, windows_left}
pub use Rattle.dk_trace.specs.Entries.{does, is_budget_of, is_delete_of, is_end, is_kernel_at, is_of, is_out_of, is_same, is_wait, kernel_level, payer, stops, thread_of, window}
pub use Rattle.dk_trace.specs.Holds.{Hold, aged, blocking, effective_level, greatest_left, held_after, held_by, is_holder, is_holding, level_holding, thread_blocking}
pub use Rattle.dk_trace.specs.Jobs.{Job, body_left, is_closed, is_stopped_in, job, kernel_rem, phase, rem, thread_body_left, thread_rem}
pub use Rattle.dk_trace.specs.Members.{Has}
pub use Rattle.dk_trace.specs.Refusals.{create_refusal, delete_refusal, first_refusal, is_running_child, least_share, lock_refusal, slack_refusal, standing_children, unlock_refusal, wait_refusal}
pub use Rattle.dk_trace.specs.Slack.{Request, is_claimed_up_to, is_entering, is_wishing, last_request, level_of, no_request, older, oldest, overdrawn_at, request, source, unclaimed, want}
pub use Rattle.dk_trace.specs.Threads.{Thread, after_entry, child_share, family, is_ended_by, is_lent_at, is_main, is_stopped_before, is_void, lent_at, made_by, main_thread, new_rows, share, threads}
pub use Rattle.dk_trace.specs.declared.Choice.{Choice}
pub use Rattle.dk_trace.specs.declared.Entry.{Entry}
pub use Rattle.dk_trace.specs.declared.Event.{Event}
pub use Rattle.dk_trace.specs.declared.Label.{Label}
pub use Rattle.dk_trace.specs.declared.Phase.{Phase}
pub use Rattle.dk_trace.specs.declared.Refusal.{Refusal}
pub use Rattle.dk_trace.specs.declared.Source.{Source}
pub use Rattle.dk_trace.specs.declared.ThreadId.{ThreadId}
pub use Rattle.dk_trace.specs.declared.Work.{Work}
pub use Rattle.dk_world.proofs.Audits.{label-thread}
pub use Rattle.dk_world.specs.Calls.{Child, Effect, answers, call_effect, child_context, creates, done, effect, or_refused}
pub use Rattle.dk_world.specs.Laws.{RunsAreAudited, TicksAreCounted}
pub use Rattle.dk_world.specs.Run.{Image, Turn, World, body_step, breaks_hold, executes, image_after, quiet_entry, quiet_step, step, step_of, thread_at, thread_turn, tick_in, trace, update, with_child, with_reply, work_done, world}
pub use Rattle.std.proofs.Common.{Bool, List, None, Option, Some, [], ap, append-nil, arith, cond, eqb, false, inl, inr, leb, length, length-append, ltb, not, refl, subst, suc, sym, take, true, zero, ℕ, ◌%◌, ◌&&◌, ◌*◌, ◌++◌, ◌+◌, ◌-◌, ◌/◌, ◌<◌, ◌||◌, ◌∙◌, ◌∷◌, ◌≡◌, ◌≤◌, ◌⊎◌}
pub use Rattle.std.proofs.Math.Bool.{and-false}
pub use Rattle.std.proofs.Math.Nat.{add-mod-mod, div-add-mod, mod-lt, mul-le-mul_left}
pub use Rattle.std.proofs.lemmas.Bool.{cases_Bool, cases_lt}
pub use Rattle.std.proofs.lemmas.Bool.Decides.{eqb_tells, nat_tests}
pub use Rattle.std.proofs.lemmas.List.{take-append-le}
pub use Rattle.std.proofs.lemmas.List.Sums.{sum_by-cons}
pub use Rattle.std.proofs.lemmas.Nat.Gcd.{mod-eq-zero_of_dvd}
pub use Rattle.std.proofs.lemmas.Option.{slice_get_past}
pub use Rattle.std.specs.Bool.{then_some}
pub use Rattle.std.specs.List.{list_all, list_any}
pub use Rattle.std.specs.Option.{option_map_or, option_or}
pub use Rattle.std.specs.Prelude.{count_by, filter, find, flat_map, is_none, is_some, map, option_map, slice_index_or, sum_by, unwrap_or}
