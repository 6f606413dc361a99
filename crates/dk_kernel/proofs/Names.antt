-- The names of other libraries and of this crate's specs that proofs here speak of.
pub use Rattle.dk_bound.specs.Laws.{Always}
pub use Rattle.dk_bound.specs.Standing.{ChoiceHolds, ChosenHolds, ThreadsPlaced}
pub use Rattle.dk_config.specs.Checked.{IsAccepted, IsChecked, IsWithinLimits}
pub use Rattle.dk_config.specs.Configuration.{Configuration}
pub use Rattle.dk_config.specs.Windows.{memory}
pub use Rattle.dk_config.specs.declared.TheConstants.{MAX_CHILDREN, MAX_TICKS}
pub use Rattle.dk_cpu.specs.Machine.{Tick, body_tick, reg}
pub use Rattle.dk_cpu.specs.State.{State, Works, WorksFor, after_tick, context_at, first_state, no_context, replied, tick_at, with_context, zero_context}
pub use Rattle.dk_cpu.specs.declared.Context.{Context}
pub use Rattle.dk_cpu.specs.declared.Outcome.{Outcome}
pub use Rattle.dk_cpu.specs.declared.kernel_call.KernelCall.{KernelCall}
pub use Rattle.dk_dispatch.specs.Calls.{IsCreated, IsDone, IsEnding, IsInCall, IsNotCreated, IsRefused, call_refusal}
pub use Rattle.dk_dispatch.specs.Questions.{IsTelling, IsTellingAt}
pub use Rattle.dk_dispatch.specs.Standing.{Dispatched, HasSlot, slots}
pub use Rattle.dk_dispatch.specs.Ticks.{Goes, IsShut}
pub use Rattle.dk_isa.specs.declared.FaultKind.{FaultKind}
pub use Rattle.dk_kernel.specs.Booting.{first_states}
pub use Rattle.dk_kernel.specs.Done.{Answer, Done, NewChild, child_made, plain, plain_answer, plain_done, plain_refused}
pub use Rattle.dk_kernel.specs.Effects.{Calls, HasDone, HasRows, MayEffect, after_entry, after_told, answered, at_call, caller, child_of, effect_at, effect_of, finished, label_at, outcome_at, reply_of, seated, stepped, with_label}
pub use Rattle.dk_kernel.specs.Laws.{HasOwnTime, InEveryRun, KeepsLaws}
pub use Rattle.dk_kernel.specs.Recording.{IsLabelKnown, NewestIsKnown}
pub use Rattle.dk_kernel.specs.Running.{IsAt, IsNext, Running, running, running as running_of, trace_of, world_of}
pub use Rattle.dk_kernel.specs.Snapshots.{snapshot}
pub use Rattle.dk_kernel.specs.Steps.{run_steps, tick_steps}
pub use Rattle.dk_kernel.specs.Stretches.{entries_of, last_of}
pub use Rattle.dk_kernel.specs.Ties.{AreImages, HasBooked, IsImage, IsRunning, MayBook, StaysElsewhere, code_of, next_world, no_state, run_of, state_at, thread, world_at}
pub use Rattle.dk_kernel.specs.Turns.{HadTurn, HasTurned, MayTurn, breaks_at, turn_effect, turn_entry, turn_label, turn_state}
pub use Rattle.dk_kernel.specs.declared.executor.Executor.{Executor}
pub use Rattle.dk_kernel.specs.declared.stretch.Stretch.{Stretch}
pub use Rattle.dk_loader.specs.Workload.{Workload}
pub use Rattle.dk_mutex.specs.Recount.{last_locked}
pub use Rattle.dk_past.specs.Past.{Past, Ready, call_entry, call_label, charged, choice_at, closed, later, opened, start, told, told_at, with_entry, with_event}
pub use Rattle.dk_recount.specs.Counts.{is_moved, moved, stopped, stops_in}
pub use Rattle.dk_recount.specs.Events.{entry_of}
pub use Rattle.dk_recount.specs.Facing.{CallerIsThere, HasOwn, Keeps, Slots}
pub use Rattle.dk_recount.specs.Recount.{IsRuled}
pub use Rattle.dk_threads.specs.Table.{Table, find_row}
pub use Rattle.dk_threads.specs.declared.row.ThreadRow.{ThreadRow}
pub use Rattle.dk_trace.proofs.Same.{same-self}
pub use Rattle.dk_trace.proofs.Windows.{count_by-cons}
pub use Rattle.dk_trace.specs.Audit.{Audited, Follows, HasChosenLabel, done_refusal, label_of, next_serial, row_of}
pub use Rattle.dk_trace.specs.Choices.{chosen, denied}
pub use Rattle.dk_trace.specs.Entries.{is_of, is_same, quiet, thread_of}
pub use Rattle.dk_trace.specs.Holds.{Hold, held_by, innermost_left}
pub use Rattle.dk_trace.specs.Jobs.{thread_body_left}
pub use Rattle.dk_trace.specs.Members.{Has}
pub use Rattle.dk_trace.specs.Ranges.{size_of}
pub use Rattle.dk_trace.specs.Refusals.{create_refusal}
pub use Rattle.dk_trace.specs.Threads.{Thread, main_thread, threads}
pub use Rattle.dk_trace.specs.declared.Choice.{Choice}
pub use Rattle.dk_trace.specs.declared.Entry.{Entry}
pub use Rattle.dk_trace.specs.declared.Event.{Event}
pub use Rattle.dk_trace.specs.declared.Label.{Label}
pub use Rattle.dk_trace.specs.declared.Phase.{Phase}
pub use Rattle.dk_trace.specs.declared.Refusal.{Refusal}
pub use Rattle.dk_trace.specs.declared.ThreadId.{ThreadId}
pub use Rattle.dk_trace.specs.declared.Work.{Work}
pub use Rattle.dk_world.proofs.Audits.{call-label, label-thread}
pub use Rattle.dk_world.specs.Calls.{Effect, child_context, creates, done, effect, or_refused, unanswered}
pub use Rattle.dk_world.specs.Laws.{RunsAreAudited, StepsAreAudited}
pub use Rattle.dk_world.specs.Refused.{RefusalLeaves, RefusalsLeave}
pub use Rattle.dk_world.specs.Run.{Image, Turn, World, body_step, breaks_hold, executes, first_world, image_after, may_be_last, quiet_step, step, thread_turn, tick_in, trace, turned, update, with_child, with_reply, work_done, world}
pub use Rattle.std.proofs.Common.{All, Bool, List, None, Option, Result, Some, [], add-one, add-zero, ap, arith, cond, drop, false, get_or, inl, inr, length, length-append, length-set, map, not, option_map, refl, rules, set, subst, suc, sym, take, true, vec_len, zero, ℕ, ◌*◌, ◌++◌, ◌+◌, ◌-◌, ◌/◌, ◌<◌, ◌∙◌, ◌∷◌, ◌≡◌, ◌≤◌}
pub use Rattle.std.proofs.Math.Seq.{map-set_same}
pub use Rattle.std.proofs.lemmas.Bool.{ne_eqb}
pub use Rattle.std.proofs.lemmas.Bool.Decides.{eqb_tells}
pub use Rattle.std.proofs.lemmas.List.{drop-set-lt, drop_more, get_or-drop, get_or-replicate, get_or-set_other, get_or-set_same, get_or_default, length-replicate, length-take-le, set-get_or, set-set, take_at, take_more}
pub use Rattle.std.proofs.lemmas.List.Elements.{All-get_or}
pub use Rattle.std.proofs.lemmas.Result.{IfOk-weaker}
pub use Rattle.std.specs.Option.{option_map_or}
pub use Rattle.std.specs.Prelude.{IfOk, Ok, count_by, replicate, slice_set, unwrap_or, ◌==◌}
