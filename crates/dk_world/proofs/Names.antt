-- The names of other libraries and of this crate's specs that proofs here speak of.
pub use Rattle.dk_bound.specs.Statements.{ChoosesKnown, LastTickExecutes}
pub use Rattle.dk_config.proofs.Sums.{sum_from-term}
pub use Rattle.dk_config.specs.Certification.{budgets_at, first_failing, is_user, level_blocking, level_demand, spare}
pub use Rattle.dk_config.specs.Checked.{IsAccepted, IsChecked, IsWithinLimits}
pub use Rattle.dk_config.specs.Configuration.{Configuration}
pub use Rattle.dk_config.specs.Mutex.{Mutex}
pub use Rattle.dk_config.specs.Sums.{below, first_of, numbers}
pub use Rattle.dk_config.specs.Windows.{budget, main_level, max_level, memory, period, release, window_start}
pub use Rattle.dk_config.specs.declared.TheConstants.{MAX_MUTEXES, MAX_RUN_TICKS, MAX_SPAN}
pub use Rattle.dk_config.specs.declared.rows.LevelRow.{LevelRow}
pub use Rattle.dk_config.specs.declared.rows.ProcessRow.{ProcessRow}
pub use Rattle.dk_cpu.specs.Machine.{Tick, body_tick, call_of, call_tick, divided, execute, fault, loaded, next, offset, put, ran, reg, set, word, written}
pub use Rattle.dk_cpu.specs.State.{replied}
pub use Rattle.dk_cpu.specs.declared.Context.{Context}
pub use Rattle.dk_cpu.specs.declared.Outcome.{Outcome}
pub use Rattle.dk_cpu.specs.declared.Outcome.TheVariants.{CallDone, Fault, Ran}
pub use Rattle.dk_cpu.specs.declared.kernel_call.KernelCall.{KernelCall}
pub use Rattle.dk_isa.specs.Table.{Row, byte, bytes_of, fixed, instruction_of, jump, read_code, reg_imm, reg_reg, reg_reg_byte, reg_reg_reg, table}
pub use Rattle.dk_isa.specs.declared.FaultKind.{FaultKind}
pub use Rattle.dk_isa.specs.declared.Instr.{Instr}
pub use Rattle.dk_isa.specs.declared.Instr.TheVariants.{Add, Addi, And, Div, Jmp, Jnz, Jr, Jz, Ld, Li, Lih, Mov, Mul, Nop, Or, Rem, Shl, Shr, Slt, St, Sub, Trap, Xor}
pub use Rattle.dk_trace.proofs.Events.{none-holds}
pub use Rattle.dk_trace.specs.Audit.{Audited, Follows, HasChosenLabel, HasNextSerial, MayHave, ThreadFollows, done_refusal, label_of, next_serial, row_of, work_of}
pub use Rattle.dk_trace.specs.Choices.{choice_at, chosen, denied, holder_at, on_budget, on_slack, ready_at, slack_at, wish_at, work_at}
pub use Rattle.dk_trace.specs.Demand.{fits, own_demand, remaining_demand}
pub use Rattle.dk_trace.specs.Entries.{does, is_end, is_of, is_same, is_wait, main_of, stops, thread_of}
pub use Rattle.dk_trace.specs.Guarantees.{Bounded, Granted, HadShare, Received}
pub use Rattle.dk_trace.specs.Holds.{Hold, aged, blocking, ends_hold, held_after, held_by, innermost_left, is_held}
pub use Rattle.dk_trace.specs.Jobs.{is_stopped_in, job, kernel_rem, phase, thread_body_left}
pub use Rattle.dk_trace.specs.Ranges.{HasEntry, HasEvent, HasLabel, HasOwnEvent, HasSource, HasThread, IsExecuting, size_of}
pub use Rattle.dk_trace.specs.Refusals.{create_reasons, create_refusal, delete_refusal, first_refusal, least_share, lock_refusal, number, slack_refusal, standing_children, unlock_refusal, wait_refusal}
pub use Rattle.dk_trace.specs.Slack.{Request, is_wishing, last_request, no_request, older, oldest, overdrawn_at, source, unclaimed}
pub use Rattle.dk_trace.specs.Threads.{Thread, after_entry, family, made_by, main_thread, share, threads}
pub use Rattle.dk_trace.specs.declared.Choice.{Choice}
pub use Rattle.dk_trace.specs.declared.Entry.{Entry}
pub use Rattle.dk_trace.specs.declared.Event.{Event}
pub use Rattle.dk_trace.specs.declared.Label.{Label}
pub use Rattle.dk_trace.specs.declared.Label.TheVariants.{Call, Idle, In, Kernel, Out, Run, Slack}
pub use Rattle.dk_trace.specs.declared.Phase.{Phase}
pub use Rattle.dk_trace.specs.declared.Refusal.{Refusal}
pub use Rattle.dk_trace.specs.declared.Source.{Source}
pub use Rattle.dk_trace.specs.declared.Source.TheVariants.{Reclaimed, Timeline}
pub use Rattle.dk_trace.specs.declared.ThreadId.{ThreadId}
pub use Rattle.dk_trace.specs.declared.Work.{Work}
pub use Rattle.dk_world.specs.Born.{CreateLeaves}
pub use Rattle.dk_world.specs.Broken.{EndsHold, HoldLeaves}
pub use Rattle.dk_world.specs.Calls.{Child, Effect, Reply, answers, call_effect, child_context, creates, done, effect, or_refused, refused}
pub use Rattle.dk_world.specs.Laws.{in_version}
pub use Rattle.dk_world.specs.Refused.{LeavesCounts, LeavesImages}
pub use Rattle.dk_world.specs.Run.{Image, Turn, World, body_step, breaks_hold, executes, image_after, may_be_last, quiet_entry, quiet_step, step, step_of, thread_at, thread_turn, tick_in, trace, turned, update, with_child, with_reply, work_done, world}
pub use Rattle.std.proofs.Common.{Bool, List, MatchOption, None, Option, Some, add-zero, ap, arith, cond, eqb, false, inl, inr, length, length-append, ltb, not, refl, reverse, subst, suc, sym, take, true, zero, ℕ, ◌%◌, ◌&&◌, ◌*◌, ◌++◌, ◌+◌, ◌-◌, ◌/◌, ◌<◌, ◌^◌, ◌∙◌, ◌∷◌, ◌≡◌, ◌≤◌}
pub use Rattle.std.proofs.Math.Bool.{and-false}
pub use Rattle.std.proofs.Math.Nat.{div-le_self, div_self, mod-le, mod-lt}
pub use Rattle.std.proofs.lemmas.Bool.{cases_Bool, cases_lt, ne_eqb, not-false}
pub use Rattle.std.proofs.lemmas.Bool.Decides.{nat_tests}
pub use Rattle.std.proofs.lemmas.List.{get_or_past, length-map, reverse-append}
pub use Rattle.std.proofs.lemmas.List.Elements.{All-drop, All-from_recursion, All-nil, All-replicate, All-set, All-take, recursion_from_All}
pub use Rattle.std.proofs.lemmas.List.Sums.{sum_by-cons}
pub use Rattle.std.proofs.lemmas.Nat.{and_le_l, or_of_32, xor_of_32}
pub use Rattle.std.proofs.lemmas.Option.{slice_get_past}
pub use Rattle.std.specs.List.{AllByRecursion, list_all, list_any}
pub use Rattle.std.specs.Option.{option_map_or, option_or}
pub use Rattle.std.specs.Prelude.{All, IfSome, [], bit_and, bit_or, bit_xor, drop, filter, find, flat_map, if◌then◌else◌, is_none, map, nat_lt, option_map, replicate, slice_get, slice_index, slice_index_or, slice_range, slice_set, sum_by, unwrap_or, ◌==◌, ◌||◌, ◌⊎◌}
