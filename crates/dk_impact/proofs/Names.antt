-- The names of other libraries and of this crate's specs that proofs here speak of.
pub use Rattle.dk_alone.proofs.Again.{entry-by, on, on-is}
pub use Rattle.dk_alone.proofs.Own.{IsPlainEvent, Own, Plain, after, after-other, booked, booked-after, family-alone, filter-in, filter-out, fresh, own, own-begins, own-within}
pub use Rattle.dk_alone.proofs.Overruns.{any-own, own-overruns}
pub use Rattle.dk_alone.proofs.Premises.{call_of, earlier-call, program, shown, spinner}
pub use Rattle.dk_alone.proofs.Same.{row-at}
pub use Rattle.dk_alone.proofs.Steps.{alone-rests, alone-works, turn-label}
pub use Rattle.dk_alone.proofs.Ties.{alone-long, tail}
pub use Rattle.dk_alone.proofs.Cycles.{begins-sum}
pub use Rattle.dk_alone.specs.Again.{ProcessStandsAgain, WindowBegins, own_window, overruns, window_from}
pub use Rattle.dk_alone.specs.Laws.{WindowsAsAlone}
pub use Rattle.dk_alone.specs.Alone.{IsSameFor, KeepsToItself, ReadsNoTick, alone, choice_alone, entries_of, is_of_process, step_alone}
pub use Rattle.dk_bound.proofs.Accepted.{accepted}
pub use Rattle.dk_config.proofs.CheckedConfig.{checked}
pub use Rattle.dk_config.proofs.FirstOf.{first-at}
pub use Rattle.dk_config.specs.Certification.{is_user, uses}
pub use Rattle.dk_config.specs.Checked.{IsAccepted, IsChecked, IsWithinLimits}
pub use Rattle.dk_config.specs.Configuration.{Configuration}
pub use Rattle.dk_config.specs.Mutex.{Mutex}
pub use Rattle.dk_config.specs.Sums.{first_of, numbers}
pub use Rattle.dk_config.specs.Tests.{first_broken}
pub use Rattle.dk_config.specs.Windows.{budget, longest_hold, main_level, max_level, may_ask, memory, period, slots}
pub use Rattle.dk_config.specs.declared.TheConstants.{MAX_MUTEXES}
pub use Rattle.dk_config.specs.declared.rows.LevelRow.{LevelRow}
pub use Rattle.dk_cpu.specs.Machine.{Tick, body_tick, reg}
pub use Rattle.dk_cpu.specs.declared.Context.{Context}
pub use Rattle.dk_cpu.specs.declared.Outcome.{Outcome}
pub use Rattle.dk_cpu.specs.declared.kernel_call.KernelCall.{KernelCall}
pub use Rattle.dk_impact.specs.Changes.{IsFirst, IsSight, Tells, TellsCall, TellsOf, but_time_change, cost_change, differs, first_change, level_change, mutex_change, mutexes_change, seen, use_change, use_of}
pub use Rattle.dk_impact.specs.Enough.{AlwaysHasEnough, IsSameForEver, NeverOverrunsWith}
pub use Rattle.dk_impact.specs.Greater.{GivesNoLess, ReadsNoBudget, has_enough, is_for_want}
pub use Rattle.dk_impact.specs.GreaterLaws.{FirstWindowsTellWithMore, GreaterBudgetsHaveNoImpact}
pub use Rattle.dk_impact.specs.Impact.{IsSameAcross, LocksNothing, MakesNoThread, SeesTheSame, SeesTheSameButPeriod, SeesTheSameButTime, SeesTheSameMutexes, renamed, renamed_label}
pub use Rattle.dk_impact.specs.Laws.{ChangesOfOthersHaveNoImpact, ChangesOfPeriodHaveNoImpact, FirstWindowsTellAcross, FirstWindowsTellAtAnyPeriod}
pub use Rattle.dk_impact.specs.declared.change.Change.{Change}
pub use Rattle.dk_impact.specs.declared.change.Sight.{Sight}
pub use Rattle.dk_isa.specs.Table.{instruction_of}
pub use Rattle.dk_isa.specs.declared.FaultKind.{FaultKind}
pub use Rattle.dk_isa.specs.declared.Instr.{Instr}
pub use Rattle.dk_isa.specs.declared.Instr.TheVariants.{Jmp, Ld, Nop, Trap}
pub use Rattle.dk_trace.proofs.Charged.{family-charged, job-charged, the_job}
pub use Rattle.dk_trace.proofs.Labels.{budget-labels, spent-payer}
pub use Rattle.dk_trace.proofs.Mains.{main_id, main_row}
pub use Rattle.dk_trace.proofs.Orders.{InOrder, charge-order, fresh-order, is_out_phase}
pub use Rattle.dk_trace.proofs.Same.{same-self}
pub use Rattle.dk_trace.proofs.Windows.{count_by-cons, mod-next, spent}
pub use Rattle.dk_trace.specs.Audit.{label_of, next_serial}
pub use Rattle.dk_trace.specs.Entries.{does, has_event, is_budget_of, is_end, is_of, is_out, is_out_of, is_wait, payer, stops}
pub use Rattle.dk_trace.specs.Holds.{Hold, aged, given_back, held_after, held_by, innermost_left, is_held, is_holding, is_innermost}
pub use Rattle.dk_trace.specs.Jobs.{Job, body_left, phase, rem, thread_body_left}
pub use Rattle.dk_trace.specs.Refusals.{create_refusal, delete_refusal, first_refusal, is_running_child, least_share, lock_refusal, number, slack_refusal, standing_children}
pub use Rattle.dk_trace.specs.Threads.{Thread, family, is_ended_by, is_main, is_void}
pub use Rattle.dk_trace.specs.declared.Choice.{Choice}
pub use Rattle.dk_trace.specs.declared.Entry.{Entry}
pub use Rattle.dk_trace.specs.declared.Event.{Event}
pub use Rattle.dk_trace.specs.declared.Label.{Label}
pub use Rattle.dk_trace.specs.declared.Phase.{Phase}
pub use Rattle.dk_trace.specs.declared.Refusal.{Refusal}
pub use Rattle.dk_trace.specs.declared.Work.{Work}
pub use Rattle.dk_world.proofs.Audits.{held-quiet}
pub use Rattle.dk_world.proofs.Limits.{budget_period}
pub use Rattle.dk_world.proofs.Outcomes.{own-tick}
pub use Rattle.dk_world.proofs.Refused.{update-same}
pub use Rattle.dk_cpu.specs.State.{zero_context}
pub use Rattle.dk_world.specs.Calls.{Child, Effect, Reply, answers, call_effect, creates, done, effect, or_refused}
pub use Rattle.dk_world.specs.Run.{Image, Turn, World, breaks_hold, image_after, may_be_last, quiet_entry, quiet_step, step_of, thread_at, thread_turn, tick_in, trace, work_done, world}
pub use Rattle.std.proofs.Common.{Bool, List, None, Option, Some, [], ap, arith, cond, eqb, false, inl, inr, leb, length, ltb, map, not, refl, rules, subst, suc, sym, true, zero, ℕ, ◌%◌, ◌&&◌, ◌*◌, ◌++◌, ◌+◌, ◌-◌, ◌/◌, ◌<◌, ◌||◌, ◌∙◌, ◌∷◌, ◌≡◌, ◌≤◌, ◌⊎◌}
pub use Rattle.std.proofs.Math.Nat.{add-mod-mod, div-add-mod, mod-eq_of_lt, mod_self, mul-mod_left}
pub use Rattle.std.proofs.lemmas.Bool.{cases_Bool, cases_lt, eq-eqb}
pub use Rattle.std.proofs.lemmas.Bool.Decides.{eqb_tells, nat_tests}
pub use Rattle.std.proofs.lemmas.List.{append_cancel_right}
pub use Rattle.std.proofs.lemmas.List.Elements.{filter-append}
pub use Rattle.std.proofs.lemmas.Option.{slice_get_past}
pub use Rattle.std.specs.List.{list_any}
pub use Rattle.std.specs.Option.{option_map_or, option_or}
pub use Rattle.std.specs.Prelude.{count_by, filter, replicate, slice_get, slice_index_or, slice_range, sum_by, take}
