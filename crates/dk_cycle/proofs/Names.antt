-- The names of other libraries and of this crate's specs that proofs here speak of.
pub use Rattle.dk_alone.proofs.Cycles.{begins-rest, begins-sum}
pub use Rattle.dk_alone.proofs.Own.{filter-in, filter-out, other-main}
pub use Rattle.dk_alone.specs.Again.{ProcessStandsAgain, ProcessStandsAlike, WindowBegins, own_window, window_from}
pub use Rattle.dk_alone.specs.Alone.{KeepsToItself, alone, entries_of, is_of_process}
pub use Rattle.dk_alone.specs.Laws.{FirstWindowsTell, ProcessesRepeat, ProcessesStandAlike, StandsAgainAsAlone, WindowsAsAlone}
pub use Rattle.dk_config.specs.Checked.{IsAccepted, IsChecked, IsWithinLimits}
pub use Rattle.dk_config.specs.Configuration.{Configuration}
pub use Rattle.dk_config.specs.Windows.{main_level, period}
pub use Rattle.dk_cpu.specs.declared.Context.{Context}
pub use Rattle.dk_cycle.specs.Keeping.{IsKeeping}
pub use Rattle.dk_cycle.specs.Made.{IsLastMade, MakesNone, RepeatsOnlyBehind, last_made, made_in, made_of}
pub use Rattle.dk_cycle.specs.Own.{IsBack, IsFound, IsGone, IsMainState, IsOwnSearch, IsSavedMain}
pub use Rattle.dk_cycle.specs.Run.{AreAllProcesses, AreProcessStates, AreSame, AreSameThreads, GoesOn, IsBackRun, IsFoundRun, IsKept, IsLastReader, IsLongest, IsOtherProcess, IsProcessState, IsReader, IsRunSearch, IsRunState, IsSameProcess, KeepsThreadsFrom, KeepsThreadsIn, last_reader}
pub use Rattle.dk_cycle.specs.Seeking.{FollowsOn, IsOld, IsOldRun, IsWholeState, IsYoung, IsYoungRun, LooksLater, LooksLaterAtRun, LooksOn, LooksOnRun, LooksPast, LooksPastProcess, LooksPastRun, OwnIsFound, OwnSeeks, RunIsFound, RunKeepsAgain, RunSeeks, RunSeeksFrom, Seeks, runs_on, state_of}
pub use Rattle.dk_cycle.specs.Start.{IsLoud, IsStartSearch, Opens, Shuts, StartsFirst, with_start}
pub use Rattle.dk_cycle.specs.Stretching.{SearchesStay, StartsStay}
pub use Rattle.dk_cycle.specs.Told.{HasCycle, IsRunCycle, OwnIsTold, RunIsTold, made_by, reader_by}
pub use Rattle.dk_cycle.specs.Waiting.{HasProgram, IsFirstMissed, IsWaitWatch, IsWaits, WaitedBefore, WaitsAreTold, WaitsBefore, first_missed, main_waits, waits_by, waits_in, waits_of}
pub use Rattle.dk_cycle.specs.declared.Cycle.{Cycle}
pub use Rattle.dk_cycle.specs.declared.keeping.Keeping.{Keeping}
pub use Rattle.dk_cycle.specs.declared.made.Made.{Made}
pub use Rattle.dk_cycle.specs.declared.own.MainState.{MainState}
pub use Rattle.dk_cycle.specs.declared.own.OwnSearch.{OwnSearch}
pub use Rattle.dk_cycle.specs.declared.run.ProcessState.{ProcessState}
pub use Rattle.dk_cycle.specs.declared.run.RunSearch.{RunSearch}
pub use Rattle.dk_cycle.specs.declared.run.RunState.{RunState}
pub use Rattle.dk_cycle.specs.declared.run.ThreadState.{ThreadState}
pub use Rattle.dk_cycle.specs.declared.start.StartSearch.{StartSearch}
pub use Rattle.dk_cycle.specs.declared.waiting.WaitWatch.{WaitWatch}
pub use Rattle.dk_isa.specs.Table.{instruction_of}
pub use Rattle.dk_isa.specs.declared.Instr.{Instr}
pub use Rattle.dk_repeat.specs.Laws.{EntriesKeepThreads, RunsRepeatForEver, RunsStandOn}
pub use Rattle.dk_repeat.specs.Reading.{EntriesShowReads, IsBehindRead, NobodyReads, ReadsTickAt, caller}
pub use Rattle.dk_repeat.specs.Repeat.{ReadsNoTickNext, RunStandsAgain, RunStandsAlike, ThreadsStandAlike, WindowsBegin, entry_at, keeps_threads, newest, standing}
pub use Rattle.dk_trace.specs.Audit.{Audited, HasNextSerial, ThreadFollows, done_refusal, row_of, without_event}
pub use Rattle.dk_trace.specs.Choices.{chosen}
pub use Rattle.dk_trace.specs.Entries.{is_of, is_same, quiet, thread_of}
pub use Rattle.dk_trace.specs.Threads.{Thread, after_entry, family, new_rows}
pub use Rattle.dk_trace.specs.Members.{Has}
pub use Rattle.dk_trace.specs.declared.Entry.{Entry}
pub use Rattle.dk_trace.specs.declared.Event.{Event}
pub use Rattle.dk_trace.specs.declared.Label.{Label}
pub use Rattle.dk_trace.specs.declared.ThreadId.{ThreadId}
pub use Rattle.dk_world.specs.Laws.{RunsAreAudited}
pub use Rattle.dk_world.specs.Run.{World, body_step, executes, quiet_step, step, trace, world}
pub use Rattle.std.proofs.Common.{Bool, List, None, Option, Some, [], ap, arith, false, inl, inr, length, map, refl, rules, subst, suc, sym, take, true, zero, ℕ, ◌%◌, ◌*◌, ◌++◌, ◌+◌, ◌-◌, ◌/◌, ◌<◌, ◌==◌, ◌||◌, ◌∙◌, ◌∷◌, ◌≡◌, ◌≤◌}
pub use Rattle.std.proofs.Math.Nat.{add-mod-mod, div-add-mod, mod_self, mul-le-mul_right, zero-mod}
pub use Rattle.std.proofs.lemmas.Bool.{cases_Bool, cases_eq, cases_lt, eq-eqb, eqb-true}
pub use Rattle.std.proofs.lemmas.Bool.Decides.{nat_tests}
pub use Rattle.std.proofs.lemmas.List.{length-append, length-map}
pub use Rattle.std.proofs.lemmas.Nat.{mod_below}
pub use Rattle.std.proofs.lemmas.Nat.Gcd.{dvd_of_mod-eq-zero, dvd_trans, mod-eq-zero_of_dvd}
pub use Rattle.std.proofs.lemmas.Option.{slice_get_within}
pub use Rattle.std.specs.Int.{◌∣◌}
pub use Rattle.std.specs.List.{list_any}
pub use Rattle.std.specs.Option.{option_map_or, option_or}
pub use Rattle.std.specs.Prelude.{IfSome, filter, MatchOption, is_some, if◌then◌else◌, nat_eq, replicate, ◌&&◌, slice_get, slice_index_or, slice_range}
