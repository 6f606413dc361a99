-- The names of other libraries and of this crate's specs that proofs here speak of.
pub use Rattle.dk_alone.specs.Again.{ProcessStandsAgain, WindowBegins, main_is_stopped}
pub use Rattle.dk_bound.specs.Rows.{FamilyStands}
pub use Rattle.dk_config.proofs.Lists.{filter-twice}
pub use Rattle.dk_config.specs.Checked.{IsAccepted, IsChecked}
pub use Rattle.dk_config.specs.Configuration.{Configuration}
pub use Rattle.dk_config.specs.Windows.{main_level, period}
pub use Rattle.dk_config.specs.declared.TheConstants.{MAX_RUN_TICKS, MAX_THREADS}
pub use Rattle.dk_cpu.specs.declared.Context.{Context}
pub use Rattle.dk_cycle.specs.Made.{IsLastMade}
pub use Rattle.dk_cycle.specs.Own.{IsMainState, IsOwnSearch}
pub use Rattle.dk_cycle.specs.Run.{AreProcessStates, Follows, IsLastReader, IsLongest, IsOtherProcess, IsProcessState, IsReader, IsRunSearch, IsRunState}
pub use Rattle.dk_cycle.specs.Seeking.{FollowsOn, HasLooked, HasLookedAtRun, HasNoCycle, HasNoOwnCycle, HoldsAll, IsDone, IsWholeState, IsYoung, IsYoungRun, LooksLater, LooksLaterAtRun, LooksPast, LooksPastProcess, LooksPastRun, OwnIsFound, RunIsFound, RunSeeksFrom, runs_on, state_of}
pub use Rattle.dk_cycle.specs.Start.{with_start}
pub use Rattle.dk_cycle.specs.Stretching.{GoQuietly, SearchesStay}
pub use Rattle.dk_cycle.specs.Told.{IsRunTold, OwnIsTold, RunIsTold, made_by, own_told, reader_by, run_told}
pub use Rattle.dk_cycle.specs.Waiting.{IsWaitWatch, IsWaits, WaitsAreTold, WaitsSoFar, waits_by, waits_told}
pub use Rattle.dk_cycle.specs.declared.Cycle.{Cycle}
pub use Rattle.dk_cycle.specs.declared.keeping.Keeping.{Keeping}
pub use Rattle.dk_cycle.specs.declared.made.Made.{Made}
pub use Rattle.dk_cycle.specs.declared.own.MainState.{MainState}
pub use Rattle.dk_cycle.specs.declared.own.OwnSearch.{OwnSearch}
pub use Rattle.dk_cycle.specs.declared.run.ProcessState.{ProcessState}
pub use Rattle.dk_cycle.specs.declared.run.RunSearch.{RunSearch}
pub use Rattle.dk_cycle.specs.declared.run.RunState.{RunState}
pub use Rattle.dk_cycle.specs.declared.run.ThreadState.{ThreadState}
pub use Rattle.dk_cycle.specs.declared.told.OwnTold.{OwnTold}
pub use Rattle.dk_cycle.specs.declared.told.RunTold.{RunTold}
pub use Rattle.dk_cycle.specs.declared.waiting.WaitWatch.{WaitWatch}
pub use Rattle.dk_cycle.specs.declared.waiting.Waits.{Waits}
pub use Rattle.dk_cycle_counts.specs.Counts.{AreCountsOf}
pub use Rattle.dk_cycle_counts.specs.Process.{use_of}
pub use Rattle.dk_cycle_counts.specs.declared.counts.CycleCounts.{CycleCounts}
pub use Rattle.dk_cycle_counts.specs.declared.process.MainShare.{MainShare}
pub use Rattle.dk_cycle_counts.specs.declared.process.ProcessUse.{ProcessUse}
pub use Rattle.dk_cycle_start.specs.Passes.{IsSettled}
pub use Rattle.dk_inspect.proofs.Lines.{few-shown, thread-of-row}
pub use Rattle.dk_inspect.specs.Printing.{IsRowAt, IsThereIn, now_of, shown_of}
pub use Rattle.dk_inspect.specs.View.{is_shown}
pub use Rattle.dk_kernel.specs.Booting.{IsLoaded}
pub use Rattle.dk_kernel.specs.Running.{Running, trace_of, world_of}
pub use Rattle.dk_kernel.specs.Stretches.{IsComputed}
pub use Rattle.dk_kernel.specs.declared.stretch.Stretch.{Stretch}
pub use Rattle.dk_loader.specs.Workload.{Workload}
pub use Rattle.dk_repeat.specs.Repeat.{WindowsBegin}
pub use Rattle.dk_repeat_report.proofs.Told.{repeats-text}
pub use Rattle.dk_repeat_report.specs.Cycles.{CountsOne, CyclesAreAlike, IsOneCounted, entries_from, share_at, shares_of}
pub use Rattle.dk_repeat_report.specs.Found.{AreOf, found_text}
pub use Rattle.dk_repeat_report.specs.Lines.{names_of}
pub use Rattle.dk_repeat_report.specs.OwnUses.{IsOneFound, IsOneUse, IsSameOwn, OwnCyclesAreAlike, UsesOne, cycle_by, own_cycle}
pub use Rattle.dk_repeat_report.specs.declared.own.OwnFound.{OwnFound}
pub use Rattle.dk_repeat_search.specs.Always.{AreTold, AreWaits, AreWatches, IsAlways, IsWatching, watched_process}
pub use Rattle.dk_repeat_search.specs.Counting.{AreOwnFound, CountsSome, IsFound, StartsCycle, told_of}
pub use Rattle.dk_repeat_search.specs.Repeats.{AreLast, HasNoneToFind, IsRepeatsOf, KnowsLast, NoneWasToFind, RunHasNoneToFind, repeats, searched_ticks}
pub use Rattle.dk_repeat_search.specs.Searching.{AllLookFor, AreOwn, HasLookedAtRunBefore, HasLookedBefore, HasOtherNow, HasSettled, HaveEnded, HaveLooked, IsOtherNow, IsOtherRun, IsSearching, LooksAtRunFor, LooksFor, MayPass, MayPassRun, begun, loaded_of, process_of}
pub use Rattle.dk_repeat_search.specs.States.{AreThreads, AreWhole, IsThreadAt, IsWholeProcess, going_on, listed}
pub use Rattle.dk_repeat_search.specs.declared.count.Found.{Found}
pub use Rattle.dk_repeat_search.specs.declared.search.Searches.{Searches}
pub use Rattle.dk_threads.specs.Recount.{counted_row, unplaced}
pub use Rattle.dk_threads.specs.Rows.{is_stopped}
pub use Rattle.dk_threads.specs.declared.row.ThreadRow.{ThreadRow}
pub use Rattle.dk_trace.proofs.Members.{has-filter}
pub use Rattle.dk_trace.specs.Entries.{is_same, quiet}
pub use Rattle.dk_trace.specs.Members.{Has}
pub use Rattle.dk_trace.specs.Threads.{Thread, family, is_main}
pub use Rattle.dk_trace.specs.declared.Entry.{Entry}
pub use Rattle.dk_trace.specs.declared.Event.{Event}
pub use Rattle.dk_trace.specs.declared.Label.{Label}
pub use Rattle.dk_trace.specs.declared.ThreadId.{ThreadId}
pub use Rattle.dk_world.specs.Run.{trace, world}
pub use Rattle.std.proofs.Common.{Bool, List, None, Option, Some, [], ap, arith, false, get_or, inl, inr, length, map, refl, rules, set, subst, suc, sym, take, true, zero, ℕ, ◌&&◌, ◌%◌, ◌*◌, ◌++◌, ◌+◌, ◌-◌, ◌/◌, ◌<◌, ◌==◌, ◌∙◌, ◌∷◌, ◌≡◌, ◌≢◌, ◌≤◌, ◌⊎◌}
pub use Rattle.std.proofs.Math.Bool.{or-true}
pub use Rattle.std.proofs.Math.Nat.{div-add-mod, mul-le-mul_left}
pub use Rattle.std.proofs.Math.Seq.{get_or-append_seam, take-append-add}
pub use Rattle.std.proofs.lemmas.Bool.{cases_Bool, cases_eq, cases_lt}
pub use Rattle.std.proofs.lemmas.Bool.Decides.{nat_tests}
pub use Rattle.std.proofs.lemmas.List.{length-replicate, get_or-set_other, get_or-set_same, get_or_append_left, get_or_default, length-map, length-set, length_push, map-append, map-id, map_more, take_all}
pub use Rattle.std.proofs.lemmas.List.Elements.{All-push, All-set}
pub use Rattle.std.proofs.lemmas.List.FromFn.{get_or-map-range_with_len, get_or-range_with_len, length-map-range_with_len, length-range_with_len, map-range_with_len_more}
pub use Rattle.std.proofs.lemmas.Nat.{mod_below}
pub use Rattle.std.proofs.lemmas.Option.{get_or_from_slice_get, slice_get_read, slice_get_within}
pub use Rattle.std.specs.List.{range_with_len}
pub use Rattle.std.specs.Prelude.{All, IfOk, IfSome, IsSomeAnd, filter, is_none, is_some, nat_lt, option_map, replicate, slice_get, slice_index_or}
