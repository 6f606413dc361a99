-- The names of other libraries and of this crate's specs that proofs here speak of.
pub use Rattle.dk_config.specs.Checked.{IsAccepted, IsChecked}
pub use Rattle.dk_config.specs.Configuration.{Configuration}
pub use Rattle.dk_config.specs.declared.TheConstants.{MAX_THREADS}
pub use Rattle.dk_cpu.specs.declared.Context.{Context}
pub use Rattle.dk_cycle.proofs.Seen.{apart}
pub use Rattle.dk_cycle.proofs.Starts.{begins-longest}
pub use Rattle.dk_cycle.specs.Run.{IsLongest, IsReader, IsRunSearch}
pub use Rattle.dk_cycle.specs.Start.{AreImagesAlike, FollowsStart, IsOpen, Opens, Shuts, StartsAt, StartsFirst, with_start}
pub use Rattle.dk_cycle.specs.Stretching.{GoQuietly, StartsStay}
pub use Rattle.dk_cycle.specs.declared.Cycle.{Cycle}
pub use Rattle.dk_cycle.specs.declared.run.RunSearch.{RunSearch}
pub use Rattle.dk_cycle.specs.declared.start.StartSearch.{StartSearch}
pub use Rattle.dk_cycle_start.specs.Alike.{AreComparable, AreDifferent, HasOtherContext, HasOtherMemory, IsSameAt, IsSameImage, IsSameMemory, context_of}
pub use Rattle.dk_cycle_start.specs.Passes.{Answers, HasPrograms, IsCycleOf, IsFirst, IsLater, IsSearch, IsSettled, begun}
pub use Rattle.dk_inspect.proofs.Lines.{few-shown, thread-of-row}
pub use Rattle.dk_inspect.specs.Printing.{IsRowAt, IsThereIn, now_of, shown_of}
pub use Rattle.dk_inspect.specs.View.{is_shown}
pub use Rattle.dk_kernel.specs.Booting.{IsLoaded}
pub use Rattle.dk_kernel.specs.Running.{Running, trace_of, world_of}
pub use Rattle.dk_kernel.specs.Stretches.{IsComputed, calls, entries_of}
pub use Rattle.dk_kernel.specs.declared.stretch.Stretch.{Stretch}
pub use Rattle.dk_loader.specs.Workload.{Workload}
pub use Rattle.dk_repeat.specs.Reading.{HasRead, IsBehindRead, RunsOn, ShowsReads, caller, quiet_caller}
pub use Rattle.dk_repeat.specs.Repeat.{RunStandsAgain, Standing, ThreadsStandAlike, standing}
pub use Rattle.dk_threads.specs.Recount.{counted_row, has_row, is_there, state_of}
pub use Rattle.dk_threads.specs.Rows.{is_stopped}
pub use Rattle.dk_threads.specs.declared.row.ThreadRow.{ThreadRow}
pub use Rattle.dk_trace.proofs.Members.{filter-has, flat-has, get-has, has-filter, has-map, list_any-has, map-has}
pub use Rattle.dk_trace.proofs.Same.{same-self}
pub use Rattle.dk_trace.specs.Entries.{is_same, quiet}
pub use Rattle.dk_trace.specs.Members.{Has}
pub use Rattle.dk_trace.specs.Ranges.{size_of}
pub use Rattle.dk_trace.specs.Threads.{Thread, family, is_main, threads}
pub use Rattle.dk_trace.specs.declared.Entry.{Entry}
pub use Rattle.dk_trace.specs.declared.Event.{Event}
pub use Rattle.dk_trace.specs.declared.Label.{Label}
pub use Rattle.dk_trace.specs.declared.ThreadId.{ThreadId}
pub use Rattle.dk_trace.specs.declared.Work.{Work}
pub use Rattle.dk_world.specs.Run.{trace, world}
pub use Rattle.std.proofs.Common.{Bool, List, None, Option, Some, [], ap, arith, false, inl, inr, length, map, refl, rules, subst, suc, sym, take, true, zero, ℕ, ◌%◌, ◌++◌, ◌+◌, ◌-◌, ◌<◌, ◌∙◌, ◌∷◌, ◌≡◌, ◌≤◌}
pub use Rattle.std.proofs.Math.Bool.{or-true}
pub use Rattle.std.proofs.Math.Nat.{add-mod_right}
pub use Rattle.std.proofs.lemmas.Bool.{cases_Bool, cases_eq, cases_lt}
pub use Rattle.std.specs.List.{list_any}
pub use Rattle.std.specs.Prelude.{IfSome, OnOk, is_some, nat_lt, option_map, replicate, slice_get, slice_index_or}
