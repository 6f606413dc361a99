-- The names of other libraries and of this crate's specs that proofs here speak of.
pub use Rattle.dk_config.proofs.Counting.{get_or-map-numbers}
pub use Rattle.dk_config.proofs.Lists.{filter-all, slice_set-length}
pub use Rattle.dk_config.specs.Checked.{IsChecked}
pub use Rattle.dk_config.specs.Configuration.{Configuration}
pub use Rattle.dk_config.specs.Sums.{below, numbers}
pub use Rattle.dk_config.specs.Windows.{budget, main_level, release}
pub use Rattle.dk_config.specs.declared.TheConstants.{MAX_THREADS}
pub use Rattle.dk_config.specs.declared.rows.LevelRow.{LevelRow}
pub use Rattle.dk_rail.proofs.Quiet.{first-unlinked}
pub use Rattle.dk_rail.specs.Queues.{AreQuiet, Queues, holder, holds, pushed, queue_at, unlinked, without}
pub use Rattle.dk_rail.specs.Waits.{IsFirst as WaitsFirst}
pub use Rattle.dk_ready.specs.First.{IsKept}
pub use Rattle.dk_ready.specs.Recount.{AreParts, AreSeated, IsRecount, KeepsJobs, MovesJob, is_ready, kernel_part, ready_nodes, seat_of}
pub use Rattle.dk_ready.specs.Roster.{Roster, closed, closed_on, left_on, new_job, queued, seat_at, spent_for, spent_on, told_phase, vacant, with_job}
pub use Rattle.dk_ready.specs.Start.{first_parts, main_seat, seated}
pub use Rattle.dk_ready.specs.declared.first.First.{First}
pub use Rattle.dk_ready.specs.declared.seat.Seat.{Seat}
pub use Rattle.dk_trace.proofs.Members.{has-filter, list_any-has, map-has}
pub use Rattle.dk_trace.proofs.Orders.{left-more, worked-more}
pub use Rattle.dk_trace.proofs.Same.{same-id, same-self}
pub use Rattle.dk_trace.proofs.Windows.{count-charged}
pub use Rattle.dk_trace.specs.Entries.{is_kernel_at, is_same, kernel_level, quiet, window}
pub use Rattle.dk_trace.specs.JobSteps.{HasBody, released as whole, spent, worked_for}
pub use Rattle.dk_trace.specs.Jobs.{Job, job, kernel_rem, rem, thread_rem}
pub use Rattle.dk_trace.specs.Members.{Has}
pub use Rattle.dk_trace.specs.Threads.{Thread, family, main_thread, threads}
pub use Rattle.dk_trace.specs.declared.Entry.{Entry}
pub use Rattle.dk_trace.specs.declared.Label.{Label}
pub use Rattle.dk_trace.specs.declared.ThreadId.{ThreadId}
pub use Rattle.std.proofs.Common.{Bool, IfSome, List, None, Option, Some, [], ap, arith, cond, eqb, false, get_or, inl, inr, length, ltb, map, not, option_map, refl, replicate, set, subst, suc, sym, take, true, zero, ℕ, ◌&&◌, ◌*◌, ◌++◌, ◌+◌, ◌-◌, ◌<◌, ◌||◌, ◌∙◌, ◌∷◌, ◌≡◌, ◌≤◌, ◌⊎◌}
pub use Rattle.std.proofs.lemmas.Bool.{and_parts, cases_Bool, cases_eq, eqb-true}
pub use Rattle.std.proofs.lemmas.Bool.Decides.{nat_tests}
pub use Rattle.std.proofs.lemmas.List.{append-nil, get_or-set_same, length-replicate, length-set, map-append, set-get_or, set-set}
pub use Rattle.std.proofs.lemmas.List.Elements.{filter-append}
pub use Rattle.std.proofs.lemmas.Option.{slice_get-map}
pub use Rattle.std.specs.List.{position_from}
pub use Rattle.std.specs.Option.{MatchOption, option_map_or}
pub use Rattle.std.specs.Prelude.{IsNone, IsSome, count_by, filter, flat_map, fold, if◌then◌else◌, is_some, nat_lt, slice_get, ◌==◌}
