-- The names of other libraries and of this crate's specs that proofs here speak of.
pub use Rattle.dk_config.specs.Checked.{IsChecked, IsWithinLimits}
pub use Rattle.dk_config.specs.Configuration.{Configuration}
pub use Rattle.dk_config.specs.Sums.{numbers}
pub use Rattle.dk_config.specs.Windows.{window_end}
pub use Rattle.dk_config.specs.declared.TheConstants.{MAX_CHILDREN, MAX_THREADS, MAX_TICKS}
pub use Rattle.dk_threads.specs.Recount.{IsBooked, IsCharged, IsOpen, IsRecount, IsRecount as AreThreads, counted_row, counted_rows, end_in_row, entry_of, has_row, is_there, leaves_threads, main_id, row_at, state_of, unplaced}
pub use Rattle.dk_threads.specs.Rows.{AreChildren, IsChild, ends_at, has_slot, is_row_of, is_starting, is_stopped, is_taken, kept, started, starts_at, stopped, stopped_child, stopped_with_main}
pub use Rattle.dk_threads.specs.Stored.{AreKeys, IsStored, rows_at}
pub use Rattle.dk_threads.specs.Table.{AreFamilies, IsFamily, Table, all_stopped, begun, changed_all, changed_at, child_stopped, children_at, family_ended, family_started, find_row, first_family, free_slot, has_room, has_serials, is_running, new_row, next_id, rows_of, runs, serials_at, stands, table_at_start}
pub use Rattle.dk_threads.specs.declared.family.Family.{Family}
pub use Rattle.dk_threads.specs.declared.row.State.{State}
pub use Rattle.dk_threads.specs.declared.row.ThreadRow.{ThreadRow}
pub use Rattle.dk_trace.proofs.Members.{filter_map-has, find-has, find-some, has-filter_map, has-map, list_any-has}
pub use Rattle.dk_trace.proofs.Same.{same-id, same-self}
pub use Rattle.dk_trace.specs.Audit.{without_event}
pub use Rattle.dk_trace.specs.Entries.{has_event, is_end, is_of, is_same, main_of, quiet, stops, thread_of}
pub use Rattle.dk_trace.specs.Members.{Has}
pub use Rattle.dk_trace.specs.Threads.{Thread, after_entry, family, is_main, made_by, threads}
pub use Rattle.dk_trace.specs.declared.Entry.{Entry}
pub use Rattle.dk_trace.specs.declared.Event.{Event}
pub use Rattle.dk_trace.specs.declared.Label.{Label}
pub use Rattle.dk_trace.specs.declared.ThreadId.{ThreadId}
pub use Rattle.dk_windows.specs.Clock.{Clock, clock_at, end_at}
pub use Rattle.slab.specs.Slab.{Slab, Updates, get, slab_len}
pub use Rattle.std.proofs.Common.{Bool, List, Option, [], add-one, ap, append_assoc, arith, cond, drop, eqb, false, get_or, inl, inr, is_none, length, length-append, map, refl, set, subst, suc, sym, take, true, zero, ℕ, ◌*◌, ◌++◌, ◌+◌, ◌-◌, ◌<◌, ◌==◌, ◌||◌, ◌∙◌, ◌∷◌, ◌≡◌, ◌≢◌, ◌≤◌}
pub use Rattle.std.proofs.Math.Bool.{and-false, or-false}
pub use Rattle.std.proofs.lemmas.Bool.{and_parts, cases_Bool, cases_lt, eq-eqb, eqb-false, eqb-true, not-true, or_parts, true≢false}
pub use Rattle.std.proofs.lemmas.Bool.Decides.{nat_tests}
pub use Rattle.std.proofs.lemmas.List.{append-nil, at_drop_more, length-map, map-append, take_more}
pub use Rattle.std.proofs.lemmas.List.Elements.{filter_map-append}
pub use Rattle.std.proofs.lemmas.List.Folds.{list_any-append}
pub use Rattle.std.proofs.lemmas.List.FromFn.{get_or-map-range_with_len, length-map-range_with_len, map-range_with_len_more}
pub use Rattle.std.proofs.lemmas.Option.{slice_get-get_or, slice_get-map, slice_get_past, slice_get_read, slice_get_within}
pub use Rattle.std.specs.List.{cons_option, flat_map, list_any, range_with_len}
pub use Rattle.std.specs.Option.{option_map_or, option_or}
pub use Rattle.std.specs.Prelude.{All, IfSome, IsSome, None, Some, filter, filter_map, find, if◌then◌else◌, is_some, nat_le, nat_lt, not, option_map, remove, slice_get, sum_by, unwrap_or, ◌⊎◌}
