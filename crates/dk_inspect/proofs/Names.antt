-- The names of other libraries and of this crate's specs that proofs here speak of.
pub use Rattle.dk_bound.specs.Rows.{FamilyStands, RowsAreNamed}
pub use Rattle.dk_config.proofs.Counting.{at_index}
pub use Rattle.dk_config.specs.Configuration.{Configuration}
pub use Rattle.dk_config.specs.Sums.{below, numbers}
pub use Rattle.dk_config.specs.Windows.{process_name, window_end}
pub use Rattle.dk_config.specs.declared.TheConstants.{MAX_THREADS}
pub use Rattle.dk_config.specs.declared.rows.ProcessRow.{ProcessRow}
pub use Rattle.dk_cpu.specs.declared.Context.{Context}
pub use Rattle.dk_demand.specs.Cells.{Cells}
pub use Rattle.dk_demand.specs.Recount.{IsRecount, each_level}
pub use Rattle.dk_dispatch.proofs.Telling.{of-ready, telling-ready}
pub use Rattle.dk_inspect.specs.Printing.{IsHeaderOf, IsRowAt, IsTextAt, IsThereIn, all_lines, level_line_of, line_at, now_of, process_lines, shown_of, thread_line_of, word_of}
pub use Rattle.dk_inspect.specs.View.{context_of, denied_body, is_shown, level_body, level_line, registers, shown, state_word, thread_body, thread_line, view, view_of}
pub use Rattle.dk_kernel.specs.Running.{Running, trace_of, world_of}
pub use Rattle.dk_ledger.proofs.NameLemmas.{is_printable_as}
pub use Rattle.dk_ledger.specs.Heading.{Heading, ended, line_of_row, name_of}
pub use Rattle.dk_ledger.specs.declared.header.ProcessLine.{ProcessLine}
pub use Rattle.dk_outside.proofs.WrittenLemmas.{first_fails, second_ends}
pub use Rattle.dk_outside.specs.Views.{SinkView}
pub use Rattle.dk_outside.specs.Written.{Appends, Writes}
pub use Rattle.dk_past.specs.Past.{Past}
pub use Rattle.dk_threads.specs.Recount.{counted_row, counted_rows, has_row, is_there, row_at, state_of, unplaced}
pub use Rattle.dk_threads.specs.Rows.{is_row_of}
pub use Rattle.dk_threads.specs.declared.row.ThreadRow.{ThreadRow}
pub use Rattle.dk_trace.proofs.Members.{filter-has, get-has, list_any-has}
pub use Rattle.dk_trace.specs.Choices.{denied}
pub use Rattle.dk_trace.specs.Demand.{own_demand, remaining_demand}
pub use Rattle.dk_trace.specs.Entries.{is_same}
pub use Rattle.dk_trace.specs.Holds.{blocking}
pub use Rattle.dk_trace.specs.Members.{Has}
pub use Rattle.dk_trace.specs.Threads.{Thread, family, threads}
pub use Rattle.dk_trace.specs.declared.Entry.{Entry}
pub use Rattle.dk_trace.specs.declared.ThreadId.{ThreadId}
pub use Rattle.dk_windows.specs.Clock.{Clock, clock_at, end_at}
pub use Rattle.std.proofs.Common.{Bool, List, [], ap, append_assoc, arith, inl, inr, length, map, refl, rules, subst, suc, sym, take, true, zero, ℕ, ◌*◌, ◌++◌, ◌+◌, ◌-◌, ◌<◌, ◌==◌, ◌∙◌, ◌∷◌, ◌≡◌, ◌≤◌}
pub use Rattle.std.proofs.lemmas.Bool.{cases_Bool}
pub use Rattle.std.proofs.lemmas.Bool.Decides.{nat_tests}
pub use Rattle.std.proofs.lemmas.Grind.{flat_map-append}
pub use Rattle.std.proofs.lemmas.List.{append-nil, length-map}
pub use Rattle.std.proofs.lemmas.Option.{slice_get-map}
pub use Rattle.std.specs.List.{list_any}
pub use Rattle.std.specs.Option.{option_map_or}
pub use Rattle.std.specs.Prelude.{Err, IfSome, IsErr, None, Ok, Option, Result, Some, codes, decimal, false, filter, filter_map, find, flat_map, is_some, nat_lt, option_map, slice_get, slice_index}
