-- The names of other libraries and of this crate's specs that proofs here speak of.
pub use Rattle.dk_config.proofs.Counting.{length-numbers}
pub use Rattle.dk_config.specs.Configuration.{Configuration}
pub use Rattle.dk_config.specs.Rules.{is_name, is_word}
pub use Rattle.dk_config.specs.Sums.{below, numbers}
pub use Rattle.dk_config.specs.Windows.{period}
pub use Rattle.dk_entry_words.proofs.ReadBack.{event_blanks, line_blanks, printable}
pub use Rattle.dk_entry_words.proofs.Spelled.{parted_all, word_all}
pub use Rattle.dk_entry_words.specs.Parted.{behind, parted}
pub use Rattle.dk_entry_words.specs.Works.{work_words}
pub use Rattle.dk_groups.proofs.InTurn.{groups_filled, groups_in_turn}
pub use Rattle.dk_groups.proofs.ListParts.{first_same}
pub use Rattle.dk_groups.proofs.NextLine.{groups_in_order}
pub use Rattle.dk_groups.proofs.Slices.{whole_slice}
pub use Rattle.dk_groups.specs.Cutting.{Cutting, HasGiven, IsCutting}
pub use Rattle.dk_groups.specs.Groups.{groups, part_of_line, slice}
pub use Rattle.dk_hold_spans.proofs.Adding.{each_added}
pub use Rattle.dk_hold_spans.specs.HoldLists.{ended_hold, ended_holds, holds_behind, holds_in, open_hold, part_from}
pub use Rattle.dk_hold_spans.specs.declared.hold.Hold.{Hold}
pub use Rattle.dk_holds.specs.Holds.{ended, holding}
pub use Rattle.dk_holds.specs.declared.holding.Holding.{Holding}
pub use Rattle.dk_ledger.proofs.EntryLists.{IsReadableLine, all_both, get_front, get_seam, length-entries, lines_readable}
pub use Rattle.dk_ledger.proofs.NameLemmas.{both_right}
pub use Rattle.dk_ledger.proofs.NextItem.{if_ok}
pub use Rattle.dk_ledger.proofs.OneCut.{is_cut}
pub use Rattle.dk_ledger.proofs.Readings.{some_is}
pub use Rattle.dk_ledger.proofs.Spelled.{all_append, event_spelled, line_spelled, number_spelled, process_spelled, thread_spelled}
pub use Rattle.dk_ledger.proofs.WordBytes.{all_more}
pub use Rattle.dk_ledger.specs.Cuts.{AreFilled, AreInTurn, entries_of}
pub use Rattle.dk_ledger.specs.Heading.{Heading, name_of}
pub use Rattle.dk_ledger.specs.LineText.{argument_words, event_text, label_text, line_body, thread_text}
pub use Rattle.dk_ledger.specs.Lines.{lines_of}
pub use Rattle.dk_ledger.specs.Readable.{IsProcessLine, IsReadable, IsReadableHeading, Journal, size_in}
pub use Rattle.dk_ledger.specs.Words.{event_words, is_spelled, line_words}
pub use Rattle.dk_ledger.specs.declared.header.ProcessLine.{ProcessLine}
pub use Rattle.dk_ledger.specs.declared.line.LedgerLine.{LedgerLine}
pub use Rattle.dk_picture.specs.Axis.{is_wide, tick_text}
pub use Rattle.dk_picture.specs.Bars.{bar_of, bar_text, bars, class_of, shift_of}
pub use Rattle.dk_picture.specs.Columns.{column_weight, sort_weight}
pub use Rattle.dk_picture.specs.Elements.{rect_head, words_at}
pub use Rattle.dk_picture.specs.HoldBars.{held_weight, hold_bar, hold_bar_text, hold_bars, hold_class, hold_words, is_of_mutex, mutex_row, mutex_rows, mutexes_text, row_of_mutex}
pub use Rattle.dk_picture.specs.Labels.{edge_of, group_label, hold_edge_of, hold_label}
pub use Rattle.dk_picture.specs.Laws.{AddUp, AreBarsOf, Cell, HasMutexRow, IsTold, cell_of, cells_of, marks_from}
pub use Rattle.dk_picture.specs.Legends.{legend_rows, meaning_of, meanings, named_classes}
pub use Rattle.dk_picture.specs.Lines.{thread_part}
pub use Rattle.dk_picture.specs.Makings.{is_line_before, making_of, makings, makings_in}
pub use Rattle.dk_picture.specs.Marks.{Mark, is_before, is_in_way, is_urgent, mark_class, mark_text, mark_title, marks, marks_at, marks_of, owner_words, strip_weight}
pub use Rattle.dk_picture.specs.Opening.{ground_text, head_text, levels_words, opening_text, process_words}
pub use Rattle.dk_picture.specs.Pictures.{IsGreatestEnd, IsShown, IsTooMany, body_text, foot_text, framed_text, legend_head, legend_text, parts_text, picture_text, promised_svg, svg_text}
pub use Rattle.dk_picture.specs.Pixels.{BeginsAt, IsInBar}
pub use Rattle.dk_picture.specs.Places.{before, has_pixels, middle_of, place_of, ticks_in}
pub use Rattle.dk_picture.specs.PlainWords.{ArePlain, IsPlain, is_plain}
pub use Rattle.dk_picture.specs.PromiseMarks.{key_text, promise_marks}
pub use Rattle.dk_picture.specs.Promises.{HasBound, IsBound, IsPromised, Promised, nothing_promised}
pub use Rattle.dk_picture.specs.RowTexts.{quiet_names, row_name, rows_text}
pub use Rattle.dk_picture.specs.Rows.{child_of, child_rows, children, is_seen, level_of, level_rows, main_rows, own_child, process_rows, quiet_main, rows_at_level, rows_of, takes, takes_thread, thread_of_process, with_child}
pub use Rattle.dk_picture.specs.Scenes.{Scene, frame_of, scene_of}
pub use Rattle.dk_picture.specs.Shares.{done_by, is_done_in, is_last, is_whole, overran_in, share_in, share_of, share_text, shares, shares_of, shares_of_process, shares_text, ticks_within, used_in, used_weight}
pub use Rattle.dk_picture.specs.Styles.{HasOneFill, bands_text, dark, dark_fills, fills_of, light, style_text}
pub use Rattle.dk_picture.specs.Terms.{makes, period_of}
pub use Rattle.dk_picture.specs.Waits.{holds_at, main_of, wait_text, waits_text}
pub use Rattle.dk_picture.specs.Windows.{begin_line, begin_lines, levels_text, window_at, window_count, window_text, windows_head, windows_in, windows_text}
pub use Rattle.dk_picture.specs.declared.frame.Frame.{Frame}
pub use Rattle.dk_picture.specs.declared.promise.Bound.{Bound}
pub use Rattle.dk_picture.specs.declared.reading.PictureFault.TheVariants.{TooMany}
pub use Rattle.dk_picture.specs.declared.rows.Row.{Row}
pub use Rattle.dk_picture.specs.declared.shares.Share.{Share}
pub use Rattle.dk_picture.specs.declared.span.Span.{Span}
pub use Rattle.dk_picture.specs.declared.windows.Window.{Window}
pub use Rattle.dk_picture.specs.declared.style.TheConstants.{LEGEND, STYLE, WINDOWS_HEAD}
pub use Rattle.dk_trace.proofs.Members.{flat-has}
pub use Rattle.dk_trace.proofs.Windows.{count_by-cons}
pub use Rattle.dk_trace.specs.Entries.{does, is_budget_of, is_end, is_of, is_same, is_wait, quiet, stops, thread_of, window}
pub use Rattle.dk_trace.specs.Guarantees.{job_from, past_at}
pub use Rattle.dk_trace.specs.Members.{Has}
pub use Rattle.dk_trace.specs.Ranges.{HasEntry, HasLabel}
pub use Rattle.dk_trace.specs.Says.{arguments_of, word_of}
pub use Rattle.dk_trace.specs.Threads.{Thread}
pub use Rattle.dk_trace.specs.declared.Entry.{Entry}
pub use Rattle.dk_trace.specs.declared.Event.{Event}
pub use Rattle.dk_trace.specs.declared.Label.{Label}
pub use Rattle.dk_trace.specs.declared.Source.{Source}
pub use Rattle.dk_trace.specs.declared.ThreadId.{ThreadId}
pub use Rattle.dk_trace.specs.declared.Work.{Work}
pub use Rattle.dk_window_report.specs.Windows.{did_in, is_overrun}
pub use Rattle.std.proofs.Common.{All, List, [], ap, append_assoc, arith, codes, drop, eq-eqb, flat_map, inl, inr, length, length-append, length-drop, map, refl, string_bytes, subst, suc, sum_by, sym, take, zero, ℕ, ◌%◌, ◌*◌, ◌++◌, ◌+◌, ◌-◌, ◌/◌, ◌<◌, ◌∙◌, ◌∷◌, ◌≡◌, ◌≤◌, ◌⊎◌}
pub use Rattle.std.proofs.Math.Nat.{add-mul, div-le_of_le-mul, div-mul-le_self, lt-div-mul-add, mul-le-mul_left, mul_comm, mul_left_comm}
pub use Rattle.std.proofs.Math.Seq.{drop-append_seam, take-append_seam}
pub use Rattle.std.proofs.lemmas.Bool.{eqb-false, eqb-true, le-ltb, lt-ltb, ltb-false}
pub use Rattle.std.proofs.lemmas.Bool.Decides.{nat_tests}
pub use Rattle.std.proofs.lemmas.Grind.{flat_map-append}
pub use Rattle.std.proofs.lemmas.List.{append-nil, length-map, length-replicate, length-reverse, length-take, length-take-le, map-append, reverse-append, take-append-drop}
pub use Rattle.std.proofs.lemmas.List.Folds.{list_any-append}
pub use Rattle.std.proofs.lemmas.List.Sorted.{IsPermutation-reverse, list_any-IsPermutation, sum_by-IsPermutation}
pub use Rattle.std.proofs.lemmas.List.Sums.{sum_by-append, sum_by-cons}
pub use Rattle.std.proofs.lemmas.Nat.{le-div}
pub use Rattle.std.proofs.lemmas.Option.{slice_get_within}
pub use Rattle.std.specs.Fmt.{digits}
pub use Rattle.std.specs.List.{AllByRecursion, list_all, list_any, position_or_len}
pub use Rattle.std.specs.Option.{option_map_or}
pub use Rattle.std.specs.Prelude.{Bool, Err, IfOk, None, Ok, OnOk, Option, Result, Some, cond, count_by, decimal, false, find, fold, if◌then◌else◌, max, min, nat_le, nat_lt, not, option_to_list, replicate, reverse, slice_get, true, unwrap_or, ◌&&◌, ◌==◌, ◌||◌}
pub use Rattle.std.specs.Str.{bytes_eq}
pub use borrow.Author.Tests.{ltb-true}
