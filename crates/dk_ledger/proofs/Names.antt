-- The names of other libraries and of this crate's specs that proofs here speak of.
pub use Rattle.arrayvec.specs.ArrayVec.{ArrayVec}
pub use Rattle.dk_certify.specs.Verdicts.{row_of, rows_of}
pub use Rattle.dk_certify.specs.declared.table.TableRow.{TableRow}
pub use Rattle.dk_config.proofs.Counting.{length-numbers}
pub use Rattle.dk_config.specs.Checked.{IsAccepted, IsChecked, IsWithinLimits}
pub use Rattle.dk_config.specs.Configuration.{Configuration}
pub use Rattle.dk_config.specs.Rules.{is_name, is_word}
pub use Rattle.dk_config.specs.Sums.{below, numbers}
pub use Rattle.dk_config.specs.Windows.{process_name}
pub use Rattle.dk_config.specs.declared.rows.ProcessRow.{ProcessRow}
pub use Rattle.dk_isa.specs.declared.FaultKind.{FaultKind}
pub use Rattle.dk_ledger.specs.Cuts.{AreApart, AreFilled, AreInTurn, IsCut, IsCutFrom, entries_of}
pub use Rattle.dk_ledger.specs.Heading.{Heading, IsPrintable, ended, header_text, heading_of, level_body, level_lines, line_of_row, name_of, process_body, process_lines}
pub use Rattle.dk_ledger.specs.Ledgers.{IsAfter, Progress, all_but_last, closed_text, closing_text, end_line, ending_text, entries_text, last_after, last_of, last_text}
pub use Rattle.dk_ledger.specs.LineText.{IsNamed, argument_words, event_part, fault_text, label_text, ledger_line, line_body, lines_text, slack_text, thread_text, work_text}
pub use Rattle.dk_ledger.specs.Lines.{has_none, joins, lines_from, lines_of, put_before, same_label, single}
pub use Rattle.dk_ledger.specs.Parted.{behind, parted}
pub use Rattle.dk_ledger.specs.ReadSoFar.{ComesNext, EndFits, Fits, GoesFurther, HasRead, HasReadAll, IsApart, IsFrontOf, IsGiven, IsKept, IsPart, IsReading, Item, Kept, LevelFits, Part, ProcessFits, Reading, Takes, TakesNone, TicksFit, bodies_of, end_bodies, end_body, entries_in, fed, item_body, keeping, kept, level_bodies, part_of, whole, with_item, with_level, with_process}
pub use Rattle.dk_ledger.specs.Readable.{HaveOwnNames, IsLevelRow, IsNoText, IsProcessLine, IsReadable, IsReadableHeading, IsWrongLine, Journal, ShareLines, lines_in, size_in, text_of, without_last}
pub use Rattle.dk_ledger.specs.Stretches.{last_after_stretch, lengthened, stretch_of}
pub use Rattle.dk_ledger.specs.Words.{AreSpelled, IsSpelled, end_words, event_words, first_word, is_spelled, label_words, level_words, line_words, process_words, source_words, texts, words_of}
pub use Rattle.dk_ledger.specs.declared.header.ProcessLine.{ProcessLine}
pub use Rattle.dk_ledger.specs.declared.ledger.LedgerFault.{LedgerFault}
pub use Rattle.dk_ledger.specs.declared.line.LedgerLine.{LedgerLine}
pub use Rattle.dk_outside.proofs.WrittenLemmas.{first_fails, second_ends}
pub use Rattle.dk_outside.specs.Written.{Writes}
pub use Rattle.dk_outside.specs.declared.sink.SinkError.{SinkError}
pub use Rattle.dk_trace.proofs.Same.{make-id}
pub use Rattle.dk_trace.specs.Entries.{quiet}
pub use Rattle.dk_trace.specs.Ranges.{HasEntry, HasLabel, HasOwnEvent, HasSource, HasThread, size_of}
pub use Rattle.dk_trace.specs.Refusals.{number}
pub use Rattle.dk_trace.specs.Says.{arguments_of, word_of}
pub use Rattle.dk_trace.specs.contracts.EventPartialEq.TheImpl.{eq-value}
pub use Rattle.dk_trace.specs.declared.Entry.{Entry}
pub use Rattle.dk_trace.specs.declared.Event.{Event}
pub use Rattle.dk_trace.specs.declared.Label.{Label}
pub use Rattle.dk_trace.specs.declared.Refusal.{Refusal}
pub use Rattle.dk_trace.specs.declared.Source.{Source}
pub use Rattle.dk_trace.specs.declared.ThreadId.{ThreadId}
pub use Rattle.dk_trace.specs.declared.Work.{Work}
pub use Rattle.dk_trace.specs.declared.says.Arguments.{Arguments}
pub use Rattle.itoa.proofs.Decimal.{length_four, length_one, length_pair, length_two}
pub use Rattle.std.proofs.Common.{Bool, List, [], add-one, add-zero, ap, append-nil, append_assoc, arith, drop, false, get_or, inl, inr, length, length-append, lit<, map, refl, rules, subst, suc, sym, take, tests, true, zero, zero-add, ℕ, ◌%◌, ◌*◌, ◌++◌, ◌+◌, ◌-◌, ◌/◌, ◌<◌, ◌^◌, ◌∙◌, ◌∷◌, ◌≡◌, ◌≢◌, ◌≤◌}
pub use Rattle.std.proofs.Math.Seq.{drop-append_seam, get_or-append_seam, take-add, take-append-add, take-append_seam}
pub use Rattle.std.proofs.lemmas.Bool.{and_parts, cases_order, eqb-false, eqb-true, lt-ltb, ltb-false, ltb-true, or_parts}
pub use Rattle.std.proofs.lemmas.Bool.Decides.{Decides-eqb, nat_tests}
pub use Rattle.std.proofs.lemmas.Fmt.{decimal_digit, decimal_injective, decimal_nonempty, decimal_step, digits_decimal, length-decimal-le, parse-decimal}
pub use Rattle.std.proofs.lemmas.Grind.{common_steps, flat_map-append}
pub use Rattle.std.proofs.lemmas.Iterator.{YieldsList, YieldsList-from_slice, YieldsList-from_take, items_from_drains}
pub use Rattle.std.proofs.lemmas.Iterator.Search.{position_from_yields_List}
pub use Rattle.std.proofs.lemmas.Iterator.Splits.{YieldsList-from_str_split}
pub use Rattle.std.proofs.lemmas.List.{append_cancel_left, drop-set-lt, drop-take, get_or-take, length-map, length-replicate, length-take, length-take-le, map-append, nil_from_length, replicate_more, take-append-drop, take-append-le, take_all, take_more_set, take_rest}
pub use Rattle.std.proofs.lemmas.List.Quantifiers.{position-Some}
pub use Rattle.std.proofs.lemmas.List.Splits.{length-slice_split, slice_split_at, slice_split_none}
pub use Rattle.std.proofs.lemmas.Option.{slice_get-get_or}
pub use Rattle.std.proofs.lemmas.Slice.Eq.{bytes_eq-Decides, strip_prefix_is}
pub use Rattle.std.proofs.lemmas.Str.{IsUtf8-from_ascii}
pub use Rattle.std.proofs.lemmas.Str.Parse.{IsNumeralModel, numerals_by_value, tells_all_ascii_digits}
pub use Rattle.std.proofs.lemmas.Str.Pattern.{IsSplitOnceResult, split_after}
pub use Rattle.std.specs.Borrow.{Bor}
pub use Rattle.std.specs.Char.{is_ascii_digit}
pub use Rattle.std.specs.Fmt.{digit_glyph, digits, digits_onto}
pub use Rattle.std.specs.Iterator.{DrainsIf}
pub use Rattle.std.specs.List.{AllByRecursion, list_all, list_any, position, prefix_len, slice_split}
pub use Rattle.std.specs.Option.{is_some, option_eq, option_map, option_map_or}
pub use Rattle.std.specs.Prelude.{All, Err, IfOk, IfSome, IsErr, IsErrOf, MatchOption, None, Ok, OnOk, Option, Result, Some, codes, cond, decimal, flat_map, if◌then◌else◌, nat_lt, not, replicate, slice_get, slice_set, ◌&&◌, ◌==◌, ◌||◌, ◌⊎◌}
pub use Rattle.std.specs.Result.{IsErrAnd, result_unwrap_or}
pub use Rattle.std.specs.Str.{IsUtf8, all_ascii_digits, bytes_eq}
pub use Rattle.std.specs.Str.Iter.{split_has_more, split_pattern, split_text}
pub use Rattle.std.specs.Str.Parse.{digits_value}
pub use Rattle.std.proofs.lemmas.Slice.{take-put_mid}
pub use borrow.Rule.Slice.PartMut.{put_mid}
