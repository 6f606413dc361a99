-- The names of other libraries and of this crate's specs that proofs here speak of.
pub use Rattle.dk_certify.specs.Laws.{migrated}
pub use Rattle.dk_certify.specs.Verdicts.{row_of, rows_of}
pub use Rattle.dk_command.specs.LedgerLines.{HasCounted}
pub use Rattle.dk_command.specs.Output.{Fails, IsText, SomeFails}
pub use Rattle.dk_command.specs.Planner.{ask_line}
pub use Rattle.dk_command.specs.Promises.{Keeps}
pub use Rattle.dk_command.specs.Recorded.{Begun, HasCountedRun, HasWritten}
pub use Rattle.dk_command.specs.Runs.{AreEntries, workload_of}
pub use Rattle.dk_command.specs.Work.{Does, IsReady, SomeDoes, WritesFor}
pub use Rattle.dk_command.specs.declared.work.Work.{Work}
pub use Rattle.dk_config.proofs.Passing.{both_pass, parts_pass}
pub use Rattle.dk_config.specs.Checked.{BreaksNoRule}
pub use Rattle.dk_config.specs.Configuration.{Configuration}
pub use Rattle.dk_config.specs.Rules.{again_tests, all_tests, budget_tests, count_tests, level_tests, name_tests, period_tests, range_tests, slowest_level, slowest_tests, user_tests, version_tests}
pub use Rattle.dk_config.specs.Sums.{below, numbers}
pub use Rattle.dk_config.specs.Tests.{Test, each_row, first_broken}
pub use Rattle.dk_config.specs.declared.TheConstants.{MAX_RUN_TICKS}
pub use Rattle.dk_config.specs.declared.rows.ProcessRow.{ProcessRow}
pub use Rattle.dk_inputs.proofs.FollowLemmas.{Never, Same, some_map}
pub use Rattle.dk_inputs.specs.Answer.{is_failed_read, is_silent}
pub use Rattle.dk_inputs.specs.Follows.{Finds, Follows, Makes, Refuses, Tells}
pub use Rattle.dk_inputs.specs.Inputs.{CanBoot, IsCertified, heading, job_of}
pub use Rattle.dk_inputs.specs.Jobs.{Job, ledger, job_for_words, run, some_found, state}
pub use Rattle.dk_inputs.specs.Reads.{Files, Reads}
pub use Rattle.dk_inputs.specs.declared.inputs.Inputs.{Inputs}
pub use Rattle.dk_inputs.specs.declared.refusal.Refusal.{Refusal}
pub use Rattle.dk_inspect.specs.Printing.{IsHeaderOf}
pub use Rattle.dk_inspect.specs.View.{view}
pub use Rattle.dk_kernel.specs.Booting.{IsLoaded}
pub use Rattle.dk_kernel.specs.Running.{Running, trace_of}
pub use Rattle.dk_kernel.specs.Stretches.{gone_on}
pub use Rattle.dk_ledger.proofs.CutLemmas.{closed_text-append, whole_text}
pub use Rattle.dk_ledger.proofs.NextItem.{if_ok}
pub use Rattle.dk_ledger.proofs.Readings.{passed_on}
pub use Rattle.dk_ledger.specs.Cuts.{entries_of}
pub use Rattle.dk_ledger.specs.Heading.{Heading, IsPrintable, header_text, line_of_row}
pub use Rattle.dk_ledger.specs.Ledgers.{Drafted, IsAfter, Progress, closed_text, closing_text, end_line, ending_text, entries_text, last_of, last_text, ledger_text}
pub use Rattle.dk_ledger.specs.LineText.{IsNamed, ledger_line}
pub use Rattle.dk_ledger.specs.Lines.{lines_of}
pub use Rattle.dk_ledger.specs.ReadSoFar.{ComesNext}
pub use Rattle.dk_ledger.specs.Readable.{IsNoText, IsWrongLine}
pub use Rattle.dk_ledger.specs.Stretches.{stretch_of}
pub use Rattle.dk_ledger.specs.declared.ledger.LedgerFault.{LedgerFault}
pub use Rattle.dk_ledger.specs.declared.line.LedgerLine.{LedgerLine}
pub use Rattle.dk_loader.specs.Workload.{Workload}
pub use Rattle.dk_outside.proofs.WrittenLemmas.{first_fails, second_ends}
pub use Rattle.dk_outside.specs.Views.{DepotView, SinkView}
pub use Rattle.dk_outside.specs.Written.{Appends, Writes}
pub use Rattle.dk_outside.specs.declared.sink.SinkError.{SinkError}
pub use Rattle.dk_report.specs.Counts.{Numbers, StandsFor, numbers_of}
pub use Rattle.dk_report.specs.Report.{numbers_text}
pub use Rattle.dk_request.specs.declared.output.Output.{Output}
pub use Rattle.dk_trace.specs.Choices.{chosen}
pub use Rattle.dk_trace.specs.Entries.{kernel_level, quiet, thread_of}
pub use Rattle.dk_trace.specs.Ranges.{HasLabel, Size, size_of}
pub use Rattle.dk_trace.specs.declared.Entry.{Entry}
pub use Rattle.dk_trace.specs.declared.Label.{Label}
pub use Rattle.dk_trace.specs.declared.ThreadId.{ThreadId}
pub use Rattle.dk_world.specs.Run.{body_step, executes, quiet_step, trace, world}
pub use Rattle.std.proofs.Common.{List, [], ap, append-nil, append_assoc, arith, codes, drop, flat_map, length, length-append, map, refl, reverse, rules, string_bytes, subst, suc, sym, true, zero, ℕ, ◌++◌, ◌+◌, ◌-◌, ◌<◌, ◌==◌, ◌∙◌, ◌∷◌, ◌≡◌, ◌≤◌}
pub use Rattle.std.proofs.lemmas.Bool.{false≢true}
pub use Rattle.std.proofs.lemmas.Bool.Decides.{nat_tests}
pub use Rattle.std.proofs.lemmas.List.{length-map, length-reverse, replicate_more, reverse-append}
pub use Rattle.std.specs.Option.{option_map_or}
pub use Rattle.std.specs.Prelude.{Err, IfSome, IsErr, IsErrOf, IsOk, None, Ok, OnOk, Option, Result, Some, option_map, replicate}
