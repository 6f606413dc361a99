-- The names of other libraries and of this crate's specs that proofs here speak of.
pub use Rattle.dk_audit.specs.Booking.{Books, IsAfter, IsBookedIf, IsEventOpen, IsJudged, IsOpen, KeepsHold, Obeys, ready_past}
pub use Rattle.dk_audit.specs.Findings.{BreaksEvent, BreaksLabel, IfPassed, IsFinding, IsFoundOf, IsOwnHeading, Passes, found_at, past_of, whole_past}
pub use Rattle.dk_audit.specs.Lines.{FollowsSoFar, GoesFurther, IfPassedIn, IsFoundIn, IsFoundSoFar}
pub use Rattle.dk_audit.specs.declared.finding.Breach.{Breach}
pub use Rattle.dk_audit.specs.declared.finding.Finding.{Finding}
pub use Rattle.dk_audit.specs.declared.finding.Finding.TheVariants.{Header, Passed}
pub use Rattle.dk_bound.specs.ByWhen.{AllByWhen, ByWhen}
pub use Rattle.dk_bound.specs.Laws.{Always}
pub use Rattle.dk_bound.specs.Statements.{ChoosesKnown, IsKnown}
pub use Rattle.dk_certify.proofs.VerdictLemmas.{passes}
pub use Rattle.dk_certify.specs.Verdicts.{answer_of, rows_of, verdict_of}
pub use Rattle.dk_certify.specs.declared.certifying.Verdict.TheVariants.{Accepted, Fails}
pub use Rattle.dk_certify.specs.declared.table.TableRow.{TableRow}
pub use Rattle.dk_config.proofs.Counting.{first_of-none}
pub use Rattle.dk_config.specs.Certification.{fails_at, level_blocking, level_demand}
pub use Rattle.dk_config.specs.Checked.{IsAccepted}
pub use Rattle.dk_config.specs.Configuration.{Configuration}
pub use Rattle.dk_config.specs.Windows.{period}
pub use Rattle.dk_config.specs.declared.TheConstants.{MAX_TICKS}
pub use Rattle.dk_dispatch.proofs.Telling.{telling-ready}
pub use Rattle.dk_dispatch.specs.Calls.{IsCreated, IsDone, IsEnding, IsInCall, IsNotCreated, IsRefused}
pub use Rattle.dk_dispatch.specs.Standing.{Dispatched}
pub use Rattle.dk_isa.specs.declared.FaultKind.{FaultKind}
pub use Rattle.dk_ledger.proofs.EntryLists.{get_front, get_seam, length-entries}
pub use Rattle.dk_ledger.proofs.NextItem.{if_ok}
pub use Rattle.dk_ledger.proofs.Readings.{passed_on}
pub use Rattle.dk_ledger.specs.Cuts.{entries_of}
pub use Rattle.dk_ledger.specs.Heading.{Heading, line_of_row}
pub use Rattle.dk_ledger.specs.ReadSoFar.{ComesNext}
pub use Rattle.dk_ledger.specs.Readable.{IsReadable, Journal, text_of}
pub use Rattle.dk_ledger.specs.declared.ledger.LedgerFault.{LedgerFault}
pub use Rattle.dk_ledger.specs.declared.line.LedgerLine.{LedgerLine}
pub use Rattle.dk_mutex.specs.Recount.{last_locked}
pub use Rattle.dk_past.specs.Past.{Past, call_entry, call_label, charged, choice_at, closed, opened as opened_past, told, told_at, with_entry, with_event}
pub use Rattle.dk_recount.specs.Events.{IsUntold}
pub use Rattle.dk_recount.specs.Recount.{IsRuled}
pub use Rattle.dk_threads.specs.declared.row.ThreadRow.{ThreadRow}
pub use Rattle.dk_trace.proofs.Whose.{thread-of}
pub use Rattle.dk_trace.specs.Audit.{Audited, Follows, HasChosenLabel, HasNextSerial, MayHave, ThreadFollows, done_refusal, label_of, next_serial, row_of, without_event, work_of}
pub use Rattle.dk_trace.specs.Choices.{chosen}
pub use Rattle.dk_trace.specs.Entries.{has_event, is_end, is_of, quiet, thread_of}
pub use Rattle.dk_trace.specs.Guarantees.{Bounded, Granted, Received}
pub use Rattle.dk_trace.specs.Holds.{Hold, ends_hold, held_by, innermost_left}
pub use Rattle.dk_trace.specs.Threads.{Thread, after_entry, family}
pub use Rattle.dk_trace.specs.declared.Choice.{Choice}
pub use Rattle.dk_trace.specs.declared.Entry.{Entry}
pub use Rattle.dk_trace.specs.declared.Event.{Event}
pub use Rattle.dk_trace.specs.declared.Label.{Label}
pub use Rattle.dk_trace.specs.declared.Phase.{Phase}
pub use Rattle.dk_trace.specs.declared.Refusal.{Refusal}
pub use Rattle.dk_trace.specs.declared.ThreadId.{ThreadId}
pub use Rattle.dk_trace.specs.declared.Work.{Work}
pub use Rattle.std.proofs.Common.{Bool, List, MatchOption, None, Option, Some, [], add-one, add-zero, ap, append_assoc, arith, false, get_or, inl, inr, length, length-append, map, not, refl, reverse, subst, suc, sym, take, true, zero, ℕ, ◌++◌, ◌+◌, ◌-◌, ◌<◌, ◌∙◌, ◌∷◌, ◌≡◌, ◌≤◌}
pub use Rattle.std.proofs.lemmas.Bool.{cases_lt}
pub use Rattle.std.proofs.lemmas.List.{get_or-map, length-map, length-replicate, length-reverse, length-take-le, replicate_more, reverse-append, take-append-le, take_all, take_more, take_more_same}
pub use Rattle.std.proofs.lemmas.Option.{get_or_from_slice_get, slice_get-get_or, slice_get_within}
pub use Rattle.std.proofs.lemmas.Result.{IfOk-weaker}
pub use Rattle.std.specs.Option.{option_map_or}
pub use Rattle.std.specs.Prelude.{Err, IsTrue, MatchResult, Ok, Result, if◌then◌else◌, is_ok, replicate, slice_get, ◌↔◌}
