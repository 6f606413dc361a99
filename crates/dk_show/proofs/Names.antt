-- The names of other libraries and of this crate's specs that proofs here speak of.
pub use Rattle.dk_asm.specs.declared.TheConstants.{MAX_SOURCE_BYTES}
pub use Rattle.dk_audit.specs.Findings.{IsOwnHeading}
pub use Rattle.dk_certify.specs.Verdicts.{verdict_of}
pub use Rattle.dk_certify.specs.declared.certifying.Verdict.{Verdict}
pub use Rattle.dk_chain.specs.Chain.{AreThere}
pub use Rattle.dk_chain_ledger.specs.Reactions.{TellsReactions, reaction_in}
pub use Rattle.dk_chain_ledger.specs.Text.{reactions_line}
pub use Rattle.dk_chain_ledger.specs.declared.reactions.Reactions.{Reactions}
pub use Rattle.dk_chain_report.specs.Finding.{processes_named}
pub use Rattle.dk_chain_report.specs.Report.{IsChainText}
pub use Rattle.dk_config.specs.Configuration.{Configuration}
pub use Rattle.dk_config.specs.Mutex.{Mutex}
pub use Rattle.dk_config.specs.declared.TheConstants.{MAX_CONFIG_BYTES, MAX_LEDGER_BYTES, MAX_PROCESSES, MAX_PROGRAM_BYTES}
pub use Rattle.dk_groups.specs.Groups.{groups}
pub use Rattle.dk_groups.specs.Writing.{Puts}
pub use Rattle.dk_ledger.proofs.Readings.{one_text}
pub use Rattle.dk_ledger.specs.Heading.{Heading}
pub use Rattle.dk_ledger.specs.Readable.{IsNoText, IsReadable, IsWrongLine, Journal, text_of}
pub use Rattle.dk_ledger.specs.declared.line.LedgerLine.{LedgerLine}
pub use Rattle.dk_loader.specs.Programs.{CountsReads, TakesAll, Took, bytes_read, loading}
pub use Rattle.dk_loader.specs.Reading.{reading}
pub use Rattle.dk_loader.specs.Workload.{Workload}
pub use Rattle.dk_loader.specs.declared.fault.LoadFault.{LoadFault}
pub use Rattle.dk_loader.specs.declared.loaded.Loaded.{Loaded}
pub use Rattle.dk_needs_check.specs.declared.unknown.Checking.{Checking}
pub use Rattle.dk_outside.specs.Files.{CountsStray, IsReading}
pub use Rattle.dk_outside.specs.Views.{DepotView, SinkView}
pub use Rattle.dk_picture.specs.Pictures.{IsTooMany, promised_svg}
pub use Rattle.dk_picture.specs.Promises.{IsPromised, Promised, nothing_promised}
pub use Rattle.dk_picture.specs.declared.reading.TheConstants.{MAX_GROUPS}
pub use Rattle.dk_profile.specs.declared.TheConstants.{MAX_PROFILE_BYTES}
pub use Rattle.dk_show.specs.Answers.{Files, IsAnswer, IsFaulty, IsOfNamed, is_silent, refusal_status, refusal_text}
pub use Rattle.dk_show.specs.Asking.{Asks, IsLoud, MissesAfter, MissesHeld, MissesLedger, MissesReady, WordsMiss, handed_after, handed_for_words, handed_held, handed_ledger, handed_load, handed_out, handed_programs, handed_ready}
pub use Rattle.dk_show.specs.Chains.{AreReactionsTold, ChainIn, IsChainTold, IsOfOther, IsOfReactions, chain_at, chain_named, chain_of}
pub use Rattle.dk_show.specs.Held.{AreHoldsTold, IsHeldUnder, IsOfHeld, IsOfHolds, IsOfOwnHolds}
pub use Rattle.dk_show.specs.Impacts.{EndsBy, IsOfChange, IsOfImpact, impact_end}
pub use Rattle.dk_show.specs.Leaves.{Leaves}
pub use Rattle.dk_show.specs.Loading.{IsOf, IsOfLoaded, Loads, certified_at, loaded, programs_of}
pub use Rattle.dk_show.specs.Needed.{AreRowsTold, AreUnknownTold, AskedIn, IsFound, IsOfAll, IsOfCheck, IsOfNeeds, IsTold, ReadyIn, asked_at, asked_by, asked_of, asks_programs, ready_at, ready_by, ready_of, running}
pub use Rattle.dk_show.specs.Output.{IsAllWrong, IsBehind, IsDrawn, IsOfBytes, IsOfDocument, IsOfFaults, IsOfMeaning, IsOfReading, IsOfRequest, IsToldOf, Says, drawn_text}
pub use Rattle.dk_show.specs.Pictured.{IsCrowded, IsOfOwnPicture, IsOfPicture, IsOfShown, IsOwnPicture, IsPastEnd, IsPicture, IsPictureUnder, IsPictured, from_of, groups_asked, to_of}
pub use Rattle.dk_show.specs.Repeats.{IsOfRepeats}
pub use Rattle.dk_show.specs.Replays.{IsOfProfile}
pub use Rattle.dk_show.specs.Sources.{IsOfSource, is_source_name}
pub use Rattle.dk_show.specs.Windowed.{AreTold, IsOfPage, IsOfWindows, done_end, lines_end, sound_end, windows_end}
pub use Rattle.dk_show.specs.Works.{ComesTo, HasText, IsReady, IsWhole, ended_of}
pub use Rattle.dk_show.specs.declared.refusal.Refusal.{Refusal}
pub use Rattle.dk_show.specs.declared.status.Status.{Status}
pub use Rattle.dk_show.specs.declared.work.Work.{Work}
pub use Rattle.dk_show_request.specs.Change.{ChangeAsk}
pub use Rattle.dk_show_request.specs.Meaning.{IsSought}
pub use Rattle.dk_show_request.specs.declared.commands.Drawing.{Drawing}
pub use Rattle.dk_show_request.specs.declared.commands.Telling.{Telling}
pub use Rattle.dk_show_request.specs.declared.request.Range.{Range}
pub use Rattle.dk_show_request.specs.declared.request.RangeRequest.{RangeRequest}
pub use Rattle.dk_show_request.specs.declared.request.Request.{Request}
pub use Rattle.dk_show_request.specs.declared.request.WindowsForm.{WindowsForm}
pub use Rattle.dk_trace.specs.declared.Entry.{Entry}
pub use Rattle.show_ledger.specs.Lines.{windows_lines}
pub use Rattle.show_ledger.specs.Threads.{windows_csv}
pub use Rattle.std.proofs.Common.{List, [], ap, arith, inl, inr, length, map, refl, reverse, rules, string_bytes, subst, sym, ℕ, ◌*◌, ◌+◌, ◌<◌, ◌^◌, ◌∙◌, ◌∷◌, ◌≡◌, ◌≢◌, ◌≤◌, ◌⊎◌}
pub use Rattle.std.proofs.lemmas.List.{length-take}
pub use Rattle.std.proofs.lemmas.List.Sums.{sum_by-le}
pub use Rattle.std.specs.Prelude.{Bool, Err, IfOk, IfSome, IsErrAnd, MatchBool, None, Ok, Option, Result, Some, false, option_map, sum_by, true}
