-- The names of other libraries and of this crate's specs that proofs here speak of.
pub use Rattle.dk_asm.proofs.Outcomes.{one_outcome}
pub use Rattle.dk_asm.specs.Source.{Outcome}
pub use Rattle.dk_audit.proofs.One.{one}
pub use Rattle.dk_audit.specs.Findings.{IsFinding}
pub use Rattle.dk_audit.specs.declared.finding.Finding.{Finding}
pub use Rattle.dk_command.specs.Output.{Comes, Fails, IsAnswer, IsFoundIn, IsOutput, IsText, Says, SomeFails}
pub use Rattle.dk_command.specs.Promises.{Keeps}
pub use Rattle.dk_command.specs.Work.{HasText, SomeDoes}
pub use Rattle.dk_command.specs.declared.work.Work.{Work}
pub use Rattle.dk_config.specs.Configuration.{Configuration}
pub use Rattle.dk_inputs.proofs.FollowLemmas.{some_all, some_map}
pub use Rattle.dk_inputs.specs.Answer.{is_silent, refusal_status}
pub use Rattle.dk_inputs.specs.Follows.{Refuses, Tells}
pub use Rattle.dk_inputs.specs.Jobs.{Job, findings, ledger, job_for_words, source}
pub use Rattle.dk_inputs.specs.Reads.{Files}
pub use Rattle.dk_inputs.specs.declared.refusal.Refusal.{Refusal}
pub use Rattle.dk_inputs.specs.declared.status.Status.{Status}
pub use Rattle.dk_ledger.proofs.Readings.{one_text}
pub use Rattle.dk_ledger.specs.Readable.{Journal}
pub use Rattle.dk_outside.specs.Counts.{Rises}
pub use Rattle.dk_outside.specs.MemDepot.{mem_files}
pub use Rattle.dk_outside.specs.MemSink.{mem_bytes, mem_capacity, mem_sink_view, sink_faults}
pub use Rattle.dk_outside.specs.Views.{SinkView}
pub use Rattle.dk_outside.specs.Written.{Appends}
pub use Rattle.dk_outside.specs.declared.mem_sink.MemSink.{MemSink}
pub use Rattle.dk_request.specs.Commands.{usage_text}
pub use Rattle.dk_session.specs.Causes.{IsExactly, IsRefusedFor}
pub use Rattle.dk_session.specs.Complete.{HasDoneOutput, HasRoom, IsDoneOrNoMemory, Unfailing}
pub use Rattle.dk_session.specs.Headline.{GivesExactly, StandsInOutput, WasReceivedBoundedGranted}
pub use Rattle.dk_session.specs.Leaves.{IsSilent, Leaves}
pub use Rattle.std.proofs.Common.{List, ap, arith, false, inl, inr, length, map, refl, rules, string_bytes, subst, suc, sym, take, true, zero, ℕ, ◌++◌, ◌<◌, ◌∙◌, ◌≡◌, ◌≤◌}
pub use Rattle.std.proofs.lemmas.Bool.{cases_Bool}
pub use Rattle.std.proofs.lemmas.List.{length-take}
pub use Rattle.std.specs.Prelude.{Err, IfOk, IfSome, None, Ok, Option, Result, Some}
