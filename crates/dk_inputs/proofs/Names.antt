-- The names of other libraries and of this crate's specs that proofs here speak of.
pub use Rattle.dk_asm.specs.declared.TheConstants.{MAX_SOURCE_BYTES}
pub use Rattle.dk_certify.specs.Laws.{migrated}
pub use Rattle.dk_config.specs.Checked.{IsAccepted, IsChecked, IsWithinLimits}
pub use Rattle.dk_config.specs.Configuration.{Configuration}
pub use Rattle.dk_config.specs.Windows.{process_name}
pub use Rattle.dk_config.specs.declared.TheConstants.{MAX_CONFIG_BYTES, MAX_LEDGER_BYTES, MAX_PROGRAM_BYTES}
pub use Rattle.dk_config.specs.declared.rows.ProcessRow.{ProcessRow}
pub use Rattle.dk_gen.specs.Generated.{generated}
pub use Rattle.dk_inputs.specs.Answer.{is_failed_read, is_silent}
pub use Rattle.dk_inputs.specs.Follows.{Finds, Gives, Goes, Refuses, Tells}
pub use Rattle.dk_inputs.specs.Inputs.{heading, job_of}
pub use Rattle.dk_inputs.specs.Jobs.{Job, audit_of, base, budget, certificate, certified, code, config_at, config_in, document, findings, found_process, ledger, some_job_for, job_for, job_for_words, process_in, run, run_of, some_found, source, state}
pub use Rattle.dk_inputs.specs.Reads.{Files, Reads, done, file_at, given_more, on_found, programs_at, read, test, ◌>>=◌}
pub use Rattle.dk_inputs.specs.declared.inputs.Inputs.{Inputs}
pub use Rattle.dk_inputs.specs.declared.refusal.Refusal.{Refusal}
pub use Rattle.dk_ledger.specs.Heading.{Heading, line_of_row, name_of}
pub use Rattle.dk_loader.specs.Programs.{before_others, bytes_before, bytes_read, loading, program_from, programs_from, with_config}
pub use Rattle.dk_loader.specs.Workload.{Workload}
pub use Rattle.dk_loader.specs.declared.fault.LoadFault.{LoadFault}
pub use Rattle.dk_loader.specs.declared.loaded.Loaded.{Loaded}
pub use Rattle.dk_outside.specs.Files.{CountsStray, IsReading}
pub use Rattle.dk_outside.specs.Views.{DepotView}
pub use Rattle.dk_request.specs.Meaning.{meaning}
pub use Rattle.dk_request.specs.declared.request.Request.{Request}
pub use Rattle.std.proofs.Common.{Global, List, Vec, [], add-zero, ap, arith, drop, false, inl, inr, length, map, min, refl, rules, string_bytes, subst, suc, sym, take, true, vec_len, zero, ℕ, ◌+◌, ◌<◌, ◌∙◌, ◌∷◌, ◌≡◌, ◌≤◌}
pub use Rattle.std.proofs.lemmas.Bool.{cases_Bool, false≢true}
pub use Rattle.std.proofs.lemmas.Bool.Decides.{nat_tests}
pub use Rattle.std.proofs.lemmas.List.{length-map, length-take, take_all}
pub use Rattle.std.specs.Option.{option_map_or}
pub use Rattle.std.specs.Prelude.{Err, IfSome, IsErrOf, None, Ok, Option, Result, Some, nat_lt, option_map, position, slice_get, ◌≢◌}
pub use Rattle.std.specs.Str.{bytes_eq}
