-- The workload of every number can be run.
use Rattle.std.proofs.Common.{ℕ, ◌≤◌, ◌+◌, ◌∙◌, sym, length, refl, ap}
use Rattle.dk_config.specs.declared.TheConstants.{MAX_PROGRAM_BYTES}
use Rattle.dk_config.proofs.CheckedConfig.{checked, within_limits}
use Rattle.dk_certify.specs.Verdicts.{answer_of}
use Rattle.dk_certify.proofs.VerdictLemmas.{accepted}
use Rattle.dk_gen.specs.Generated.{generated, configuration_of, process_at, process_count, program_at, place_of}
use Rattle.dk_gen.specs.Runnable.{IsRunnable}
use Rattle.dk_gen.specs.Templates.{template_at}
use Rattle.dk_config.proofs.Counting.{length-map-numbers}
use Rattle.dk_gen.proofs.Checked.{unbroken}
use Rattle.dk_gen.proofs.Accepted.{fits}
use Rattle.dk_gen.proofs.Programs.{program_short, all_rows}

pub runnable : (number : ℕ) → IsRunnable (generated number)
unfolding generated
runnable number = record {
  unbroken = unbroken number;
  checked = checked (configuration_of number) (unbroken number);
  limits = within_limits (configuration_of number) (unbroken number);
  verdict = ap (answer_of (configuration_of number)) (accepted (configuration_of number) 3 (fits number) refl);
  accepted = fits number;
  programs = length-map-numbers (program_at number) 0 (process_count number) ∙ sym (length-map-numbers (process_at number) 0 (process_count number));
  sizes = all_rows (λ code. length code ≤ MAX_PROGRAM_BYTES) (program_at number) 0 (process_count number)
      (λ k. program_short (template_at number (place_of number k + 1)) number (place_of number k + 2));
}
