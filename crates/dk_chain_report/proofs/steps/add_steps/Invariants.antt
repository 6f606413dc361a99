use Rattle.std.specs.Prelude.{string_bytes}
use Rattle.dk_config_report.specs.Pages.{AddsLines}
use Rattle.dk_chain_report.specs.Steps.{IsStepLine}
use Rattle.dk_chain_report.proofs.steps.add_steps.Given as goal

-- the lines so far are added
abbrev pub invariant-loop-place : goal.invariant-loop-place
invariant-loop-place l = AddsLines (IsStepLine l.config l.first l.rest l.event) l.place (string_bytes l.initial.text) (string_bytes l.text)
