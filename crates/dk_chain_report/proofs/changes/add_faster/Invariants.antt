use Rattle.std.specs.Prelude.{◌≡◌, string_bytes}
use Rattle.dk_config_report.specs.Pages.{AddsLines}
use Rattle.dk_chain_report.specs.Changes.{IsFasterLine}
use Rattle.dk_chain_report.proofs.changes.add_faster.Given as goal

-- the lines so far are added, and the configuration is as it was
abbrev pub invariant-loop-process : goal.invariant-loop-process
invariant-loop-process l =
    AddsLines (IsFasterLine l.initial.config l.first l.rest l.reaction) l.process (string_bytes l.initial.text) (string_bytes l.text) × (l.config ≡ l.initial.config)
