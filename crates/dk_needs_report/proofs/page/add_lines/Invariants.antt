use Rattle.std.specs.Prelude.{string_bytes}
use Rattle.toml.specs.View.{table_view}
use Rattle.dk_config_report.specs.Pages.{AddsLines}
use Rattle.dk_needs_report.specs.Telling.{IsLineAt}
use Rattle.dk_needs_report.proofs.page.add_lines.Given as goal

-- the lines so far are added
abbrev pub invariant-loop-i : goal.invariant-loop-i
invariant-loop-i l = AddsLines (IsLineAt l.bytes (table_view l.table) l.found) l.i (string_bytes l.initial.text) (string_bytes l.text)
