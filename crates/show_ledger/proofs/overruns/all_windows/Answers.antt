use Rattle.std.proofs.Common.{ℕ, ◌∙◌, ◌++◌, List, ap, flat_map, reverse, sym}
use Rattle.std.proofs.lemmas.List.{reverse-reverse}
use Rattle.dk_ledger.specs.Heading.{Heading}
use Rattle.dk_ledger.specs.Readable.{Journal}
use Rattle.dk_ledger.specs.declared.ledger.LedgerFault.{LedgerFault}
use Rattle.dk_ledger.proofs.Readings.{passed_on}
use Rattle.dk_overrun_spans.specs.declared.overrun.Overrun.{Overrun}
use Rattle.dk_overrun_spans.specs.Overruns.{overruns}
use Rattle.show_ledger.specs.declared.lines.Strictness.TheVariants as strictness
use Rattle.show_ledger.specs.Lines.{windows_lines}
use Rattle.show_ledger.specs.Overruns.{overrun_told}
use Rattle.show_ledger.proofs.overruns.all_windows.Goals as goal

pub returns-in_err-report-clause-line : goal.returns-in_err-report-clause-line
returns-in_err-report-clause-line c = λ n e.
    c.of.ensures.line n (c.in_err-report.was ∙ passed_on c.from_residual.result c.in_err-report.field-0.0 (LedgerFault.Line n) c.from_residual.ensures.1 e)

pub returns-clause-text : goal.returns-clause-text
returns-clause-text c =
    let report = c.in_ok-report.report in
    let all = c.in_ok-report.ensures.kept in
    let es = all.0 in
    let read = all.1 in
    let h = report.heading in
    let j : Journal = record { heading = h; entries = es } in
    let lines = windows_lines strictness.Free h (reverse es) in
    let found = c.in_ok-found.ensures j read.readable read.text in (
      j,
      read.readable,
      read.text,
      c.in_ok-add_overruns.ensures
          ∙ ap (λ (t : List ℕ). t ++ flat_map (overrun_told c.header.result.now) c.as_slice.result.now) (c.in_ok-out.ensures (reverse es) all.2)
          ∙ ap (λ (g : Heading). lines ++ flat_map (overrun_told g) c.as_slice.result.now) c.header.ensures
          ∙ ap (λ (os : List Overrun). lines ++ flat_map (overrun_told h) os) (c.as_slice.ensures.value ∙ found ∙ ap (overruns h) (sym (reverse-reverse es))),
    )
