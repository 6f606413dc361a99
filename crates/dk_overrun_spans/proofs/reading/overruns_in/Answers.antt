use Rattle.std.proofs.Common.{List, ◌≡◌, ◌∙◌, ◌++◌, ap, sym, arith, flat_map}
use Rattle.std.specs.Prelude.{sum_by}
use Rattle.dk_trace.specs.declared.Entry.{Entry}
use Rattle.dk_ledger.specs.Readable.{Journal}
use Rattle.dk_window_report.specs.declared.row.Row.{Row}
use Rattle.dk_overrun_spans.specs.declared.overrun.Overrun.{Overrun}
use Rattle.dk_overrun_spans.specs.Overruns.{row_overruns}
use Rattle.dk_overrun_spans.proofs.Rows.{none-overran, rows-are, spans-are}
use Rattle.dk_overrun_spans.proofs.reading.overruns_in.Goals as goal

pub returns-then-overruns-eq0 : goal.returns-then-overruns-eq0
returns-then-overruns-eq0 c = λ j readable text.
    let report = c.args.report.now in
    let all = c.overruns.ensures in
    let is = c.if-overruns-eq0.true in
    let none : sum_by (λ (r : Row). r.counts.overran) report.kept.rows ≡ 0 = omega (arith, all, is) in
    c.new-found.ensures.items ∙ sym (none-overran j.entries report.kept.rows none)
    ∙ rows-are c.all_told_law.ensures c.one_to_one.ensures c.args.bytes.now j readable text report.heading report.kept c.requires

pub returns : goal.returns
returns c = λ j readable text.
    let report = c.args.report.now in
    let ledger = c.in_ok-ledger.ledger in
    let entries = c.as_slice.result.now in
    let rows = c.as_slice-2.result.now in
    c.in_ok-add_threads.ensures
    ∙ ap (λ (os : List Overrun). os ++ flat_map (row_overruns entries) rows) c.new-found.ensures.items
    ∙ ap (λ (xs : List Entry). flat_map (row_overruns xs) rows) (c.as_slice.ensures.value ∙ ap (λ (l : Journal). l.entries) c.ledger.view_is)
    ∙ ap (flat_map (row_overruns ledger.entries)) (c.as_slice-2.ensures.value ∙ c.in_ok-rows.ensures)
    ∙ spans-are c.all_told_law.ensures c.one_to_one.ensures c.args.bytes.now j readable text report.heading report.kept c.requires ledger
    c.in_ok-ledger.ensures.0 c.in_ok-ledger.ensures.1
