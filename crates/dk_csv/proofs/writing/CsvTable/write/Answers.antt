use Rattle.std.proofs.Common.{◌≡◌, ◌∙◌, ◌++◌, [], ◌∷◌, ap, sym, subst, refl}
use Rattle.dk_groups.specs.Groups.{groups}
use Rattle.dk_groups.specs.Cutting.{Cutting, ComesNext}
use Rattle.dk_groups.specs.Writing.{Puts}
use Rattle.dk_groups.proofs.Going.{cut_short, then_puts}
use Rattle.dk_groups.proofs.Texts.{nothing_put}
use Rattle.dk_overrun_spans.specs.Marks.{AreMarks}
use Rattle.dk_overrun_spans.specs.Overruns.{overruns}
use Rattle.dk_csv.specs.Rows.{csv_text, rows_text}
use Rattle.dk_csv.specs.Tables.{Table}
use Rattle.dk_csv.proofs.writing.CsvTable.write.Goals as goal

pub returns-in_err-write_to : goal.returns-in_err-write_to
returns-in_err-write_to g c = λ j from to readable table.
    let rows = rows_text j.heading (overruns j.heading j.entries) (groups from to j.entries) in
    cut_short (csv_text from to j.heading j.entries) []
    (g.S.Sink.seen c.args.sink.now) (g.S.Sink.seen c.args.sink.now) (g.S.Sink.seen c.write_to.new.sink) _ c.from_residual.result (c.column_names.result ++ 10 ∷ []) rows c.from_residual.ensures.1
    (ap (λ t. t ++ rows) (sym c.column_names.ensures.text)) (nothing_put (g.S.Sink.seen c.args.sink.now).written) refl refl c.in_err-write_to.ensures

pub returns : goal.returns
returns g c = λ j from to readable table.
    let rows = rows_text j.heading (overruns j.heading j.entries) (groups from to j.entries) in
    let inside : Cutting = c.self.inside.reader in
    let comes = subst (λ (t : Table). ComesNext j [] t.first t.cutting) (sym c.self.view_is) table.first in
    let are = subst (λ (t : Table). AreMarks (overruns j.heading j.entries) t.marks) (sym c.self.view_is) table.marks in
    let put = c.write_rows.ensures j readable comes are in
    let is_from = ap (λ (t : Table). t.cutting.from) c.self.view_is ∙ table.from in
    let is_to = ap (λ (t : Table). t.cutting.to) c.self.view_is ∙ table.to in
    let same : rows_text j.heading (overruns j.heading j.entries) (groups inside.from inside.to j.entries) ≡ rows =
    ap (λ n. rows_text j.heading (overruns j.heading j.entries) (groups n inside.to j.entries)) is_from ∙ ap (λ n. rows_text j.heading (overruns j.heading j.entries) (groups from n j.entries)) is_to in
    then_puts (csv_text from to j.heading j.entries) (c.column_names.result ++ 10 ∷ [])
    (g.S.Sink.seen c.args.sink.now) (g.S.Sink.seen c.write_to.new.sink) (g.S.Sink.seen c.write_rows.new.sink) _ c.write_rows.result rows (ap (λ t. t ++ rows) (sym c.column_names.ensures.text)) c.in_ok-write_to.ensures
    (subst (Puts (g.S.Sink.seen c.write_to.new.sink) (g.S.Sink.seen c.write_rows.new.sink) c.write_rows.result) same put)
