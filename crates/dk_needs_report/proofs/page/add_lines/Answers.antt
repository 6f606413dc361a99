use Rattle.std.proofs.Common.{◌∙◌, ap, sym}
use Rattle.std.specs.Prelude.{string_bytes, Some}
use Rattle.std.proofs.lemmas.Option.{slice_get-get_or}
use Rattle.toml.specs.View.{table_view}
use Rattle.dk_config_report.proofs.Adding.{one_added}
use Rattle.dk_needs_report.specs.Telling.{IsLineAt}
use Rattle.dk_needs_report.proofs.page.add_lines.Goals as goal

pub loop-i-preserved : goal.loop-i-preserved
loop-i-preserved c =
    let thing = c.index-found-i.result in
    one_added (IsLineAt c.args.bytes.now (table_view c.args.table.now) c.args.found.now) c.loop-i.i (string_bytes c.args.text.now) (string_bytes c.loop-i.text) (string_bytes c.push_line.new.text) (string_bytes c.in_ok-line.line)
    (record {
      thing = thing;
      is = slice_get-get_or c.args.found.now c.loop-i.i thing c.loop-i-test.true ∙ ap Some (sym c.index-found-i.is);
      told_so = c.in_ok-line.ensures;
    })
    c.in_ok-push_line.ensures c.loop-i.invariant
