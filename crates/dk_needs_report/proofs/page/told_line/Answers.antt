use Rattle.std.proofs.Common.{◌∙◌, ap}
use Rattle.std.specs.Prelude.{string_bytes}
use Rattle.toml.specs.View.{table_view}
use Rattle.dk_needs_report.specs.Reasons.{told_text}
use Rattle.dk_needs_report.proofs.page.told_line.Goals as goal

pub returns : goal.returns
returns c =
    record {
      place = string_bytes c.in_ok-place.place;
      placed = c.in_ok-place.ensures;
      whole = c.in_ok-told_text.ensures ∙ ap (told_text (table_view c.args.table.now) c.args.told.now) c.as_str.ensures.value;
    }
