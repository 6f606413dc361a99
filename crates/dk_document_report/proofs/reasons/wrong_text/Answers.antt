use Rattle.toml.specs.View.{table_view}
use Rattle.dk_document_report.proofs.Wrong.{wrong_parts}
use Rattle.dk_document_report.proofs.reasons.wrong_text.Goals as goal

pub returns : goal.returns
returns c =
    wrong_parts (table_view c.args.table.now) c.args.fault _ _ _ _ _ c.in_ok-text.ensures c.wanted_at-wanted.ensures c.as_str.ensures.value c.in_ok-found.ensures c.value_at-value.ensures
