use Rattle.std.proofs.Common.{◌∙◌, ◌++◌, ap, map}
use Rattle.toml.specs.View.{table_view}
use Rattle.dk_needs_report.specs.Found.{if_unknown}
use Rattle.dk_document_report.proofs.Keys.{each_key}
use Rattle.dk_needs_report.proofs.found.add_unknown.Goals as goal

pub returns : goal.returns
returns c =
    c.in_ok-add_unknown_keys.ensures
    ∙ ap (λ t. c.args.found.now.items ++ t)
    (each_key (if_unknown c.args.fault (table_view c.args.table.now)) c.args.table.now c.deref.result.now (ap (map (λ k. k.now)) c.deref.ensures.value ∙ c.in_ok-keys.ensures))
