use Rattle.std.proofs.Common.{◌≡◌, ◌∙◌, ap}
use Rattle.std.specs.List.{list_all}
use Rattle.std.proofs.lemmas.List.Folds.{list_all-map}
use Rattle.std.proofs.lemmas.Result.{IfOk-weaker}
use Rattle.dk_config.specs.declared.rows.ProcessRow.{ProcessRow as Process}
use Rattle.dk_config.specs.Rules.{is_name}
use Rattle.dk_needs_text.specs.Names.{AreNamed, process_names}
use Rattle.dk_needs_text.proofs.names.process_names.Goals as goal

pub returns-clause-named : goal.returns-clause-named
returns-clause-named c =
    let config = c.args.config.now in
    IfOk-weaker c.copies_of.result (λ names. names.items ≡ process_names config) (λ names. AreNamed names.items)
    (λ names is. ap (list_all is_name) is ∙ list_all-map is_name (λ (row : Process). row.name) config.processes ∙ c.requires.limits.names)
    c.copies_of.ensures
