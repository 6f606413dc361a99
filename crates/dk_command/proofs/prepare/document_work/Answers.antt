use Rattle.dk_command.proofs.Names.{ap, sym, subst, BreaksNoRule, migrated}
use Rattle.dk_command.proofs.Migrated.{still_unbroken}
use Rattle.dk_command.proofs.prepare.document_work.Goals as goal

pub write_config-requires-clause-checked : goal.write_config-requires-clause-checked
write_config-requires-clause-checked c = subst BreaksNoRule (ap migrated (sym c.config.view_is)) (still_unbroken c.args.config c.requires)
