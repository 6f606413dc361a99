use Rattle.dk_config.proofs.CheckedConfig.{when-none}
use Rattle.dk_config.proofs.checking.check.Goals as goal

pub returns-clause-checked : goal.returns-clause-checked
returns-clause-checked c = (when-none c.first_broken_rule.result c.args.config.now c.first_broken_rule.ensures).0

pub returns-clause-limits : goal.returns-clause-limits
returns-clause-limits c = (when-none c.first_broken_rule.result c.args.config.now c.first_broken_rule.ensures).1
