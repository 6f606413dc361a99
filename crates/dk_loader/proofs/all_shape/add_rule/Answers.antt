use Rattle.dk_loader.proofs.Names.{then_more, nat_tests, arith}
use Rattle.dk_config.specs.declared.fault.Section.TheVariants as section
use Rattle.dk_loader.specs.Keys.{rule_tests}
use Rattle.dk_loader.proofs.all_shape.add_rule.Goals as goal

pub returns : goal.returns
unfolding rule_tests
returns c = grind (arith, nat_tests, then_more)
