use Rattle.dk_loader.proofs.Names.{text_of, nat_tests, arith}
use Rattle.dk_loader.proofs.PrintedLemmas.{read_more, rows_read}
use Rattle.dk_loader.proofs.build.users_of.Goals as goal

pub loop-value-init : goal.loop-value-init
loop-value-init c = c.new-users.ensures.items

pub loop-value-preserved : goal.loop-value-preserved
loop-value-preserved c = grind (arith, nat_tests, read_more)

pub returns : goal.returns
returns c = rows_read text_of c.args.values.now c.loop-value.value-index c.loop-value.users.items c.loop-value-test.false c.loop-value.invariant
