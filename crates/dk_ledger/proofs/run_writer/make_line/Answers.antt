use Rattle.dk_ledger.proofs.Names.{arith, decimal, length-decimal-le, nat_tests}
use Rattle.dk_ledger.proofs.NumberText.{front_within}
use Rattle.dk_ledger.proofs.run_writer.make_line.Goals as goal

pub truncate-requires : goal.truncate-requires
truncate-requires c = front_within c.args.text.now (decimal c.args.line.now.start) c.args.digits c.requires.start c.requires.all

pub push_rest-requires-clause-short : goal.push_rest-requires-clause-short
push_rest-requires-clause-short c = grind (arith, nat_tests, length-decimal-le)
