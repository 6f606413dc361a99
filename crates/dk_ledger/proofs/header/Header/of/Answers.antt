use Rattle.dk_ledger.proofs.Names.{nat_tests, arith}
use Rattle.dk_ledger.proofs.NameLemmas.{is_printable_as, levels_fit}
use Rattle.dk_ledger.proofs.header.Header.of.Goals as goal

pub returns-clause-heading : goal.returns-clause-heading
returns-clause-heading c = grind (arith, nat_tests)

pub returns-clause-printable : goal.returns-clause-printable
returns-clause-printable c = is_printable_as _ c.args.config.now c.args.table.now (returns-clause-heading c) c.requires.limits c.requires.one_each

pub process_lines-requires : goal.process_lines-requires
process_lines-requires c = grind (arith, nat_tests, levels_fit)
