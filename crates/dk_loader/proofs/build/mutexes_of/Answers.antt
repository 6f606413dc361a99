use Rattle.dk_loader.proofs.Names.{mutex_in, table_of, nat_tests, arith}
use Rattle.dk_loader.proofs.PrintedLemmas.{read_more, rows_read}
use Rattle.dk_loader.proofs.build.mutexes_of.Goals as goal

pub loop-row-init : goal.loop-row-init
loop-row-init c = c.new-mutexes.ensures.items

pub loop-row-preserved : goal.loop-row-preserved
loop-row-preserved c = grind (arith, nat_tests, read_more)

pub returns : goal.returns
returns c = rows_read (λ d. mutex_in (table_of d)) c.args.rows.now c.loop-row.row-index c.loop-row.mutexes.items c.loop-row-test.false c.loop-row.invariant
