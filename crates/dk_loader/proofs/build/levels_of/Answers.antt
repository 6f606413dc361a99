use Rattle.dk_loader.proofs.Names.{level_in, table_of}
use Rattle.dk_loader.proofs.PrintedLemmas.{read_more, rows_read}
use Rattle.dk_loader.proofs.build.levels_of.Goals as goal

pub loop-row-init : goal.loop-row-init
loop-row-init c = c.new-levels.ensures.items

pub loop-row-preserved : goal.loop-row-preserved
loop-row-preserved c =
    read_more (λ d. level_in (table_of d)) c.args.rows.now c.loop-row.row-index _ c.row-item.result c.loop-row.levels.items _ c.level_of.result c.loop-row-test.true c.row-item.is c.loop-row.invariant c.level_of.ensures c.in_ok-push.ensures.items

pub returns : goal.returns
returns c = rows_read (λ d. level_in (table_of d)) c.args.rows.now c.loop-row.row-index c.loop-row.levels.items c.loop-row-test.false c.loop-row.invariant
