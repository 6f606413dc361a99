use Rattle.dk_loader.proofs.Names.{◌∙◌, ap, table, Table, view-Table, mutex_members, is_small_mutex}
use Rattle.dk_loader.proofs.PrintedLemmas.{written_more, small_more, rows_written, rows_small}
use Rattle.dk_loader.proofs.writing.mutex_rows.Goals as goal

pub loop-mutex-preserved : goal.loop-mutex-preserved
loop-mutex-preserved c =
    let made = c.in_ok-mutex_table.ensures in
    record {
      rows = written_more (λ row. table (mutex_members row)) c.args.mutexes.now c.loop-mutex.mutex-index _ c.mutex-item.result c.loop-mutex.rows.items _ (Table c.in_ok-mutex_table.field-0) c.loop-mutex-test.true c.mutex-item.is c.loop-mutex.invariant.rows (view-Table c.in_ok-mutex_table.field-0 ∙ ap table made.members) c.in_ok-push.ensures.items;
      small = small_more is_small_mutex c.args.mutexes.now c.loop-mutex.mutex-index _ c.mutex-item.result c.loop-mutex-test.true c.mutex-item.is c.loop-mutex.invariant.small made.small;
    }

pub returns-clause-rows : goal.returns-clause-rows
returns-clause-rows c = rows_written (λ row. table (mutex_members row)) c.args.mutexes.now c.loop-mutex.mutex-index c.loop-mutex.rows c.loop-mutex-test.false c.loop-mutex.invariant.rows

pub returns-clause-small : goal.returns-clause-small
returns-clause-small c = rows_small is_small_mutex c.args.mutexes.now c.loop-mutex.mutex-index c.loop-mutex-test.false c.loop-mutex.invariant.small
