use Rattle.dk_loader.proofs.Names.{◌∙◌, ap, table, Table, view-Table, process_members, is_small_process}
use Rattle.dk_loader.proofs.PrintedLemmas.{written_more, small_more, rows_written, rows_small}
use Rattle.dk_loader.proofs.writing.process_rows.Goals as goal

pub loop-process-preserved : goal.loop-process-preserved
loop-process-preserved c =
    let made = c.in_ok-process_table.ensures in
    record {
      rows = written_more (λ row. table (process_members row)) c.args.processes.now c.loop-process.process-index _ c.process-item.result c.loop-process.rows.items _ (Table c.in_ok-process_table.field-0) c.loop-process-test.true c.process-item.is c.loop-process.invariant.rows (view-Table c.in_ok-process_table.field-0 ∙ ap table made.members) c.in_ok-push.ensures.items;
      small = small_more is_small_process c.args.processes.now c.loop-process.process-index _ c.process-item.result c.loop-process-test.true c.process-item.is c.loop-process.invariant.small made.small;
    }

pub returns-clause-rows : goal.returns-clause-rows
returns-clause-rows c = rows_written (λ row. table (process_members row)) c.args.processes.now c.loop-process.process-index c.loop-process.rows c.loop-process-test.false c.loop-process.invariant.rows

pub returns-clause-small : goal.returns-clause-small
returns-clause-small c = rows_small is_small_process c.args.processes.now c.loop-process.process-index c.loop-process-test.false c.loop-process.invariant.small
