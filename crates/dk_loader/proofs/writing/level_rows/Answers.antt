use Rattle.dk_loader.proofs.Names.{◌∙◌, ap, refl, table, Table, view-Table, level_members, is_small_level}
use Rattle.dk_loader.proofs.PrintedLemmas.{written_more, small_more, rows_written, rows_small}
use Rattle.dk_loader.proofs.writing.level_rows.Goals as goal

pub loop-level-preserved : goal.loop-level-preserved
loop-level-preserved c =
    let made = c.in_ok-level_table.ensures in
    record {
      rows = written_more (λ row. table (level_members row)) c.args.levels.now c.loop-level.level-index _ _ c.loop-level.rows.items _ (Table c.in_ok-level_table.field-0) c.loop-level-test.true refl c.loop-level.invariant.rows (view-Table c.in_ok-level_table.field-0 ∙ ap table made.members) c.in_ok-push.ensures.items;
      small = small_more is_small_level c.args.levels.now c.loop-level.level-index _ _ c.loop-level-test.true refl c.loop-level.invariant.small made.small;
    }

pub returns-clause-rows : goal.returns-clause-rows
returns-clause-rows c = rows_written (λ row. table (level_members row)) c.args.levels.now c.loop-level.level-index c.loop-level.rows c.loop-level-test.false c.loop-level.invariant.rows

pub returns-clause-small : goal.returns-clause-small
returns-clause-small c = rows_small is_small_level c.args.levels.now c.loop-level.level-index c.loop-level-test.false c.loop-level.invariant.small
