use Rattle.dk_threads.proofs.Names.{arith, kept}
use Rattle.dk_threads.proofs.Turns.{turned-step}
use Rattle.dk_threads.proofs.children.end_due.Goals as goal

pub loop-turn-preserved : goal.loop-turn-preserved
loop-turn-preserved c =
    turned-step (kept c.args.now) c.loop-turn.turn c.args.rows.now c.loop-turn.rows c.take_first-row.new.self c.put_back.new.self c.take_first-row.result c.kept.result
    (omega arith) c.loop-turn.invariant c.take_first-row.ensures.rows c.kept.ensures c.put_back.ensures
