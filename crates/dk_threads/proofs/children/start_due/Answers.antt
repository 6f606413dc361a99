use Rattle.dk_threads.proofs.Names.{ap, arith, Some, ThreadRow, started}
use Rattle.dk_threads.proofs.Turns.{turned-step}
use Rattle.dk_threads.proofs.children.start_due.Goals as goal

pub loop-turn-preserved : goal.loop-turn-preserved
loop-turn-preserved c =
    turned-step (λ (row : ThreadRow). Some (started c.args.now row)) c.loop-turn.turn c.args.rows.now c.loop-turn.rows c.take_first-row.new.self c.put_back.new.self c.take_first-row.result (Some c.started.result)
    (omega arith) c.loop-turn.invariant c.take_first-row.ensures.rows (ap (λ (row : ThreadRow). Some row) c.started.ensures) c.put_back.ensures
