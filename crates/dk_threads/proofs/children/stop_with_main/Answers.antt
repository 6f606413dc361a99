use Rattle.dk_threads.proofs.Names.{◌<◌, ◌∙◌, length, sym, subst, arith, ThreadRow, stopped_with_main}
use Rattle.dk_threads.proofs.Turns.{turned-step, turned-row}
use Rattle.dk_threads.proofs.children.stop_with_main.Goals as goal

pub stopped_with_main-requires : goal.stopped_with_main-requires
stopped_with_main-requires c =
    let f = stopped_with_main c.args.windows.now in
    let within : c.loop-turn.turn < length c.args.rows.now = omega arith in
    let is = turned-row f c.loop-turn.turn c.args.rows.now c.take_first-row.result c.take_first-row.new.self within (sym c.loop-turn.invariant ∙ c.take_first-row.ensures.rows) in
    subst (λ (row : ThreadRow). row.level < length c.args.windows.now.periods) (sym is) (c.requires c.loop-turn.turn c.take_first-row.result within)

pub loop-turn-preserved : goal.loop-turn-preserved
loop-turn-preserved c =
    turned-step (stopped_with_main c.args.windows.now) c.loop-turn.turn c.args.rows.now c.loop-turn.rows c.take_first-row.new.self c.put_back.new.self c.take_first-row.result c.stopped_with_main.result
    (omega arith) c.loop-turn.invariant c.take_first-row.ensures.rows c.stopped_with_main.ensures c.put_back.ensures
