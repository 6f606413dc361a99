use Rattle.dk_mutex.proofs.Names.{take, subst, sym, IsFirstHold}
use Rattle.dk_mutex.proofs.Least.{no_row}
use Rattle.dk_mutex.proofs.Firsts.{take-one}
use Rattle.dk_mutex.proofs.front.first_hold.Goals as goal

pub loop-row-preserved : goal.loop-row-preserved
loop-row-preserved c =
    subst (IsFirstHold c.join_hold.new.first) (sym (take-one c.args.rows.now c.loop-row.row-index no_row c.loop-row-test.true))
    (c.join_hold.ensures (take c.loop-row.row-index c.args.rows.now) c.loop-row.invariant)
