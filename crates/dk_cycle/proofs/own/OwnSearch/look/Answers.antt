use Rattle.dk_cycle.proofs.Finding.{look-old, look-young, not-back}
use Rattle.dk_cycle.proofs.own.OwnSearch.look.Goals as goal

pub returns-then-is_due-clause-looked : goal.returns-then-is_due-clause-looked
returns-then-is_due-clause-looked c =
    look-old c.again_law.ensures c.own_stand_law.ensures c.args.self.now c.args.now
    (not-back c.ends.result c.args.self.now.saved c.args.now c.in_default.is c.ends.ensures.finds) (c.is_due.ensures.old c.if-is_due.true)

pub returns-else-is_due-clause-looked : goal.returns-else-is_due-clause-looked
returns-else-is_due-clause-looked c =
    look-young c.again_law.ensures c.own_stand_law.ensures c.args.self.now c.args.now
    (not-back c.ends.result c.args.self.now.saved c.args.now c.in_default.is c.ends.ensures.finds) (c.is_due.ensures.young c.if-is_due.false)
