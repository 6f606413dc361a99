use Rattle.dk_cycle.proofs.FindingRun.{run-look-due, run-look-young, run-not-back}
use Rattle.dk_cycle.proofs.Stands.{run-with-cycle, run-with-saved}
use Rattle.dk_cycle.proofs.run.RunSearch.look.Goals as goal

pub returns-in-Some-clause-run : goal.returns-in-Some-clause-run
returns-in-Some-clause-run c = λ config programs is state begins.
    run-with-cycle config programs c.args.self.now c.args.now c.in-Some.cycle is state begins c.in-Some.ensures.found

pub returns-then-is_due-clause-run : goal.returns-then-is_due-clause-run
returns-then-is_due-clause-run c = λ config programs is state begins. run-with-saved config programs c.args.self.now c.args.now is state begins

pub returns-then-is_due-clause-looked : goal.returns-then-is_due-clause-looked
returns-then-is_due-clause-looked c =
    run-look-due c.forever_law.ensures c.stand_on_law.ensures c.args.self.now c.args.now
    (run-not-back c.ends.result c.args.self.now.saved c.args.self.now.kept c.args.now c.in_default.is c.ends.ensures.finds) (c.is_due.ensures.old c.if-is_due.true)

pub returns-else-is_due-clause-looked : goal.returns-else-is_due-clause-looked
returns-else-is_due-clause-looked c =
    run-look-young c.forever_law.ensures c.stand_on_law.ensures c.args.self.now c.args.now
    (run-not-back c.ends.result c.args.self.now.saved c.args.self.now.kept c.args.now c.in_default.is c.ends.ensures.finds) (c.is_due.ensures.young c.if-is_due.false)
