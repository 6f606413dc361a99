use Rattle.dk_show.proofs.Leaving.{leaves_said, leaves_wider, loud, refusal_stands, work_stands}
use Rattle.dk_show.proofs.Ends.{completes}
use Rattle.dk_show.proofs.Names.{IsOfRequest}
use Rattle.dk_show.proofs.show.perform.Goals as goal

pub returns-in-Ok-clause-output : goal.returns-in-Ok-clause-output
returns-in-Ok-clause-output g c =
    leaves_wider g.S.Sink.seen _ _ c.args.sink.now c.put.new.sink c.put.result
    (work_stands (IsOfRequest c.args.request.now) (g.D.Depot.seen c.args.depot.now).files c.in-Ok.work c.in-Ok.ensures.comes)
    c.put.ensures.left

pub returns-in-Err-clause-output : goal.returns-in-Err-clause-output
returns-in-Err-clause-output g c =
    leaves_said g.S.Sink.seen _ _ c.args.sink.now c.say.new.sink c.say.result
    (λ speaks. refusal_stands (IsOfRequest c.args.request.now) (g.D.Depot.seen c.args.depot.now).files c.in-Err.refusal c.in-Err.ensures.comes
    (loud c.in-Err.refusal c.say.result c.say.ensures.silent speaks))
    c.say.ensures.untouched c.say.ensures.left

pub returns-in-Ok-clause-complete : goal.returns-in-Ok-clause-complete
returns-in-Ok-clause-complete g c =
    completes (g.D.Depot.seen c.args.depot.now).files c.args.request.now c.put.result
    (λ answer. let w = (returns-in-Ok-clause-output g c).whole answer in (w.0, w.2))

pub returns-in-Err-clause-complete : goal.returns-in-Err-clause-complete
returns-in-Err-clause-complete g c =
    completes (g.D.Depot.seen c.args.depot.now).files c.args.request.now c.say.result
    (λ answer. let w = (returns-in-Err-clause-output g c).whole answer in (w.0, w.2))
