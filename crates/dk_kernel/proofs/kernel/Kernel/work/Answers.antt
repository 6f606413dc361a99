-- The ticks of a thread go from the world of the ticks so far to that of so many more.
use Rattle.dk_kernel.proofs.Names.{arith, refl, Phase, Choice}
use Rattle.dk_kernel.proofs.Fields.{has-room, seen-newest, seen-next}
use Rattle.dk_kernel.proofs.Working.{worked-later}
use Rattle.dk_kernel.proofs.kernel.Kernel.work.Goals as goal

pub run_ahead-requires-clause-ready : goal.run_ahead-requires-clause-ready
run_ahead-requires-clause-ready g c = c.self.invariant.running.ready

pub run_ahead-requires-clause-room : goal.run_ahead-requires-clause-room
run_ahead-requires-clause-room g c = has-room _ _ _ _ c.self.invariant _ c.self.view_is c.args.most c.args.most c.requires (omega arith)

pub run-requires-clause-ready : goal.run-requires-clause-ready
run-requires-clause-ready g c = c.self.invariant.running.ready

pub run-requires-clause-room : goal.run-requires-clause-room
run-requires-clause-room g c =
    has-room _ _ _ _ c.self.invariant _ c.self.view_is c.run-count.result c.args.most c.requires (omega (arith, c.in_ok-runner.ensures.few, c.run-count.ensures.few))

pub invariant_of-self-2 : goal.invariant_of-self-2
invariant_of-self-2 g c =
    let r = c.in_ok-runner.runner in
    let own = c.in_ok-runner.ensures.runs in
    (worked-later (Choice.Budget r.thread Phase.Body) r.thread refl refl c.self.invariant c.self.view_is c.cost-cost.ensures.cost own.seat
    c.run-count.result c.index_mut.result.now c.run-count.new.self c.index_mut.ensures.value c.run-count.ensures.works c.run.new.self c.run.ensures.goes c.run.ensures.past c.run.ensures.rows).is

pub returns-clause-next : goal.returns-clause-next
returns-clause-next g c =
    let r = c.in_ok-runner.runner in
    let own = c.in_ok-runner.ensures.runs in
    seen-next
    (worked-later (Choice.Budget r.thread Phase.Body) r.thread refl refl c.self.invariant c.self.view_is c.cost-cost.ensures.cost own.seat
    c.run-count.result c.index_mut.result.now c.run-count.new.self c.index_mut.ensures.value c.run-count.ensures.works c.run.new.self c.run.ensures.goes c.run.ensures.past c.run.ensures.rows)
    c.self.view_is

pub returns-clause-entries : goal.returns-clause-entries
returns-clause-entries g c =
    let r = c.in_ok-runner.runner in
    let own = c.in_ok-runner.ensures.runs in
    seen-newest
    (worked-later (Choice.Budget r.thread Phase.Body) r.thread refl refl c.self.invariant c.self.view_is c.cost-cost.ensures.cost own.seat
    c.run-count.result c.index_mut.result.now c.run-count.new.self c.index_mut.ensures.value c.run-count.ensures.works c.run.new.self c.run.ensures.goes c.run.ensures.past c.run.ensures.rows)
    c.self.view_is c.if-count-eq0.false
