-- So do the ticks of slack of a thread.
use Rattle.dk_kernel.proofs.Names.{arith, refl, Phase, Choice}
use Rattle.dk_kernel.proofs.Fields.{has-room, seen-newest, seen-next}
use Rattle.dk_kernel.proofs.Working.{worked-later}
use Rattle.dk_kernel.proofs.kernel.Kernel.lend.Goals as goal

pub lend_ahead-requires-clause-ready : goal.lend_ahead-requires-clause-ready
lend_ahead-requires-clause-ready c = c.self.invariant.running.ready

pub lend_ahead-requires-clause-room : goal.lend_ahead-requires-clause-room
lend_ahead-requires-clause-room c = has-room _ _ _ _ c.self.invariant _ c.self.view_is c.args.most c.args.most c.requires (omega arith)

pub lend-requires-clause-ready : goal.lend-requires-clause-ready
lend-requires-clause-ready c = c.self.invariant.running.ready

pub lend-requires-clause-room : goal.lend-requires-clause-room
lend-requires-clause-room c =
    has-room _ _ _ _ c.self.invariant _ c.self.view_is c.run-count.result c.args.most c.requires (omega (arith, c.in_ok-borrower.ensures.few, c.run-count.ensures.few))

pub invariant_of-self-2 : goal.invariant_of-self-2
invariant_of-self-2 c =
    let r = c.in_ok-borrower.borrower in
    let own = c.in_ok-borrower.ensures.borrows in
    (worked-later (Choice.Slack r.thread r.source Phase.Body) r.thread refl refl c.self.invariant c.self.view_is c.cost-cost.ensures.cost own.seat
    c.run-count.result c.index_mut.result.now c.run-count.new.self c.index_mut.ensures.value c.run-count.ensures.works c.lend.new.self c.lend.ensures.goes c.lend.ensures.past c.lend.ensures.rows).is

pub returns-clause-next : goal.returns-clause-next
returns-clause-next c =
    let r = c.in_ok-borrower.borrower in
    let own = c.in_ok-borrower.ensures.borrows in
    seen-next
    (worked-later (Choice.Slack r.thread r.source Phase.Body) r.thread refl refl c.self.invariant c.self.view_is c.cost-cost.ensures.cost own.seat
    c.run-count.result c.index_mut.result.now c.run-count.new.self c.index_mut.ensures.value c.run-count.ensures.works c.lend.new.self c.lend.ensures.goes c.lend.ensures.past c.lend.ensures.rows)
    c.self.view_is

pub returns-clause-entries : goal.returns-clause-entries
returns-clause-entries c =
    let r = c.in_ok-borrower.borrower in
    let own = c.in_ok-borrower.ensures.borrows in
    seen-newest
    (worked-later (Choice.Slack r.thread r.source Phase.Body) r.thread refl refl c.self.invariant c.self.view_is c.cost-cost.ensures.cost own.seat
    c.run-count.result c.index_mut.result.now c.run-count.new.self c.index_mut.ensures.value c.run-count.ensures.works c.lend.new.self c.lend.ensures.goes c.lend.ensures.past c.lend.ensures.rows)
    c.self.view_is c.if-count-eq0.false
