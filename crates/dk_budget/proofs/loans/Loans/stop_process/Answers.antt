use Rattle.dk_budget.proofs.Names.{get_or, Book, stopped_process}
use Rattle.dk_budget.proofs.Keeping.{row-written, sound-stopped_process}
use Rattle.dk_budget.proofs.loans.Loans.stop_process.Goals as goal

pub invariant_of-self : goal.invariant_of-self
invariant_of-self c =
    let b : Book = record { switch = c.self.inside.switch; periods = c.self.inside.periods.items; lenders = c.self.inside.lenders.items } in
    (row-written b c.args.self.now c.args.process (stopped_process c.args.windows.now) c.deref_mut.result.now c.index-deref_mut-process.result
    c.stop_all.new.self c.self.view_is c.deref_mut.ensures.value c.requires.known c.stop_all.ensures c.self.invariant
    (sound-stopped_process b.periods c.args.windows.now (get_or b.lenders c.args.process c.index-deref_mut-process.result))).sound

pub returns : goal.returns
returns c =
    let b : Book = record { switch = c.self.inside.switch; periods = c.self.inside.periods.items; lenders = c.self.inside.lenders.items } in
    (row-written b c.args.self.now c.args.process (stopped_process c.args.windows.now) c.deref_mut.result.now c.index-deref_mut-process.result
    c.stop_all.new.self c.self.view_is c.deref_mut.ensures.value c.requires.known c.stop_all.ensures c.self.invariant
    (sound-stopped_process b.periods c.args.windows.now (get_or b.lenders c.args.process c.index-deref_mut-process.result))).view
