use Rattle.dk_budget.proofs.Names.{get_or, Book, stopped_child}
use Rattle.dk_budget.proofs.Keeping.{row-written, sound-stopped_child}
use Rattle.dk_budget.proofs.loans.Loans.stop.Goals as goal

pub invariant_of-self : goal.invariant_of-self
invariant_of-self c =
    let b : Book = record { switch = c.self.inside.switch; periods = c.self.inside.periods.items; lenders = c.self.inside.lenders.items } in
    (row-written b c.args.self.now c.args.process (stopped_child c.args.windows.now c.args.serial) c.deref_mut.result.now c.index-deref_mut-process.result
    c.stop_child.new.self c.self.view_is c.deref_mut.ensures.value c.requires.known c.stop_child.ensures c.self.invariant
    (sound-stopped_child b.periods c.args.windows.now c.args.serial (get_or b.lenders c.args.process c.index-deref_mut-process.result))).sound

pub returns : goal.returns
returns c =
    let b : Book = record { switch = c.self.inside.switch; periods = c.self.inside.periods.items; lenders = c.self.inside.lenders.items } in
    (row-written b c.args.self.now c.args.process (stopped_child c.args.windows.now c.args.serial) c.deref_mut.result.now c.index-deref_mut-process.result
    c.stop_child.new.self c.self.view_is c.deref_mut.ensures.value c.requires.known c.stop_child.ensures c.self.invariant
    (sound-stopped_child b.periods c.args.windows.now c.args.serial (get_or b.lenders c.args.process c.index-deref_mut-process.result))).view
