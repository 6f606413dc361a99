-- The ticks of nobody go from the world of the ticks so far to that of so many more.
use Rattle.dk_kernel.proofs.Names.{arith, refl, Choice}
use Rattle.dk_kernel.proofs.Fields.{has-room, later-fields, seen-entries}
use Rattle.dk_kernel.proofs.Stretched.{rest-running}
use Rattle.dk_kernel.proofs.kernel.Kernel.rest.Goals as goal

pub rest-count-requires-clause-ready : goal.rest-count-requires-clause-ready
rest-count-requires-clause-ready c = c.self.invariant.running.ready

pub rest-count-requires-clause-room : goal.rest-count-requires-clause-room
rest-count-requires-clause-room c = has-room _ _ _ _ c.self.invariant _ c.self.view_is c.args.most c.args.most c.requires (omega arith)

pub invariant_of-self : goal.invariant_of-self
invariant_of-self c =
    let rest = c.rest-count in
    (later-fields c.self.inside.tables rest.new.self _ _ _ _ rest.result Choice.Idle c.self.invariant
    (rest-running c.self.inside.tables rest.new.self _ Choice.Idle rest.result c.self.invariant.running refl rest.ensures.goes rest.ensures.past rest.ensures.rows) refl rest.ensures.past).is

pub returns-clause-entries : goal.returns-clause-entries
returns-clause-entries c =
    let rest = c.rest-count in
    seen-entries
    (later-fields c.self.inside.tables rest.new.self _ _ _ _ rest.result Choice.Idle c.self.invariant
    (rest-running c.self.inside.tables rest.new.self _ Choice.Idle rest.result c.self.invariant.running refl rest.ensures.goes rest.ensures.past rest.ensures.rows) refl rest.ensures.past)
    c.self.view_is
