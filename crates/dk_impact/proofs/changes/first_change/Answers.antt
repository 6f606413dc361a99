use Rattle.dk_impact.proofs.Names.{sym, subst, Tells}
use Rattle.dk_impact.proofs.Told.{told}
use Rattle.dk_impact.proofs.changes.first_change.Goals as goal

pub returns-clause-first : goal.returns-clause-first
returns-clause-first c = record { sight = c.sight_of-sight.result; is = c.sight_of-sight.ensures; first = c.any_change.ensures }

pub returns-clause-tells : goal.returns-clause-tells
returns-clause-tells c =
    subst (Tells c.args.old.now c.args.process c.args.new.now c.args.same c.args.program.now) (sym c.any_change.ensures)
    (told c.args.old.now c.args.process c.args.new.now c.args.same c.args.program.now c.requires.old_limits c.requires.new_limits c.sight_of-sight.result c.sight_of-sight.ensures)
