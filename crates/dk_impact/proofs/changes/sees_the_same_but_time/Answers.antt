use Rattle.dk_impact.proofs.Names.{Some, None, sym, ◌∙◌, subst, SeesTheSameButTime, TellsOf}
use Rattle.dk_impact.proofs.Told.{told-but-time, none-tells}
use Rattle.dk_impact.proofs.changes.sees_the_same_but_time.Goals as goal

pub returns-in-Some : goal.returns-in-Some
returns-in-Some c =
    let Same = SeesTheSameButTime c.args.old.now c.args.process c.args.new.now c.args.same c.args.program.now in
    let told = told-but-time c.args.old.now c.args.process c.args.new.now c.args.same c.args.program.now c.requires.old_limits c.requires.new_limits c.sight_of-sight.result c.sight_of-sight.ensures in
    none-tells Same (Some c.in-Some.field-0) (subst (TellsOf Same) (sym c.but_time_change.ensures ∙ c.in-Some.is) told)

pub returns-in-None : goal.returns-in-None
returns-in-None c =
    let Same = SeesTheSameButTime c.args.old.now c.args.process c.args.new.now c.args.same c.args.program.now in
    let told = told-but-time c.args.old.now c.args.process c.args.new.now c.args.same c.args.program.now c.requires.old_limits c.requires.new_limits c.sight_of-sight.result c.sight_of-sight.ensures in
    none-tells Same None (subst (TellsOf Same) (sym c.but_time_change.ensures ∙ c.in-None.is) told)
