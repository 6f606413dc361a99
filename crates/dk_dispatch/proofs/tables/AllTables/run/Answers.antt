use Rattle.dk_dispatch.proofs.Names.{sym, subst, Phase, Choice, HasFamilies, IsSound, Passes}
use Rattle.dk_dispatch.proofs.tables.AllTables.run.Goals as goal

pub compute-requires-clause-front : goal.compute-requires-clause-front
compute-requires-clause-front g c =
    let has = c.requires.may.room in
    c.workers_are_the_pasts.ensures.front has.config has.past c.args.self.now c.args.thread has.stands (subst HasFamilies c.self.view_is c.rows_are_in_order.ensures) (subst IsSound c.self.view_is c.self.invariant)

pub compute-requires-clause-may : goal.compute-requires-clause-may
compute-requires-clause-may g c =
    let may = c.requires.may in
    let has = may.room in
    c.computing_makes_the_recount.ensures.may c.args.ticks c.args.thread has.config has.past c.args.self.now has.stands (subst IsSound c.self.view_is c.self.invariant)
    (subst HasFamilies c.self.view_is c.rows_are_in_order.ensures) may.computes may.within has.room c.requires.some

pub returns-clause-passes : goal.returns-clause-passes
returns-clause-passes g c =
    let may = c.requires.may in
    let d = c.args.self.now in
    subst (Passes (Choice.Budget c.args.thread Phase.Body) c.args.ticks d) (sym c.compute.ensures.tables)
    (c.computing_makes_the_recount.ensures.passes c.args.ticks c.args.thread d (subst IsSound c.self.view_is c.self.invariant)
    (subst HasFamilies c.self.view_is c.rows_are_in_order.ensures) may.computes may.within)
