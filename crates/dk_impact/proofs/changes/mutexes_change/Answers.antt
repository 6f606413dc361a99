use Rattle.dk_impact.proofs.Names.{sym, ◌∙◌, rules, MAX_MUTEXES, first-at, mutex_change}
use Rattle.dk_impact.proofs.changes.mutexes_change.Goals as goal

pub returns-in-Some : goal.returns-in-Some
returns-in-Some c =
    sym (first-at (mutex_change c.args.old.now c.args.process c.args.new.now c.args.same) c.loop-mutex.mutex MAX_MUTEXES c.in-Some.change (search rules) c.loop-mutex.invariant
    (sym c.mutex_change.ensures ∙ c.in-Some.is))
