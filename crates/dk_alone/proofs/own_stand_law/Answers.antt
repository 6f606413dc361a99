use Rattle.dk_alone.proofs.Names.{◌+◌, ◌*◌, sym, subst, alone, KeepsToItself, ProcessStandsAlike, world}
use Rattle.dk_alone.proofs.Cycles.{as-alone, stands-always, begins-far}
use Rattle.dk_alone.proofs.own_stand_law.Goals as goal

pub returns : goal.returns
returns c config programs others p s k cycles n checked accepted keeps agree again begins =
    let far = begins-far config p s k cycles n again.begins again.begins_later begins in
    stands-always config programs p checked accepted c.audited_law.ensures c.cause_law.ensures c.spent_law.ensures c.begin_law.ensures keeps s k again cycles n (world config others (s + cycles * k + n))
    (subst (λ program. ProcessStandsAlike config p (world config others (s + cycles * k + n)) (alone config p program (s + cycles * k + n))) (sym agree)
    (as-alone config others p checked accepted c.audited_law.ensures c.cause_law.ensures c.spent_law.ensures c.begin_law.ensures (subst (KeepsToItself config p) agree keeps)
    (s + cycles * k + n) far))
    begins
