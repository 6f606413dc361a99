use Rattle.dk_alone.proofs.Names.{ℕ, suc, ◌+◌, ◌*◌, List, subst, replicate, alone, KeepsToItself, ProcessStandsAlike, StandsAgainAlone}
use Rattle.dk_alone.proofs.Cycles.{program-there, stands-alone}
use Rattle.dk_alone.proofs.stand_alone_law.Goals as goal

pub returns : goal.returns
returns c config program p s k cycles n checked accepted =
    subst (λ (z : List ℕ). KeepsToItself config p z → StandsAgainAlone config p z s k
    → ProcessStandsAlike config p (alone config p z (s + cycles * k + n)) (alone config p z (s + n)))
    (program-there p program)
    (λ keeps again. stands-alone config (replicate (suc p) program) p checked accepted c.audited_law.ensures c.cause_law.ensures c.spent_law.ensures c.begin_law.ensures keeps s k again cycles n)
