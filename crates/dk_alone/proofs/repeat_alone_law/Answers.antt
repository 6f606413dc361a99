use Rattle.dk_alone.proofs.Names.{ℕ, suc, ◌≡◌, ◌+◌, ◌*◌, List, subst, take, replicate, alone, KeepsToItself, StandsAgainAlone}
use Rattle.dk_alone.proofs.Cycles.{program-there, cycles-alone}
use Rattle.dk_alone.proofs.repeat_alone_law.Goals as goal

pub returns : goal.returns
returns c config program p s k cycles m n checked accepted =
    subst (λ (z : List ℕ). KeepsToItself config p z → StandsAgainAlone config p z s k
    → take n (alone config p z (s + cycles * k + m + n)).past ≡ take n (alone config p z (s + m + n)).past)
    (program-there p program)
    (λ keeps again. cycles-alone config (replicate (suc p) program) p checked accepted c.audited_law.ensures c.cause_law.ensures c.spent_law.ensures c.begin_law.ensures keeps s k again cycles m n)
