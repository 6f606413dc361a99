-- The laws hold of the run that is so much longer.
use Rattle.dk_kernel.proofs.kernel.Kernel.run.Goals as goal

pub returns-clause-alone : goal.returns-clause-alone
returns-clause-alone g c = λ p others keeps same at.
    let k = c.go_on-outcome.new.kernel in
    let ruled = c.keeps_laws.ensures.ruled in
    c.own_time_law.ensures k.config k.programs others p k.ticks ruled.checked ruled.accepted keeps same at
