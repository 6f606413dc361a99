use Rattle.std.proofs.Common.{length}
use Rattle.dk_threads.proofs.Stops.{child-exits, child-deleted, process-stopped}
use Rattle.dk_threads.proofs.laws.stops_keep_the_recount.Goals as goal

pub returns-clause-process : goal.returns-clause-process
returns-clause-process c = λ k label past table p event checked families known of end is.
    process-stopped k label past table p event checked families known of end (λ i. c.windows_are_the_configurations.ensures.ends k (length past) i) is

pub returns-clause-exit : goal.returns-clause-exit
returns-clause-exit c = λ k label past table x event checked families known child running of end is.
    child-exits k label past table x event checked families known child running of end (λ i. c.windows_are_the_configurations.ensures.ends k (length past) i) is

pub returns-clause-delete : goal.returns-clause-delete
returns-clause-delete c = λ k label past table x checked families known child running of is.
    child-deleted k label past table x checked families known child running of (λ i. c.windows_are_the_configurations.ensures.ends k (length past) i) is
