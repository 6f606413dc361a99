use Rattle.dk_threads.proofs.Births.{born}
use Rattle.dk_threads.proofs.Recounting.{booked}
use Rattle.dk_threads.proofs.laws.call_keeps_the_recount.Goals as goal

pub returns-clause-create : goal.returns-clause-create
returns-clause-create c = λ k label past table p serial level quota checked known level_known of next is. born k label past table p serial level quota checked known level_known of next is

pub returns-clause-others : goal.returns-clause-others
returns-clause-others c = λ k e past table quiet is. booked k e past table quiet is
