use Rattle.dk_mutex.proofs.Names.{◌∙◌, ap, sym, is_some}
use Rattle.dk_mutex.proofs.Marking.{unheld-process}
use Rattle.dk_mutex.proofs.front.Front.may_be_of.Goals as goal

pub returns-in-None : goal.returns-in-None
returns-in-None c = λ off. unheld-process c.args.process c.args.rows.now (sym c.requires ∙ ap is_some c.in-None.is)
