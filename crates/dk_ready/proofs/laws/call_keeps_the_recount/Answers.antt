use Rattle.dk_ready.proofs.Names.{◌∷◌, length, quiet}
use Rattle.dk_ready.proofs.Moving.{closed-moves}
use Rattle.dk_ready.proofs.KernelParts.{event-keeps}
use Rattle.dk_ready.proofs.laws.call_keeps_the_recount.Goals as goal

pub returns : goal.returns
returns c = record {
  wait = λ node_of sits k e past r x is seated among there inside moves own.
      closed-moves node_of sits k (length past) (quiet e.label ∷ past) (e ∷ past) r x is seated among there inside moves own;
  parts = event-keeps;
}
