use Rattle.dk_ready.proofs.Names.{◌∷◌, length, quiet}
use Rattle.dk_ready.proofs.Moving.{jobs-keep, spent-moves}
use Rattle.dk_ready.proofs.KernelParts.{others-keep, tick-spends}
use Rattle.dk_ready.proofs.laws.tick_keeps_the_recount.Goals as goal

pub returns : goal.returns
returns c = record {
  budget = λ node_of sits k label past r x is seated among there inside moves own.
      spent-moves node_of sits k (length past) past (quiet label ∷ past) r x is seated among there inside moves own;
  others = jobs-keep;
  kernel = tick-spends;
  parts = others-keep;
}
