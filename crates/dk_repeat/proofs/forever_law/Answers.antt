use Rattle.dk_repeat.proofs.Repeating.{for-ever}
use Rattle.dk_repeat.proofs.forever_law.Goals as goal

pub returns : goal.returns
returns c config programs s k cycles n checked accepted again =
    for-ever config programs s k (λ m. c.repeat_law.ensures config programs s k m checked accepted again) cycles n
