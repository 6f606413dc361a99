use Rattle.dk_ready.proofs.KernelParts.{parts-start}
use Rattle.dk_ready.proofs.Seated.{seats-start}
use Rattle.dk_ready.proofs.laws.start_is_the_recount.Goals as goal

pub returns : goal.returns
returns c = record {
  seats = λ node_of sits k checked nodes. seats-start c.start_is_the_recount.ensures node_of k checked nodes sits;
  parts = parts-start;
}
