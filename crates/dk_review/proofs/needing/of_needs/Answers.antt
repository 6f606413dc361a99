use Rattle.dk_review.proofs.Needed.{decided}
use Rattle.dk_review.proofs.needing.of_needs.Goals as goal

pub returns : goal.returns
returns c =
    decided c.args.config.now c.args.needs.now c.in_ok-found.found c.of_found.result c.in_ok-found.ensures c.of_found.ensures
