use Rattle.dk_dispatch.proofs.Names.{arith, ◌^◌}
use Rattle.dk_dispatch.proofs.Sums.{added-row, slower-row}
use Rattle.dk_dispatch.proofs.opening.add_share.Goals as goal

pub returns-then-row-last : goal.returns-then-row-last
returns-then-row-last c =
    added-row c.args.loans.now c.args.windows.now c.args.last c.args.row (2 ^ 32) c.share_of.result c.args.sums.now (omega arith) c.share_of.ensures (omega arith)

pub returns-else-row-last : goal.returns-else-row-last
returns-else-row-last c =
    slower-row c.args.loans.now c.args.windows.now c.args.last c.args.row (2 ^ 32) c.args.sums.now (omega arith)
