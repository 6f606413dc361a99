use Rattle.std.proofs.Common.{◌≡◌, replicate, Some, arith}
use Rattle.dk_rail.proofs.PlacesLemmas.{all_zero, numbers-zero, filled-zero}
use Rattle.dk_rail.proofs.block.Block.new.Goals as goal

zeros : (c : goal.After-loop-index) → c.loop-index.cells.slots ≡ replicate c.args.count (Some 0)
zeros c = all_zero c.loop-index.cells.slots c.args.count c.loop-index.invariant.many (λ i inside. c.loop-index.invariant.filled i (omega (arith, c.loop-index-test.false)))

pub invariant_of-result : goal.invariant_of-result
invariant_of-result c =
    let made = c.in_ok-base.ensures in (
      record {
        cells = c.loop-index.invariant.cells;
        deed = made.2;
        filled = filled-zero c.loop-index.cells.slots c.args.count (zeros c);
        many = c.loop-index.invariant.many;
        owed = made.3;
      },
      made.4,
    )

pub returns : goal.returns
returns c = numbers-zero c.loop-index.cells.slots c.args.count (zeros c)
