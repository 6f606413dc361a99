use Rattle.std.proofs.Common.{◌≡◌, ℕ, ◌<◌, length, get_or, Some, None}
use Rattle.dk_rail.proofs.block.Block.new.Given as goal

abbrev pub invariant-loop-index : goal.invariant-loop-index
invariant-loop-index l = record {
  cells : l.cells.at ≡ l.base.ptr;
  many : length l.cells.slots ≡ l.count;
  filled : (i : ℕ) → i < l.index → get_or l.cells.slots i None ≡ Some 0;
}
