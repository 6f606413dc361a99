use Rattle.std.proofs.Common.{refl}
use Rattle.dk_review.proofs.reviewing.of_uncertified.Goals as goal

pub returns : goal.returns
returns c =
    let none = c.none-none.ensures in
    record {
      told = c.in_ok-told.told;
      added = c.none-none.result;
      is_told = c.in_ok-told.ensures;
      alone = record { tile = none.tile; file = none.file; sections = none.sections; outputs = none.outputs };
      page = c.in_ok-bytes.ensures;
      ends = refl;
    }
