use Rattle.dk_asm.proofs.Listings.{none_below}
use Rattle.dk_asm.proofs.listing.instruction.Goals as goal

pub returns-in_default : goal.returns-in_default
returns-in_default c = none_below c.args.group.now c.in_default.len_below
