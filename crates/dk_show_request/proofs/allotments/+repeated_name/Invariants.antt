use Rattle.std.proofs.Common.{length}
use Rattle.dk_show_request.proofs.allotments.+repeated_name.Given as goal

abbrev pub decreases-repeated_name : goal.decreases-repeated_name
decreases-repeated_name l = length l.words.now
