use Rattle.std.proofs.Common.{length}
use Rattle.dk_show_request.proofs.usage_line.+add_usages.Given as goal

abbrev pub decreases-add_usages : goal.decreases-add_usages
decreases-add_usages l = length l.rows.now
