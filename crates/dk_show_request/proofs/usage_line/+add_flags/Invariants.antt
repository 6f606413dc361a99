use Rattle.std.proofs.Common.{length}
use Rattle.dk_show_request.proofs.usage_line.+add_flags.Given as goal

abbrev pub decreases-add_flags : goal.decreases-add_flags
decreases-add_flags l = length l.names.now
