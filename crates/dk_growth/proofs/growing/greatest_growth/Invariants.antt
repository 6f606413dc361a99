use Rattle.std.proofs.Common.{◌-◌}
use Rattle.dk_growth.proofs.Searching.{Between}
use Rattle.dk_growth.proofs.growing.greatest_growth.Given as goal

abbrev pub invariant-loop-most : goal.invariant-loop-most
invariant-loop-most l = Between l.config l.most l.too_many

abbrev pub decreases-loop-most : goal.decreases-loop-most
decreases-loop-most l = l.too_many - l.most
