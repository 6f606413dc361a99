use Rattle.dk_warnings.specs.Found.{of_user}
use Rattle.dk_warnings.proofs.Adding.{each_added}
use Rattle.dk_warnings.proofs.listing.add_of_users.Goals as goal

pub loop-process-preserved : goal.loop-process-preserved
loop-process-preserved c =
    each_added (of_user c.args.config.now c.args.mutex) c.loop-process.process c.args.found.now.items c.loop-process.found.items c.add_of_user.new.found.items c.in_ok-add_of_user.ensures c.loop-process.invariant
