use Rattle.dk_warnings.specs.Found.{of_mutex}
use Rattle.dk_warnings.proofs.Adding.{each_added}
use Rattle.dk_warnings.proofs.listing.add_of_mutexes.Goals as goal

pub loop-mutex-preserved : goal.loop-mutex-preserved
loop-mutex-preserved c =
    each_added (of_mutex c.args.config.now) c.loop-mutex.mutex c.args.found.now.items c.loop-mutex.found.items c.add_of_mutex.new.found.items c.in_ok-add_of_mutex.ensures c.loop-mutex.invariant
