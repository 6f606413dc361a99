use Rattle.dk_cycle_start.proofs.Walking.{search-next}
use Rattle.dk_cycle_start.proofs.walk.follow.Goals as goal

pub returns-clause-is : goal.returns-clause-is
returns-clause-is g c =
    search-next c.args.late.now c.tick-entry.new.self c.args.search.now c.follow.new.self c.tick-entry.result c.reader_of-reader.result c.now-tick.result
    c.now-tick.ensures.ticks c.tick-entry.ensures.next c.tick-entry.ensures.entry c.dispatcher.ensures.ruled.checked c.dispatcher.ensures.ruled.accepted c.requires.is
    c.reader_of-reader.ensures c.follow.ensures
