use Rattle.dk_repeat_search.proofs.Names.{◌∙◌, sym, ap, subst, Running, Follows, FollowsOn}
use Rattle.dk_repeat_search.proofs.Reading.{looked-next, searching-next}
use Rattle.dk_repeat_search.proofs.search.Searches.follow.Goals as goal

pub reader_of-reader-requires : goal.reader_of-reader-requires
reader_of-reader-requires g c =
    c.as_slice.ensures.value ∙ c.requires.is.programs ∙ sym (ap (λ (r : Running). r.programs) c.tick-entry.ensures.next)

pub returns-clause-is : goal.returns-clause-is
returns-clause-is g c =
    searching-next c.args.kernel.now c.tick-entry.new.self c.args.self.now c.tick-entry.result c.reader_of-reader.result c.follow.new.self
    c.tick-entry.ensures.next c.tick-entry.ensures.entry c.dispatcher.ensures.ruled.checked c.dispatcher.ensures.ruled.accepted c.requires.is c.reader_of-reader.ensures
    (subst (λ n. Follows c.args.self.now.run n c.tick-entry.result c.reader_of-reader.result c.follow.new.self) c.now-tick.ensures.ticks c.follow.ensures.run)

pub returns-clause-looked : goal.returns-clause-looked
returns-clause-looked g c n looked =
    looked-next c.args.kernel.now c.tick-entry.new.self c.args.self.now c.tick-entry.result c.reader_of-reader.result c.follow.new.self n
    c.tick-entry.ensures.next c.tick-entry.ensures.entry c.requires.is c.reader_of-reader.ensures
    (subst (λ n. FollowsOn c.args.self.now.run n c.tick-entry.result c.reader_of-reader.result c.follow.new.self) c.now-tick.ensures.ticks c.follow.ensures.looked) looked
