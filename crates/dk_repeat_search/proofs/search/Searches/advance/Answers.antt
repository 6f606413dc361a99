use Rattle.dk_repeat_search.proofs.Reading.{looked-quiet, searching-quiet}
use Rattle.dk_repeat_search.proofs.search.Searches.advance.Goals as goal

pub returns-then-quiet-gt0-clause-is : goal.returns-then-quiet-gt0-clause-is
returns-then-quiet-gt0-clause-is g c =
    searching-quiet c.args.kernel.now c.go_quietly-quiet.new.kernel c.args.self.now c.go_quietly-quiet.result c.stretch_law.ensures.run c.go_quietly-quiet.ensures.next
    c.go_quietly-quiet.ensures.checked c.go_quietly-quiet.ensures.accepted c.go_quietly-quiet.ensures.quiet c.requires.is

pub returns-then-quiet-gt0-clause-looked : goal.returns-then-quiet-gt0-clause-looked
returns-then-quiet-gt0-clause-looked g c n looked =
    looked-quiet c.args.kernel.now c.go_quietly-quiet.new.kernel c.args.self.now c.go_quietly-quiet.result n c.go_quietly-quiet.ensures.next looked

pub returns-clause-looked : goal.returns-clause-looked
returns-clause-looked g c n looked =
    c.follow.ensures.looked n (looked-quiet c.args.kernel.now c.go_quietly-quiet.new.kernel c.args.self.now c.go_quietly-quiet.result n c.go_quietly-quiet.ensures.next looked)
