use Rattle.dk_cycle_start.proofs.AtOnce.{search-quiet}
use Rattle.dk_cycle_start.proofs.walk.advance.Goals as goal

pub returns-then-quiet-gt0-clause-is : goal.returns-then-quiet-gt0-clause-is
returns-then-quiet-gt0-clause-is g c =
    search-quiet c.args.late.now c.go_quietly-quiet.new.kernel c.args.search.now c.go_quietly-quiet.result c.stretch_law.ensures.start c.go_quietly-quiet.ensures.next
    c.go_quietly-quiet.ensures.checked c.go_quietly-quiet.ensures.accepted c.go_quietly-quiet.ensures.quiet c.requires.is
