use Rattle.dk_cycle.proofs.Names.{refl}
use Rattle.dk_cycle.proofs.FindingRun.{follows-on}
use Rattle.dk_cycle.proofs.Stands.{followed}
use Rattle.dk_cycle.proofs.run.RunSearch.follow.Goals as goal

pub returns-clause-run : goal.returns-clause-run
returns-clause-run c = λ config programs checked accepted is adds here.
    followed config programs c.args.tick c.args.self.now c.args.entry.now c.args.reader c.last_reader-self.result c.last_made-self.result c.goes_on-self.result c.kept_law.ensures c.reads_law.ensures
    c.goes_on-self.ensures.same c.last_reader-self.ensures c.last_made-self.ensures checked accepted is adds here

pub returns-clause-looked : goal.returns-clause-looked
returns-clause-looked c =
    follows-on c.args.self.now c.args.tick c.args.entry.now c.args.reader c.goes_on-self.result
    (record c.args.self.now { reader = c.last_reader-self.result; made = c.last_made-self.result; kept = c.goes_on-self.result })
    c.goes_on-self.ensures.only refl refl refl
