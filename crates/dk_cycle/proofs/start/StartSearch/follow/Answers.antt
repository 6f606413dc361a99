use Rattle.dk_cycle.proofs.Names.{rules, ◌≡◌, true}
use Rattle.dk_cycle.proofs.Starts.{start-loud, start-quiet}
use Rattle.dk_cycle.proofs.start.StartSearch.follow.Goals as goal

pub returns-then-not-goes_on : goal.returns-then-not-goes_on
returns-then-not-goes_on c = λ config programs checked accepted is adds here.
    start-loud config programs c.args.tick c.args.self.now c.args.entry.now c.args.reader is adds here
    (λ goes. let yes = c.goes_on.ensures.only goes in let no = c.if-not-goes_on.true in cc)

pub returns-else-not-goes_on : goal.returns-else-not-goes_on
returns-else-not-goes_on c = λ config programs checked accepted is adds here.
    let yes : c.goes_on.result ≡ true = search rules in
    start-quiet config programs c.args.tick c.args.self.now c.args.entry.now c.args.reader c.kept_law.ensures c.reads_law.ensures checked accepted is adds here
    (c.goes_on.ensures.same yes)
