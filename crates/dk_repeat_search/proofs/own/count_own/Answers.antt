use Rattle.dk_repeat_search.proofs.Names.{sym, subst, UsesOne}
use Rattle.dk_repeat_search.proofs.Owning.{own-counted}
use Rattle.dk_repeat_search.proofs.own.count_own.Goals as goal

pub returns-clause-counted : goal.returns-clause-counted
returns-clause-counted g c =
    let k = c.args.kernel.now in
    subst (UsesOne k.config k.programs c.args.process c.args.cycle) (sym c.index.ensures)
    (own-counted k.config k.programs c.args.process c.args.share c.args.cycle c.in_ok-counts.counts c.index.result.now c.requires.share c.in_ok-counts.ensures.counts)
