use Rattle.dk_show.proofs.Names.{inl, arith}
use Rattle.dk_show.proofs.Coming.{is_drawn}
use Rattle.dk_show.proofs.making.within.Goals as goal

pub returns-clause-comes : goal.returns-clause-comes
returns-clause-comes c = λ j readable is count text has.
    let range = c.range_within-range.result in
    inl (is_drawn c.args.request.now j has.0 c.args.bytes.items text range.from range.to c.args.ticks readable is has.1 has.2 count (omega arith)
    c.range_within-range.ensures.from c.range_within-range.ensures.to has.3)
