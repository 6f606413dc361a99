use Rattle.dk_repeat_search.proofs.Names.{◌∙◌, ◌∷◌, ap, trace_of}
use Rattle.dk_repeat_search.proofs.Counting.{count-next, count-quiet}
use Rattle.dk_repeat_search.proofs.count.count_some.Goals as goal

pub returns-in-Some-clause-counts : goal.returns-in-Some-clause-counts
returns-in-Some-clause-counts g c =
    let at = c.in-Some.ensures in
    count-quiet c.args.counts.now c.add_quiet.new.self c.args.kernel.now c.at_once.new.self c.in-Some.stretch at.entries at.some at.computes c.add_quiet.ensures.counts

pub returns-clause-counts : goal.returns-clause-counts
returns-clause-counts g c =
    count-next c.args.counts.now c.add.new.self c.args.kernel.now c.tick.new.self c.tick.result
    (c.tick.ensures.entry ∙ ap (λ k. c.tick.result ∷ trace_of k) c.in_default.ensures.next) c.add.ensures.counts
