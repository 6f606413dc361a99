use Rattle.std.proofs.Common.{◌+◌, refl, arith}
use Rattle.dk_cycle_counts.proofs.Steps.{counts-next}
use Rattle.dk_cycle_counts.proofs.counts.CycleCounts.add.Goals as goal

pub returns-clause-counts : goal.returns-clause-counts
returns-clause-counts c = λ shares es is.
    let old = c.args.self.now in
    let room = c.requires in
    counts-next old (record { ticks = old.ticks + 1; totals = c.add.new.self; processes = c.add_to_all.new.processes }) shares c.args.entry es
    c.row_law.ensures.step (omega (arith, room)) is refl c.add.ensures c.add_to_all.ensures
